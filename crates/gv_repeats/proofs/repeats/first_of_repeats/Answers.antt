use Rattle.std.proofs.Common.{◌∙◌}
use Rattle.gv_repeats.proofs.Steps.{passed}
use Rattle.gv_repeats.proofs.repeats.first_of_repeats.Goals as goal

pub loop-number-preserved : goal.loop-number-preserved
loop-number-preserved c = passed c.args.classes.now c.args.file c.loop-number.number c.get.result.now c.loop-number.first c.in_ok-first.first c.get.ensures.declared c.in_ok-first.ensures ∙ c.loop-number.invariant
