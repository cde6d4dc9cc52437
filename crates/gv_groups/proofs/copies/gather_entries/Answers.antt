use Rattle.std.proofs.Common.{◌∙◌}
use Rattle.gv_groups.proofs.Steps.{gathered_more}
use Rattle.gv_groups.proofs.copies.gather_entries.Goals as goal

pub loop-place-preserved : goal.loop-place-preserved
loop-place-preserved c =
    gathered_more c.args.held.now c.loop-place.place (c.at.result.0.now, c.at.result.1) c.in_ok-key.key c.loop-place.gathered c.put.new.self c.at.ensures c.in_ok-key.ensures c.in_ok-put.ensures
    ∙ c.loop-place.invariant
