use Rattle.std.proofs.Common.{◌∙◌, refl, arith}
use Rattle.gv_texts.proofs.Backward.{drop_before}
use Rattle.gv_searches.proofs.starts.put_values.Goals as goal

pub loop-at-preserved : goal.loop-at-preserved
loop-at-preserved c =
    let held = drop_before c.args.entries.now c.loop-at.at (c.at.result.0.now, c.at.result.1) (omega (arith, c.loop-at-test.true)) c.at.ensures in
    (omega (arith, c.loop-at.invariant), c.in_ok-push.ensures.ok ∙ rw (held, c.loop-at.invariant.1) refl)
