use Rattle.std.proofs.Common.{◌∙◌, refl, arith}
use Rattle.gv_texts.proofs.Backward.{drop_before}
use Rattle.gv_hashes.proofs.opened.put_entries.Goals as goal

pub loop-at-preserved : goal.loop-at-preserved
loop-at-preserved c =
    let entries = drop_before c.args.entries.now c.loop-at.at (c.at.result.0.now, c.at.result.1) (omega (arith, c.loop-at-test.true)) c.at.ensures in
    (omega (arith, c.loop-at.invariant), c.in_ok-push-3.ensures.ok ∙ rw (c.in_ok-push-2.ensures.ok, c.in_ok-push.ensures.ok, c.loop-at.invariant.1, entries) refl)
