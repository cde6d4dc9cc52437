use Rattle.std.proofs.Common.{◌∙◌, refl, arith}
use Rattle.gv_texts.proofs.Backward.{drop_before}
use Rattle.gv_joins.proofs.flat.put_elements.Goals as goal

pub loop-at-preserved : goal.loop-at-preserved
loop-at-preserved c =
    let elements = drop_before c.args.elements.now c.loop-at.at c.get.result (omega (arith, c.loop-at-test.true)) c.get.ensures in
    (omega (arith, c.loop-at.invariant), c.in_ok-push.ensures.ok ∙ rw (c.loop-at.invariant.1, elements) refl)
