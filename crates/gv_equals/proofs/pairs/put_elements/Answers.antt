use Rattle.std.proofs.Common.{◌≡◌, ◌∙◌, refl, arith}
use Rattle.gv_texts.proofs.Backward.{drop_before}
use Rattle.gv_equals.proofs.Ended.{ended}
use Rattle.gv_equals.proofs.pairs.put_elements.Goals as goal

pub loop-at-init : goal.loop-at-init
loop-at-init c = (
  omega (arith, c.min-at.ensures, c.len.ensures, c.len-2.ensures),
  omega (arith, c.min-at.ensures, c.len.ensures, c.len-2.ensures),
  ended c.args.left.now c.args.right.now c.args.todo.now c.min-at.result (omega (arith, c.min-at.ensures, c.len.ensures, c.len-2.ensures)),
)

pub loop-at-preserved : goal.loop-at-preserved
loop-at-preserved c =
    let left = drop_before c.args.left.now c.loop-at.at c.get.result (omega (arith, c.loop-at-test.true)) c.get.ensures in
    let right = drop_before c.args.right.now c.loop-at.at c.get-in-loop-at.result (omega (arith, c.loop-at-test.true)) c.get-in-loop-at.ensures in
    (omega (arith, c.loop-at.invariant), omega (arith, c.loop-at.invariant), c.in_ok-push.ensures.ok ∙ rw (left, right, c.loop-at.invariant.2) refl)
