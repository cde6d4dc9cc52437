use Rattle.std.proofs.Common.{◌≡◌, ◌∙◌, arith}
use Rattle.gv_texts.proofs.Backward.{element_put}
use Rattle.gv_texts.proofs.opened.put_elements.Goals as goal

pub loop-at-preserved : goal.loop-at-preserved
loop-at-preserved c = (
  omega (arith, c.loop-at.invariant, c.loop-at-test.true),
  omega (arith, c.loop-at-test.true),
  c.in_ok-push-4.ensures.ok ∙ rw (c.in_ok-push-3.ensures.ok, c.in_ok-inner.ensures, c.loop-at.invariant.2) (element_put c.args.sequence.now c.args.todo.now c.loop-at.at c.get.result (omega (arith, c.loop-at-test.true)) c.get.ensures),
)
