use Rattle.std.proofs.Common.{◌≡◌, ◌∙◌, arith}
use Rattle.gv_texts.proofs.Backward.{entry_put}
use Rattle.gv_texts.proofs.opened.put_entries.Goals as goal

pub loop-at-preserved : goal.loop-at-preserved
loop-at-preserved c = (
  omega (arith, c.loop-at.invariant, c.loop-at-test.true),
  omega (arith, c.loop-at-test.true),
  c.in_ok-push-3.ensures.ok ∙ rw (c.in_ok-put_entry.ensures, c.loop-at.invariant.2) (entry_put c.args.entries.now c.args.todo.now c.loop-at.at (c.at.result.0.now, c.at.result.1) (omega (arith, c.loop-at-test.true)) c.at.ensures),
)
