use Rattle.gv_chars.proofs.Texts.{copies_more}
use Rattle.gv_chars.proofs.copies.push_copies.Goals as goal

pub loop-done-preserved : goal.loop-done-preserved
loop-done-preserved c = copies_more _ _ _ c.args.text.now c.loop-done.done c.utf8.text c.in_ok-push_str.ensures.bytes c.loop-done.invariant
