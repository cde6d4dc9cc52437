use Rattle.std.proofs.Common.{◌∙◌, sym}
use Rattle.gv_spelling.proofs.Longest.{comment_longest}
use Rattle.gv_spelling.proofs.next.comment.Goals as goal

pub returns-in-Some : goal.returns-in-Some
returns-in-Some c = comment_longest c.args.text.now c.in-Some.len (sym c.closing.ensures.value ∙ c.in-Some.is) c.in-Some.ensures.within.1
