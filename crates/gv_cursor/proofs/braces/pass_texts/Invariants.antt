use Rattle.std.proofs.Common.{◌≡◌, ◌+◌, ◌≤◌, length}
use Rattle.gv_grammar.specs.Exprs.{behind_texts}
use Rattle.gv_cursor.proofs.braces.pass_texts.Given as goal

abbrev pub invariant-loop-left : goal.invariant-loop-left
invariant-loop-left l = record { texts : behind_texts l.left l.tokens.rest.now ≡ behind_texts 1 l.initial.tokens.rest.now; few : l.left + length l.tokens.rest.now ≤ length l.initial.tokens.rest.now + 1 }

abbrev pub decreases-loop-left : goal.decreases-loop-left
decreases-loop-left l = length l.tokens.rest.now
