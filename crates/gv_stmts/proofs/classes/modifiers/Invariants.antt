use Rattle.std.proofs.Common.{List, length}
use Rattle.gv_lex.specs.declared.token.Token.{Token}
use Rattle.gv_tree.specs.declared.ops.Modifiers.{Modifiers}
use Rattle.gv_grammar.specs.Scripts.{AreModifiers}
use Rattle.gv_stmts.proofs.Leads.{joined}
use Rattle.gv_stmts.proofs.classes.modifiers.Given as goal

-- the modifiers from here on, behind those that are found, are those from the start on
abbrev pub invariant-loop-more : goal.invariant-loop-more
invariant-loop-more l = (m : Modifiers) (after : List Token) → AreModifiers m l.cursor.rest.now after → AreModifiers (joined l.found m) l.fn.cursor.rest.now after

abbrev pub decreases-loop-more : goal.decreases-loop-more
decreases-loop-more l = length l.cursor.rest.now
