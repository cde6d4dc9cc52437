use Rattle.std.proofs.Common.{◌++◌, List, length}
use Rattle.gv_lex.specs.declared.token.Token.{Token}
use Rattle.gv_tree.specs.declared.ops.Ident.{Ident}
use Rattle.gv_grammar.specs.Phrases.{Nothing}
use Rattle.gv_grammar.specs.Scripts.{IsDotted}
use Rattle.gv_stmts.proofs.classes.dotted.Given as goal

abbrev pub invariant-loop-names : goal.invariant-loop-names
invariant-loop-names l = record {
  sound : (xs : List Ident) (rest : List Token) → IsDotted xs l.cursor.rest.now rest → IsDotted (l.names ++ xs) l.fn.cursor.rest.now rest;
  refused : Nothing IsDotted l.cursor.rest.now → Nothing IsDotted l.fn.cursor.rest.now;
}

abbrev pub decreases-loop-names : goal.decreases-loop-names
decreases-loop-names l = length l.cursor.rest.now
