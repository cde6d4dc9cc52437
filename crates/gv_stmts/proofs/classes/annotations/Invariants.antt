use Rattle.std.proofs.Common.{◌++◌, List, length}
use Rattle.gv_lex.specs.declared.token.Token.{Token}
use Rattle.gv_tree.specs.declared.top.Annotation.{Annotation}
use Rattle.gv_grammar.specs.Phrases.{Nothing}
use Rattle.gv_grammar.specs.Scripts.{AreAnnotations}
use Rattle.gv_stmts.proofs.classes.annotations.Given as goal

abbrev pub invariant-loop-alloc : goal.invariant-loop-alloc
invariant-loop-alloc l = record {
  sound : (xs : List Annotation) (rest : List Token) → AreAnnotations l.tokens xs l.cursor.rest.now rest → AreAnnotations l.tokens (l.annotations ++ xs) l.fn.cursor.rest.now rest;
  refused : Nothing (AreAnnotations l.tokens) l.cursor.rest.now → Nothing (AreAnnotations l.tokens) l.fn.cursor.rest.now;
}

abbrev pub decreases-loop-alloc : goal.decreases-loop-alloc
decreases-loop-alloc l = length l.cursor.rest.now
