use Rattle.std.proofs.Common.{◌++◌, ◌≤◌, List, length}
use Rattle.gv_lex.specs.declared.token.Token.{Token}
use Rattle.gv_tree.specs.declared.top.Top.{Top}
use Rattle.gv_grammar.specs.Phrases.{Nothing}
use Rattle.gv_grammar.specs.Scripts.{AreTops}
use Rattle.gv_stmts.proofs.script.tops.Given as goal

abbrev pub invariant-loop : goal.invariant-loop
invariant-loop l = record {
  shorter : length l.cursor.rest.now ≤ length l.initial.cursor.rest.now;
  sound : (xs : List Top) (rest : List Token) → AreTops l.tokens xs l.cursor.rest.now rest → AreTops l.tokens (l.tops ++ xs) l.fn.cursor.rest.now rest;
  refused : Nothing (AreTops l.tokens) l.cursor.rest.now → Nothing (AreTops l.tokens) l.fn.cursor.rest.now;
}

abbrev pub decreases-loop : goal.decreases-loop
decreases-loop l = length l.cursor.rest.now

abbrev pub invariant-loop-cursor : goal.invariant-loop-cursor
invariant-loop-cursor l = record {
  sound : (xs : List Top) (rest : List Token) → AreTops l.tokens xs l.cursor.rest.now rest → AreTops l.tokens (l.tops ++ xs) l.fn.cursor.rest.now rest;
  refused : Nothing (AreTops l.tokens) l.cursor.rest.now → Nothing (AreTops l.tokens) l.fn.cursor.rest.now;
}

abbrev pub decreases-loop-cursor : goal.decreases-loop-cursor
decreases-loop-cursor l = length l.cursor.rest.now
