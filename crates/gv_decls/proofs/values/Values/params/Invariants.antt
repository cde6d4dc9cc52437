use Rattle.std.proofs.Common.{◌++◌, ◌≤◌, List, length}
use Rattle.gv_lex.specs.declared.token.Token.{Token}
use Rattle.gv_tree.specs.declared.expr.Param.{Param}
use Rattle.gv_grammar.specs.Phrases.{Nothing}
use Rattle.gv_grammar.specs.Stmts.{AreParams, AreSomeParams}
use Rattle.gv_decls.proofs.values.Values.params.Given as goal

abbrev pub invariant-loop-params : goal.invariant-loop-params
invariant-loop-params g l = record {
  shorter : length l.cursor.rest.now ≤ length l.fn.cursor.rest.now;
  sound : (xs : List Param) (rest : List Token) → AreSomeParams l.self.tokens.now l.fn.close xs l.cursor.rest.now rest → AreParams l.self.tokens.now l.fn.close (l.params ++ xs) l.fn.cursor.rest.now rest;
  refused : Nothing (AreSomeParams l.self.tokens.now l.fn.close) l.cursor.rest.now → Nothing (AreParams l.self.tokens.now l.fn.close) l.fn.cursor.rest.now;
}

abbrev pub decreases-loop-params : goal.decreases-loop-params
decreases-loop-params g l = length l.cursor.rest.now
