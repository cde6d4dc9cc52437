use Rattle.std.proofs.Common.{◌++◌, ◌≤◌, List, length}
use Rattle.gv_lex.specs.declared.token.Token.{Token}
use Rattle.gv_tree.specs.declared.stmt.Var.{Var}
use Rattle.gv_grammar.specs.Phrases.{Nothing}
use Rattle.gv_grammar.specs.Stmts.{AreVars}
use Rattle.gv_cursor.specs.Reading.{Stopped}
use Rattle.gv_decls.proofs.values.Values.vars.Given as goal

abbrev pub invariant-loop-vars : goal.invariant-loop-vars
invariant-loop-vars g l = record {
  shorter : length l.cursor.rest.now ≤ length l.fn.cursor.rest.now;
  sound : (xs : List Var) (rest : List Token) → AreVars l.self.tokens.now xs l.cursor.rest.now rest → AreVars l.self.tokens.now (l.vars ++ xs) l.fn.cursor.rest.now rest;
  refused : Nothing (Stopped (AreVars l.self.tokens.now)) l.cursor.rest.now → Nothing (Stopped (AreVars l.self.tokens.now)) l.fn.cursor.rest.now;
}

abbrev pub decreases-loop-vars : goal.decreases-loop-vars
decreases-loop-vars g l = length l.cursor.rest.now
