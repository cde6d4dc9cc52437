use Rattle.std.proofs.Common.{◌++◌, ◌≤◌, List, length}
use Rattle.gv_lex.specs.declared.token.Token.{Token}
use Rattle.gv_tree.specs.declared.expr.Expr.{Expr}
use Rattle.gv_grammar.specs.Phrases.{Nothing}
use Rattle.gv_grammar.specs.Exprs.{AreIndexes}
use Rattle.gv_exprs.proofs.reader.Exprs.indexes.Given as goal

abbrev pub invariant-loop-indexes : goal.invariant-loop-indexes
invariant-loop-indexes g l = record {
  shorter : length l.tokens.rest.now ≤ length l.fn.tokens.rest.now;
  sound : (xs : List Expr) (rest : List Token) → AreIndexes l.self.all xs l.tokens.rest.now rest → AreIndexes l.self.all (l.indexes ++ xs) l.fn.tokens.rest.now rest;
  refused : Nothing (AreIndexes l.self.all) l.tokens.rest.now → Nothing (AreIndexes l.self.all) l.fn.tokens.rest.now;
}

abbrev pub decreases-loop-indexes : goal.decreases-loop-indexes
decreases-loop-indexes g l = length l.tokens.rest.now
