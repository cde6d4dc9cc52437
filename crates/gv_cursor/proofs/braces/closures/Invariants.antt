use Rattle.std.proofs.Common.{◌≡◌, ◌++◌, List, length}
use Rattle.gv_lex.specs.declared.token.Token.{Token}
use Rattle.gv_tree.specs.declared.expr.Expr.{Expr}
use Rattle.gv_grammar.specs.Exprs.{AreClosures, plain}
use Rattle.gv_cursor.proofs.braces.closures.Given as goal

abbrev pub invariant-loop-closure : goal.invariant-loop-closure
invariant-loop-closure l = record {
  gs : List Expr;
  told : l.found ≡ l.initial.found ++ plain l.all gs;
  sound : (fs : List Expr) (rest : List Token) → AreClosures l.all fs l.tokens.rest.now rest → AreClosures l.all (gs ++ fs) l.initial.tokens.rest.now rest;
}

abbrev pub decreases-loop-closure : goal.decreases-loop-closure
decreases-loop-closure l = length l.tokens.rest.now
