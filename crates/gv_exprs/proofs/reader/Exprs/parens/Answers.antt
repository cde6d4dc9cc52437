use Rattle.std.proofs.Common.{arith}
use Rattle.gv_spelling.specs.declared.kinds.Symbol.TheVariants as symbol
use Rattle.gv_grammar.specs.Tokens.{Eats}
use Rattle.gv_grammar.specs.Exprs.{IsExpr, IsPrimary, parens}
use Rattle.gv_grammar.proofs.LongerPaths as longer
use Rattle.gv_cursor.proofs.Results.{passed_on, unexpected_on}
use Rattle.gv_exprs.proofs.ResultsPaths.{passed, passed_less}
use Rattle.gv_exprs.proofs.reader.Exprs.parens.Goals as goal

pub inner_expr-requires-clause-shorter : goal.inner_expr-requires-clause-shorter
inner_expr-requires-clause-shorter g c = let a = passed_less c.args.tokens.now.rest.now c.advance.new.self.rest.now c.requires.next c.advance.ensures in omega arith

pub returns-in_err-inner : goal.returns-in_err-inner
returns-in_err-inner g c = passed_on (IsExpr c.args.self.now.all) (IsPrimary c.args.self.now.all) _ _ _ _ c.from_residual.result (c.from_residual.ensures.1)
    (λ f. longer.no_parens_inner c.args.self.now.all (passed _ c.requires.next c.advance.ensures) f) (c.in_err-inner.ensures)

pub returns-in_err-expect : goal.returns-in_err-expect
returns-in_err-expect g c = unexpected_on (IsPrimary c.args.self.now.all) (Eats symbol.RightParen) _ _ _ _ _ c.from_residual-in_err-expect.result (c.from_residual-in_err-expect.ensures.1)
    (λ f. longer.no_parens_close c.args.self.now.all (passed _ c.requires.next c.advance.ensures) (c.in_ok-inner.ensures) f) (c.in_err-expect.ensures)

pub returns : goal.returns
returns g c = rw (c.place-place.ensures, c.in_ok-new.ensures) (longer.long_primary c.args.self.now.all (parens (passed _ c.requires.next c.advance.ensures) (c.in_ok-inner.ensures.is) (c.in_ok-expect.ensures)))
