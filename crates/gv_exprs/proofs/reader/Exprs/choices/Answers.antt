use Rattle.std.proofs.Common.{arith}
use Rattle.gv_spelling.specs.declared.kinds.Symbol.TheVariants as symbol
use Rattle.gv_grammar.specs.Tokens.{Eats}
use Rattle.gv_grammar.specs.Exprs.{IsExpr, AreChoices}
use Rattle.gv_grammar.proofs.Lengths.{less, of_eats, of_expr}
use Rattle.gv_grammar.proofs.LongerOperators as longer
use Rattle.gv_cursor.proofs.Results as results
use Rattle.gv_exprs.proofs.reader.Exprs.choices.Goals as goal

pub returns-in_err-expect : goal.returns-in_err-expect
returns-in_err-expect g c = results.unexpected_on (AreChoices c.args.self.now.all) (Eats symbol.Colon) _ _ _ _ _ c.from_residual-in_err-expect.result (c.from_residual-in_err-expect.ensures.1)
    (λ f. longer.no_colon_there c.args.self.now.all (c.in_ok-yes.ensures) f) (c.in_err-expect.ensures)

pub inner_expr-requires-2-clause-shorter : goal.inner_expr-requires-2-clause-shorter
inner_expr-requires-2-clause-shorter g c =
    let a = less (of_expr c.args.self.now.all (c.in_ok-yes.ensures.is)) in
    let b = less (of_eats (c.in_ok-expect.ensures)) in omega arith

pub returns-in_err-no : goal.returns-in_err-no
returns-in_err-no g c = results.passed_on (IsExpr c.args.self.now.all) (AreChoices c.args.self.now.all) _ _ _ _ c.from_residual-in_err-no.result (c.from_residual-in_err-no.ensures.1)
    (λ f. longer.no_second_choice c.args.self.now.all (c.in_ok-yes.ensures) (c.in_ok-expect.ensures) f) (c.in_err-no.ensures)

pub returns : goal.returns
returns g c = longer.long_choices c.args.self.now.all (c.in_ok-yes.ensures) (c.in_ok-expect.ensures) (c.in_ok-no.ensures)
