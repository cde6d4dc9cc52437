use Rattle.gv_lex.specs.declared.token.Part.TheVariants as form
use Rattle.gv_grammar.specs.Exprs.{IsExpr, IsPart}
use Rattle.gv_grammar.specs.Tokens.{EatsEnd}
use Rattle.gv_cursor.proofs.Results.{passed_on, unexpected_on}
use Rattle.gv_exprs.proofs.ResultsStrings.{braces, no_value, no_value_end}
use Rattle.gv_exprs.proofs.reader.Exprs.braces_part.Goals as goal

pub returns-in_err-value : goal.returns-in_err-value
returns-in_err-value g c = passed_on (IsExpr c.args.self.now.all) (IsPart c.args.self.now.all form.Braces) _ _ _ _ c.from_residual.result c.from_residual.ensures.1
    (λ f. no_value c.args.self.now.all c.eat-is_lazy.result c.eat-is_lazy.ensures f) c.in_err-value.ensures

pub returns-in_err-expect_end : goal.returns-in_err-expect_end
returns-in_err-expect_end g c = unexpected_on (IsPart c.args.self.now.all form.Braces) EatsEnd _ _ _ _ _ c.from_residual-in_err-expect_end.result c.from_residual-in_err-expect_end.ensures.1
    (λ f. no_value_end c.args.self.now.all c.eat-is_lazy.result c.eat-is_lazy.ensures c.in_ok-value.ensures f) c.in_err-expect_end.ensures

pub returns : goal.returns
returns g c = braces c.args.self.now.all c.eat-is_lazy.result c.eat-is_lazy.ensures c.in_ok-value.ensures c.in_ok-expect_end.ensures
