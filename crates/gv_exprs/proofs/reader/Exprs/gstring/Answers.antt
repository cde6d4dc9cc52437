use Rattle.gv_grammar.specs.Exprs.{IsGString, AreParts}
use Rattle.gv_cursor.proofs.Results.{passed_on}
use Rattle.gv_exprs.proofs.ResultsStrings.{headless, partless, whole}
use Rattle.gv_exprs.proofs.reader.Exprs.gstring.Goals as goal

pub returns-in_default : goal.returns-in_default
returns-in_default g c = headless c.args.self.now.all c.args.tokens.now.rest.now c.kind.ensures c.in_default.ensures c.refuse.ensures.0

pub returns-in_err-parts : goal.returns-in_err-parts
returns-in_err-parts g c = passed_on (AreParts c.args.self.now.all c.in-Some.form) (IsGString c.args.self.now.all) _ _ _ _ c.from_residual.result c.from_residual.ensures.1
    (λ f. partless c.args.self.now.all c.args.tokens.now.rest.now c.kind.ensures c.in-Some.ensures c.advance.ensures f) c.in_err-parts.ensures

pub returns : goal.returns
returns g c = whole c.args.self.now.all c.args.tokens.now.rest.now c.kind.ensures c.in-Some.ensures c.advance.ensures c.in_ok-parts.ensures
