use Rattle.std.proofs.Common.{◌≡◌, None, Some, sym, ◌∙◌}
use Rattle.gv_lex.specs.declared.token.Part.TheVariants as form
use Rattle.gv_tree.specs.declared.expr.Atom.TheVariants as atom
use Rattle.gv_tree.specs.declared.expr.Expr.TheVariants as expr
use Rattle.gv_grammar.specs.Exprs.{IsPart, GoesNames}
use Rattle.gv_grammar.specs.Tokens.{EatsEnd, name_of}
use Rattle.gv_cursor.proofs.Results.{passed_on, unexpected_on}
use Rattle.gv_exprs.proofs.ResultsStrings.{nameless, names_refused, path, path_unended}
use Rattle.gv_exprs.proofs.reader.Exprs.path_part.Goals as goal

pub returns-in_default : goal.returns-in_default
returns-in_default g c = let e : name_of c.kind.result ≡ None = cc in nameless c.args.self.now.all c.args.tokens.now.rest.now c.kind.ensures e c.refuse.ensures.0

pub returns-in_err-value : goal.returns-in_err-value
returns-in_err-value g c = passed_on (GoesNames c.args.self.now.all (expr.Atom c.place.result (atom.Name c.in-Some.name))) (IsPart c.args.self.now.all form.Path) _ _ _ _ c.from_residual.result c.from_residual.ensures.1
    (λ f. names_refused c.args.self.now.all f) c.in_err-value.ensures

pub returns-in_err-expect_end : goal.returns-in_err-expect_end
returns-in_err-expect_end g c =
    let n : name_of c.kind.result ≡ Some c.in-Some.name = sym c.name_of.ensures ∙ c.in-Some.is in
    unexpected_on (IsPart c.args.self.now.all form.Path) EatsEnd _ _ _ _ _ c.from_residual-in_err-expect_end.result c.from_residual-in_err-expect_end.ensures.1
    (λ f. path_unended c.args.self.now.all c.args.tokens.now.rest.now c.kind.ensures n c.place.ensures c.advance.ensures c.in_ok-value.ensures f) c.in_err-expect_end.ensures

pub returns : goal.returns
returns g c =
    let n : name_of c.kind.result ≡ Some c.in-Some.name = sym c.name_of.ensures ∙ c.in-Some.is in
    path c.args.self.now.all c.args.tokens.now.rest.now c.kind.ensures n c.place.ensures c.advance.ensures c.in_ok-value.ensures c.in_ok-expect_end.ensures
