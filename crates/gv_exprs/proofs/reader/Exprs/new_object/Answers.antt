use Rattle.std.proofs.Common.{◌≡◌, length, length-drop, drop, arith, ap, Some, None}
use Rattle.gv_spelling.specs.declared.kinds.Keyword.TheVariants as keyword
use Rattle.gv_spelling.specs.declared.kinds.Symbol.TheVariants as symbol
use Rattle.gv_grammar.specs.Tokens.{Eats, EatsKeyword, kind_of, type_name_of}
use Rattle.gv_grammar.specs.Exprs.{AreArguments, IsPrimary}
use Rattle.gv_grammar.proofs.Lengths.{less, of_keyword, of_eats}
use Rattle.gv_grammar.proofs.Longest.{keyword_here}
use Rattle.gv_grammar.proofs.LongerPaths as longer
use Rattle.gv_cursor.proofs.Results.{passed_on, unexpected_on}
use Rattle.gv_exprs.proofs.ResultsPaths.{refused_here}
use Rattle.gv_exprs.proofs.reader.Exprs.new_object.Goals as goal

pub returns-in_err-expect_keyword : goal.returns-in_err-expect_keyword
returns-in_err-expect_keyword g c = unexpected_on (IsPrimary c.args.self.now.all) (EatsKeyword keyword.New) _ _ _ _ _ c.from_residual.result (c.from_residual.ensures.1)
    (λ f. absurd (f _ (keyword_here _ (c.requires.next.1)))) (c.in_err-expect_keyword.ensures)

pub returns-in_default : goal.returns-in_default
returns-in_default g c =
    let p : type_name_of (kind_of c.expect_keyword.new.self.rest.now) ≡ None = cc in
    refused_here (IsPrimary c.args.self.now.all) _ (c.refuse.ensures.0) (longer.no_new_name c.args.self.now.all (c.in_ok-expect_keyword.ensures) p)

pub returns-in_err-expect : goal.returns-in_err-expect
returns-in_err-expect g c = unexpected_on (IsPrimary c.args.self.now.all) (Eats symbol.LeftParen) _ _ _ _ _ c.from_residual-in_err-expect.result (c.from_residual-in_err-expect.ensures.1)
    (λ f. longer.no_new_open c.args.self.now.all (c.in_ok-expect_keyword.ensures) (rw (← c.advance.ensures) f)) (c.in_err-expect.ensures)

pub arguments-requires-clause-shorter : goal.arguments-requires-clause-shorter
arguments-requires-clause-shorter g c =
    let a = less (of_keyword (c.in_ok-expect_keyword.ensures)) in
    let b = ap length c.advance.ensures in
    let d = length-drop 1 c.expect_keyword.new.self.rest.now in
    let e = less (of_eats (c.in_ok-expect.ensures)) in omega arith

pub returns-in_err-args : goal.returns-in_err-args
returns-in_err-args g c =
    let q : Eats symbol.LeftParen (drop 1 c.expect_keyword.new.self.rest.now) c.expect.new.self.rest.now = rw (← c.advance.ensures) (c.in_ok-expect.ensures) in
    passed_on (AreArguments c.args.self.now.all) (IsPrimary c.args.self.now.all) _ _ _ _ c.from_residual-in_err-args.result (c.from_residual-in_err-args.ensures.1)
    (λ f. longer.no_new_arguments c.args.self.now.all (c.in_ok-expect_keyword.ensures) q f) (c.in_err-args.ensures)

pub returns : goal.returns
returns g c =
    let p : type_name_of (kind_of c.expect_keyword.new.self.rest.now) ≡ Some c.in-Some.name = cc in
    let q : Eats symbol.LeftParen (drop 1 c.expect_keyword.new.self.rest.now) c.expect.new.self.rest.now = rw (← c.advance.ensures) (c.in_ok-expect.ensures) in
    rw (c.place-place.ensures, c.place.ensures) (longer.new_here c.args.self.now.all (c.in_ok-expect_keyword.ensures) p q (c.in_ok-args.ensures))
