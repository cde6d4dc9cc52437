use Rattle.std.proofs.Common.{◌≡◌, arith}
use Rattle.gv_spelling.specs.declared.kinds.Keyword.TheVariants as keyword
use Rattle.gv_spelling.specs.declared.kinds.Symbol.TheVariants as symbol
use Rattle.gv_lex.specs.declared.token.TokenKind.TheVariants as kind
use Rattle.gv_grammar.specs.Tokens.{Eats, EatsKeyword, kind_of}
use Rattle.gv_grammar.specs.Stmts.{IsFullValue, AreNames, IsStmt, multiple}
use Rattle.gv_grammar.proofs.Lengths.{less, of_eats, of_keyword}
use Rattle.gv_grammar.proofs.Longest.{keyword_here, symbol_eaten}
use Rattle.gv_grammar.proofs.Single.{along, keyword_same}
use Rattle.gv_cursor.specs.Reading.{Stopped}
use Rattle.gv_grammar.proofs.StmtLengths.{of_name_list}
use Rattle.gv_decls.proofs.PlainStmts.{no_multiple_names, no_multiple_assign, no_multiple_value}
use Rattle.gv_cursor.proofs.Results.{passed_on_exactly, unexpected_on_exactly}
use Rattle.gv_decls.proofs.values.Values.multiple.Goals as goal

pub returns-in_err-expect_keyword : goal.returns-in_err-expect_keyword
returns-in_err-expect_keyword g c = unexpected_on_exactly (Stopped (IsStmt c.args.self.now.tokens.now)) (EatsKeyword keyword.Def) _ _ _ _ _ c.from_residual.result (c.from_residual.ensures.1) (λ f. absurd (f _ (keyword_here _ (c.requires.next.1)))) (c.in_err-expect_keyword.ensures)

pub returns-in_err-expect : goal.returns-in_err-expect
returns-in_err-expect g c =
    let p : kind_of c.expect_keyword.new.self.rest.now ≡ kind.Symbol symbol.LeftParen = along (λ zs. kind_of zs ≡ kind.Symbol symbol.LeftParen) (keyword_same (c.in_ok-expect_keyword.ensures) (keyword_here _ (c.requires.next.1))) (c.requires.paren) in
    unexpected_on_exactly (Stopped (IsStmt c.args.self.now.tokens.now)) (Eats symbol.LeftParen) _ _ _ _ _ c.from_residual-in_err-expect.result (c.from_residual-in_err-expect.ensures.1) (λ f. absurd (f _ (symbol_eaten _ p))) (c.in_err-expect.ensures)

pub returns-in_err-names : goal.returns-in_err-names
returns-in_err-names g c = passed_on_exactly (AreNames c.args.self.now.tokens.now) (Stopped (IsStmt c.args.self.now.tokens.now)) _ _ _ _ c.from_residual-in_err-names.result (c.from_residual-in_err-names.ensures.1) (λ f. no_multiple_names c.args.self.now.tokens.now (c.in_ok-expect_keyword.ensures) (c.in_ok-expect.ensures) f) (c.in_err-names.ensures)

pub returns-in_err-expect-2 : goal.returns-in_err-expect-2
returns-in_err-expect-2 g c = unexpected_on_exactly (Stopped (IsStmt c.args.self.now.tokens.now)) (Eats symbol.Assign) _ _ _ _ _ c.from_residual-in_err-expect-2.result (c.from_residual-in_err-expect-2.ensures.1)
    (λ f. no_multiple_assign c.args.self.now.tokens.now (c.in_ok-expect_keyword.ensures) (c.in_ok-expect.ensures) (c.in_ok-names.ensures) f) (c.in_err-expect-2.ensures)

pub full_value-requires-clause-within : goal.full_value-requires-clause-within
full_value-requires-clause-within g c =
    let a = less (of_keyword (c.in_ok-expect_keyword.ensures)) in let b = less (of_eats (c.in_ok-expect.ensures)) in let d = less (of_name_list c.args.self.now.tokens.now (c.in_ok-names.ensures)) in let e = less (of_eats (c.in_ok-expect-2.ensures)) in
    let h = c.requires.within in omega arith

pub returns-in_err-value : goal.returns-in_err-value
returns-in_err-value g c = passed_on_exactly (Stopped (IsFullValue c.args.self.now.tokens.now)) (Stopped (IsStmt c.args.self.now.tokens.now)) _ _ _ _ c.from_residual-in_err-value.result (c.from_residual-in_err-value.ensures.1)
    (λ f. no_multiple_value c.args.self.now.tokens.now (c.in_ok-expect_keyword.ensures) (c.in_ok-expect.ensures) (c.in_ok-names.ensures) (c.in_ok-expect-2.ensures) f) (c.in_err-value.ensures)

pub returns : goal.returns
returns g c = record {
  is = rw (c.place-place.ensures, c.in_ok-new.ensures, c.names-2.view_is) (multiple (c.in_ok-expect_keyword.ensures) (c.in_ok-expect.ensures) (c.in_ok-names.ensures) (c.in_ok-expect-2.ensures) (c.in_ok-value.ensures.is));
  stops = c.in_ok-value.ensures.stops;
}
