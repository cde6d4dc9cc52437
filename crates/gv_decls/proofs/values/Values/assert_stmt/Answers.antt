use Rattle.std.proofs.Common.{arith}
use Rattle.gv_spelling.specs.declared.kinds.Keyword.TheVariants as keyword
use Rattle.gv_grammar.specs.Tokens.{EatsKeyword}
use Rattle.gv_grammar.specs.Stmts.{IsValue, IsStmt, assert_alone, assert_message}
use Rattle.gv_grammar.proofs.Lengths.{less, of_eats, of_keyword}
use Rattle.gv_grammar.proofs.Longest.{keyword_here, symbol_eaten}
use Rattle.gv_cursor.specs.Reading.{Stopped}
use Rattle.gv_grammar.proofs.StmtLengths.{of_value}
use Rattle.gv_decls.proofs.PlainStmts.{no_assert, no_assert_message}
use Rattle.gv_cursor.proofs.Results.{passed_on_exactly, unexpected_on_exactly}
use Rattle.gv_decls.proofs.values.Values.assert_stmt.Goals as goal

pub returns-in_err-expect_keyword : goal.returns-in_err-expect_keyword
returns-in_err-expect_keyword g c = unexpected_on_exactly (Stopped (IsStmt c.args.self.now.tokens.now)) (EatsKeyword keyword.Assert) _ _ _ _ _ c.from_residual.result (c.from_residual.ensures.1) (λ f. absurd (f _ (keyword_here _ (c.requires.next.1)))) (c.in_err-expect_keyword.ensures)

pub value-requires-clause-within : goal.value-requires-clause-within
value-requires-clause-within g c = let a = less (of_keyword (c.in_ok-expect_keyword.ensures)) in let b = c.requires.within in omega arith

pub returns-in_err-value : goal.returns-in_err-value
returns-in_err-value g c = passed_on_exactly (Stopped (IsValue c.args.self.now.tokens.now)) (Stopped (IsStmt c.args.self.now.tokens.now)) _ _ _ _ c.from_residual-in_err-value.result (c.from_residual-in_err-value.ensures.1) (λ f. no_assert c.args.self.now.tokens.now (c.in_ok-expect_keyword.ensures) f) (c.in_err-value.ensures)

pub returns-then-not-eat : goal.returns-then-not-eat
returns-then-not-eat g c = record {
  is = rw (c.place-place.ensures, c.in_ok-condition.ensures, c.if-not-eat.ensures.0) (assert_alone (c.in_ok-expect_keyword.ensures) (c.in_ok-value.ensures.is) (λ h. c.if-not-eat.ensures.1 _ (symbol_eaten _ h)));
  stops = rw (c.if-not-eat.ensures.0) (c.in_ok-value.ensures.stops);
}

pub value-requires-2-clause-within : goal.value-requires-2-clause-within
value-requires-2-clause-within g c =
    let a = less (of_keyword (c.in_ok-expect_keyword.ensures)) in let b = less (of_value c.args.self.now.tokens.now (c.in_ok-value.ensures.is)) in let d = less (of_eats (c.if-not-eat.ensures)) in let e = c.requires.within in omega arith

pub returns-in_err-value-2 : goal.returns-in_err-value-2
returns-in_err-value-2 g c = passed_on_exactly (Stopped (IsValue c.args.self.now.tokens.now)) (Stopped (IsStmt c.args.self.now.tokens.now)) _ _ _ _ c.from_residual-in_err-value-2.result (c.from_residual-in_err-value-2.ensures.1)
    (λ f. no_assert_message c.args.self.now.tokens.now (c.in_ok-expect_keyword.ensures) (c.in_ok-value.ensures) (c.if-not-eat.ensures) f) (c.in_err-value-2.ensures)

pub returns : goal.returns
returns g c = record {
  is = rw (c.place-place.ensures, c.in_ok-condition.ensures, c.in_ok-message.ensures) (assert_message (c.in_ok-expect_keyword.ensures) (c.in_ok-value.ensures.is) (c.if-not-eat.ensures) (c.in_ok-value-2.ensures.is));
  stops = c.in_ok-value-2.ensures.stops;
}
