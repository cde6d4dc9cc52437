use Rattle.gv_spelling.specs.declared.kinds.Keyword.TheVariants as keyword
use Rattle.gv_spelling.specs.declared.kinds.Symbol.TheVariants as symbol
use Rattle.std.proofs.Common.{arith}
use Rattle.gv_grammar.specs.Tokens.{Eats, EatsKeyword}
use Rattle.gv_grammar.specs.Stmts.{IsTest, IsStmt, AreCases}
use Rattle.gv_grammar.proofs.Lengths.{less, of_keyword, of_eats}
use Rattle.gv_grammar.proofs.Longest.{keyword_here}
use Rattle.gv_cursor.specs.Reading.{Stopped}
use Rattle.gv_cursor.proofs.Results.{passed_on_exactly, unexpected_on_exactly, refused_on}
use Rattle.gv_grammar.proofs.StmtLengths.{of_test}
use Rattle.gv_blocks.proofs.SwitchStmts.{switch_here, no_switch_test, no_switch_open, no_switch_cases, switch_goes_on}
use Rattle.gv_blocks.proofs.reader.Blocks.switch_stmt.Goals as goal

pub returns-in_err-expect_keyword : goal.returns-in_err-expect_keyword
returns-in_err-expect_keyword g c = unexpected_on_exactly (Stopped (IsStmt c.args.self.now.values.tokens.now)) (EatsKeyword keyword.Switch) _ _ _ _ _ c.from_residual.result (c.from_residual.ensures.1)
    (λ f. absurd (f _ (keyword_here _ (c.requires.next.1)))) (c.in_err-expect_keyword.ensures)

pub returns-in_err-test : goal.returns-in_err-test
returns-in_err-test g c = passed_on_exactly (IsTest c.args.self.now.values.tokens.now) (Stopped (IsStmt c.args.self.now.values.tokens.now)) _ _ _ _ c.from_residual-in_err-test.result (c.from_residual-in_err-test.ensures.1)
    (λ f. no_switch_test c.args.self.now.values.tokens.now (c.in_ok-expect_keyword.ensures) f) (c.in_err-test.ensures)

pub returns-in_err-expect : goal.returns-in_err-expect
returns-in_err-expect g c = unexpected_on_exactly (Stopped (IsStmt c.args.self.now.values.tokens.now)) (Eats symbol.LeftBrace) _ _ _ _ _ c.from_residual-in_err-expect.result (c.from_residual-in_err-expect.ensures.1)
    (λ f. no_switch_open c.args.self.now.values.tokens.now (c.in_ok-expect_keyword.ensures) (c.in_ok-test.ensures) f) (c.in_err-expect.ensures)

pub cases-requires-clause-shorter : goal.cases-requires-clause-shorter
cases-requires-clause-shorter g c = let a = less (of_keyword (c.in_ok-expect_keyword.ensures)) in let b = less (of_test c.args.self.now.values.tokens.now (c.in_ok-test.ensures)) in let d = c.requires.within in let e = less (of_eats (c.in_ok-expect.ensures)) in omega arith

pub returns-in_err-cases : goal.returns-in_err-cases
returns-in_err-cases g c = passed_on_exactly (AreCases c.args.self.now.values.tokens.now) (Stopped (IsStmt c.args.self.now.values.tokens.now)) _ _ _ _ c.from_residual-in_err-cases.result (c.from_residual-in_err-cases.ensures.1)
    (λ f. no_switch_cases c.args.self.now.values.tokens.now (c.in_ok-expect_keyword.ensures) (c.in_ok-test.ensures) (c.in_ok-expect.ensures) f) (c.in_err-cases.ensures)

pub returns-in_err-expect_stop : goal.returns-in_err-expect_stop
returns-in_err-expect_stop g c = refused_on (Stopped (IsStmt c.args.self.now.values.tokens.now)) _ _ _ c.from_residual-in_err-expect_stop.result (c.from_residual-in_err-expect_stop.ensures.1) (c.in_err-expect_stop.ensures.stops.0)
    (switch_goes_on c.args.self.now.values.tokens.now (c.in_ok-expect_keyword.ensures) (c.in_ok-test.ensures) (c.in_ok-expect.ensures) (c.in_ok-cases.ensures) (c.in_err-expect_stop.ensures.stops.1))

pub returns : goal.returns
returns g c = rw (c.place-place.ensures, c.in_ok-value.ensures) (switch_here c.args.self.now.values.tokens.now (c.in_ok-expect_keyword.ensures) (c.in_ok-test.ensures) (c.in_ok-expect.ensures) (c.in_ok-cases.ensures) (c.in_ok-expect_stop.ensures.same) (c.in_ok-expect_stop.ensures.stops))
