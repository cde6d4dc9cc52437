use Rattle.gv_spelling.specs.declared.kinds.Keyword.TheVariants as keyword
use Rattle.std.proofs.Common.{arith}
use Rattle.gv_grammar.specs.Tokens.{EatsKeyword}
use Rattle.gv_grammar.specs.Stmts.{IsTest, IsStmt, IsBody}
use Rattle.gv_grammar.proofs.Lengths.{less, of_keyword}
use Rattle.gv_grammar.proofs.Longest.{keyword_here}
use Rattle.gv_cursor.specs.Reading.{Stopped}
use Rattle.gv_cursor.proofs.Results.{passed_on_exactly, unexpected_on_exactly}
use Rattle.gv_grammar.proofs.StmtLengths.{of_test}
use Rattle.gv_blocks.proofs.Bodies.{while_here, no_while_test, no_while_body}
use Rattle.gv_blocks.proofs.reader.Blocks.while_stmt.Goals as goal

pub returns-in_err-expect_keyword : goal.returns-in_err-expect_keyword
returns-in_err-expect_keyword g c = unexpected_on_exactly (Stopped (IsStmt c.args.self.now.values.tokens.now)) (EatsKeyword keyword.While) _ _ _ _ _ c.from_residual.result (c.from_residual.ensures.1)
    (λ f. absurd (f _ (keyword_here _ (c.requires.next.1)))) (c.in_err-expect_keyword.ensures)

pub returns-in_err-test : goal.returns-in_err-test
returns-in_err-test g c = passed_on_exactly (IsTest c.args.self.now.values.tokens.now) (Stopped (IsStmt c.args.self.now.values.tokens.now)) _ _ _ _ c.from_residual-in_err-test.result (c.from_residual-in_err-test.ensures.1)
    (λ f. no_while_test c.args.self.now.values.tokens.now (c.in_ok-expect_keyword.ensures) f) (c.in_err-test.ensures)

pub body_stmt-requires-clause-shorter : goal.body_stmt-requires-clause-shorter
body_stmt-requires-clause-shorter g c = let a = less (of_keyword (c.in_ok-expect_keyword.ensures)) in let b = less (of_test c.args.self.now.values.tokens.now (c.in_ok-test.ensures)) in let d = c.requires.within in omega arith

pub returns-in_err-body_stmt : goal.returns-in_err-body_stmt
returns-in_err-body_stmt g c = passed_on_exactly (Stopped (IsBody c.args.self.now.values.tokens.now)) (Stopped (IsStmt c.args.self.now.values.tokens.now)) _ _ _ _ c.from_residual-in_err-body_stmt.result (c.from_residual-in_err-body_stmt.ensures.1)
    (λ f. no_while_body c.args.self.now.values.tokens.now (c.in_ok-expect_keyword.ensures) (c.in_ok-test.ensures) f) (c.in_err-body_stmt.ensures)

pub returns : goal.returns
returns g c = rw (c.place-place.ensures, c.in_ok-test-2.ensures, c.in_ok-body.ensures) (while_here c.args.self.now.values.tokens.now (c.in_ok-expect_keyword.ensures) (c.in_ok-test.ensures) (c.in_ok-body_stmt.ensures))
