use Rattle.gv_spelling.specs.declared.kinds.Symbol.TheVariants as symbol
use Rattle.gv_grammar.specs.Tokens.{Eats}
use Rattle.gv_grammar.specs.Stmts.{IsValue, IsTest, test}
use Rattle.gv_cursor.specs.Reading.{Stopped}
use Rattle.gv_cursor.proofs.Results.{passed_on_exactly, unexpected_on_exactly}
use Rattle.gv_blocks.proofs.Bodies.{no_test_value, no_test_close}
use Rattle.gv_blocks.proofs.reader.Blocks.test.Goals as goal

pub returns-in_err-value : goal.returns-in_err-value
returns-in_err-value g c = passed_on_exactly (Stopped (IsValue c.args.self.now.values.tokens.now)) (IsTest c.args.self.now.values.tokens.now) _ _ _ _ c.from_residual-in_err-value.result (c.from_residual-in_err-value.ensures.1)
    (λ f. no_test_value c.args.self.now.values.tokens.now (c.in_ok-expect.ensures) f) (c.in_err-value.ensures)

pub returns-in_err-expect-2 : goal.returns-in_err-expect-2
returns-in_err-expect-2 g c = unexpected_on_exactly (IsTest c.args.self.now.values.tokens.now) (Eats symbol.RightParen) _ _ _ _ _ c.from_residual-in_err-expect-2.result (c.from_residual-in_err-expect-2.ensures.1)
    (λ f. no_test_close c.args.self.now.values.tokens.now (c.in_ok-expect.ensures) (c.in_ok-value.ensures) f) (c.in_err-expect-2.ensures)

pub returns : goal.returns
returns g c = test (c.in_ok-expect.ensures) (c.in_ok-value.ensures.is) (c.in_ok-expect-2.ensures) (c.may_line.ensures)
