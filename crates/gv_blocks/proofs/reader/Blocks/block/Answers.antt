use Rattle.gv_spelling.specs.declared.kinds.Symbol.TheVariants as symbol
use Rattle.gv_grammar.specs.Tokens.{Eats}
use Rattle.gv_grammar.specs.Stmts.{IsBlock, block, AreStmts}
use Rattle.gv_cursor.proofs.Results.{passed_on_exactly, unexpected_on_exactly}
use Rattle.gv_blocks.proofs.Bodies.{no_block_stmts, no_block_close}
use Rattle.gv_blocks.proofs.reader.Blocks.block.Goals as goal

pub returns-in_err-block : goal.returns-in_err-block
returns-in_err-block g c = passed_on_exactly (AreStmts c.args.self.now.values.tokens.now) (IsBlock c.args.self.now.values.tokens.now) _ _ _ _ c.from_residual-in_err-block.result (c.from_residual-in_err-block.ensures.1)
    (λ f. no_block_stmts c.args.self.now.values.tokens.now (c.in_ok-expect.ensures) f) (c.in_err-block.ensures)

pub returns-in_err-expect-2 : goal.returns-in_err-expect-2
returns-in_err-expect-2 g c = unexpected_on_exactly (IsBlock c.args.self.now.values.tokens.now) (Eats symbol.RightBrace) _ _ _ _ _ c.from_residual-in_err-expect-2.result (c.from_residual-in_err-expect-2.ensures.1)
    (λ f. no_block_close c.args.self.now.values.tokens.now (c.in_ok-expect.ensures) (c.in_ok-block.ensures) f) (c.in_err-expect-2.ensures)

pub returns : goal.returns
returns g c = block (c.in_ok-expect.ensures) (c.in_ok-block.ensures) (c.in_ok-expect-2.ensures)
