use Rattle.gv_grammar.specs.Stmts.{IsBody, IsBlock}
use Rattle.gv_cursor.specs.Reading.{Stopped}
use Rattle.gv_cursor.proofs.Results.{passed_on_exactly, refused_on}
use Rattle.gv_blocks.proofs.Bodies.{block_body, no_body_block, block_goes_on, as_body}
use Rattle.gv_blocks.proofs.reader.Blocks.body_stmt.Goals as goal

pub returns-then-not-sees : goal.returns-then-not-sees
returns-then-not-sees g c = as_body c.args.self.now.values.tokens.now _ _ c.inner_stmt.result (c.if-not-sees.ensures) (c.inner_stmt.ensures)

pub returns-in_err-block : goal.returns-in_err-block
returns-in_err-block g c = passed_on_exactly (IsBlock c.args.self.now.values.tokens.now) (Stopped (IsBody c.args.self.now.values.tokens.now)) _ _ _ _ c.from_residual.result (c.from_residual.ensures.1)
    (λ f. no_body_block c.args.self.now.values.tokens.now (c.if-not-sees.ensures) f) (c.in_err-block.ensures)

pub returns-in_err-expect_stop : goal.returns-in_err-expect_stop
returns-in_err-expect_stop g c = refused_on (Stopped (IsBody c.args.self.now.values.tokens.now)) _ _ _ c.from_residual-in_err-expect_stop.result (c.from_residual-in_err-expect_stop.ensures.1) (c.in_err-expect_stop.ensures.stops.0)
    (block_goes_on c.args.self.now.values.tokens.now (c.in_ok-block.ensures) (c.in_err-expect_stop.ensures.stops.1))

pub returns : goal.returns
returns g c = rw c.place-place.ensures (block_body c.args.self.now.values.tokens.now (c.in_ok-block.ensures) (c.in_ok-expect_stop.ensures.same) (c.in_ok-expect_stop.ensures.stops))
