use Rattle.gv_grammar.specs.Stmts.{AreStmts}
use Rattle.gv_blocks.specs.declared.reader.Inner.TheVariants as inner
use Rattle.gv_blocks.specs.Nests.{IsNested}
use Rattle.gv_blocks.proofs.Nested.{no_stmts_nested}
use Rattle.gv_cursor.proofs.Results.{passed_on_exactly}
use Rattle.gv_blocks.proofs.reader.Blocks.inner_stmts.Goals as goal

pub returns-in_err-stmts : goal.returns-in_err-stmts
returns-in_err-stmts g c = passed_on_exactly (IsNested c.args.self.now.values.tokens.now inner.Stmts) (AreStmts c.args.self.now.values.tokens.now) _ _ _ _ c.from_residual.result (c.from_residual.ensures.1)
    (no_stmts_nested c.args.self.now.values.tokens.now) (c.in_err-stmts.ensures)
