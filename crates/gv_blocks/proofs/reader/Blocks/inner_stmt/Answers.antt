use Rattle.std.proofs.Common.{subst}
use Rattle.gv_grammar.specs.Stmts.{IsStmt}
use Rattle.gv_cursor.specs.Reading.{Stopped}
use Rattle.gv_blocks.specs.declared.reader.Inner.TheVariants as inner
use Rattle.gv_blocks.specs.Nests.{IsNested}
use Rattle.gv_blocks.proofs.Nested.{no_stmt_nested, stmt_of}
use Rattle.gv_cursor.proofs.Results.{passed_on_exactly}
use Rattle.gv_blocks.proofs.reader.Blocks.inner_stmt.Goals as goal

pub returns-in_err-stmt : goal.returns-in_err-stmt
returns-in_err-stmt g c = passed_on_exactly (IsNested c.args.self.now.values.tokens.now inner.Stmt) (Stopped (IsStmt c.args.self.now.values.tokens.now)) _ _ _ _ c.from_residual.result (c.from_residual.ensures.1)
    (no_stmt_nested c.args.self.now.values.tokens.now) (c.in_err-stmt.ensures)

pub returns-in-Stmt : goal.returns-in-Stmt
returns-in-Stmt g c = stmt_of c.args.self.now.values.tokens.now (subst (λ n. IsNested c.args.self.now.values.tokens.now inner.Stmt n c.args.cursor.now.rest.now c.inner.new.cursor.rest.now) (c.in-Stmt.is) (c.in_ok-stmt.ensures))
