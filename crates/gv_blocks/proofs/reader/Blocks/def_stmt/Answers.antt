use Rattle.gv_grammar.specs.Stmts.{IsDecl, IsStmt, a_decl}
use Rattle.gv_grammar.proofs.Longest.{keyword_here}
use Rattle.gv_cursor.specs.Reading.{Stopped}
use Rattle.gv_blocks.proofs.StmtKinds.{no_def_stmt}
use Rattle.gv_cursor.proofs.Results.{passed_on_exactly}
use Rattle.gv_blocks.proofs.reader.Blocks.def_stmt.Goals as goal

pub returns-in_err-decl : goal.returns-in_err-decl
returns-in_err-decl g c =
    passed_on_exactly (Stopped (IsDecl c.args.self.now.values.tokens.now)) (Stopped (IsStmt c.args.self.now.values.tokens.now)) _ _ _ _ c.from_residual.result (c.from_residual.ensures.1)
    (λ f. no_def_stmt c.args.self.now.values.tokens.now (keyword_here _ (c.requires.next.1)) (λ h. c.if-is_left_paren.ensures cc) f) (c.in_err-decl.ensures)

pub returns : goal.returns
returns g c = record { is = a_decl (c.in_ok-decl.ensures.is); stops = c.in_ok-decl.ensures.stops }
