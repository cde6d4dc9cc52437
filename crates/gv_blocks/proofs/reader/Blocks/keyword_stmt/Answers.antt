use Rattle.gv_grammar.specs.Stmts.{IsStmt, IsDecl, IsFullValue, a_decl, a_value}
use Rattle.gv_cursor.specs.Reading.{Stopped}
use Rattle.gv_cursor.proofs.Results.{passed_on_exactly}
use Rattle.gv_blocks.proofs.StmtKinds.{keyword_plain, keyword_no_brace, keyword_stands, keyword_open, no_keyword_decl, no_value_stmt}
use Rattle.gv_blocks.proofs.reader.Blocks.keyword_stmt.Goals as goal

pub returns-in_err-decl-in-Final : goal.returns-in_err-decl-in-Final
returns-in_err-decl-in-Final g c = passed_on_exactly (Stopped (IsDecl c.args.self.now.values.tokens.now)) (Stopped (IsStmt c.args.self.now.values.tokens.now)) _ _ _ _ c.from_residual.result (c.from_residual.ensures.1)
    (λ f. no_keyword_decl c.args.self.now.values.tokens.now (c.in-Final.is) (c.requires.next) f) (c.in_err-decl-in-Final.ensures)

pub returns-in_err-full_value-in_default : goal.returns-in_err-full_value-in_default
returns-in_err-full_value-in_default g c = passed_on_exactly (Stopped (IsFullValue c.args.self.now.values.tokens.now)) (Stopped (IsStmt c.args.self.now.values.tokens.now)) _ _ _ _
    c.from_residual-in_err-full_value-in_default.result (c.from_residual-in_err-full_value-in_default.ensures.1)
    (λ f. no_value_stmt c.args.self.now.values.tokens.now (keyword_open c.args.keyword c.in_default.not-Def c.in_default.not-Final c.in_default.not-Int c.in_default.not-Long c.in_default.not-Boolean c.in_default.not-If c.in_default.not-While
    c.in_default.not-For c.in_default.not-Switch c.in_default.not-Try c.in_default.not-Throw c.in_default.not-Return c.in_default.not-Break c.in_default.not-Continue c.in_default.not-Assert
    (keyword_stands _ (c.requires.next))) f) (c.in_err-full_value-in_default.ensures)

pub returns-in_ok-decl-in-Final : goal.returns-in_ok-decl-in-Final
returns-in_ok-decl-in-Final g c = record { is = a_decl (c.in_ok-decl-in-Final.ensures.is); stops = c.in_ok-decl-in-Final.ensures.stops }

pub returns-in_ok-new-in_default : goal.returns-in_ok-new-in_default
returns-in_ok-new-in_default g c = record {
  is = rw (c.in_ok-new-in_default.ensures) (a_value (keyword_no_brace c.args.cursor.now.rest.now (c.requires.next)) (keyword_plain c.args.cursor.now.rest.now (c.requires.next)) (c.in_ok-full_value-in_default.ensures.is));
  stops = c.in_ok-full_value-in_default.ensures.stops;
}
