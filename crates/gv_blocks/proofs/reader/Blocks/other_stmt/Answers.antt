use Rattle.std.proofs.Common.{◌≡◌, true, false}
use Rattle.gv_spelling.specs.declared.kinds.Keyword.TheVariants as keyword
use Rattle.gv_grammar.specs.Stmts.{begins_typed, IsFullValue, IsDecl, IsStmt, a_decl, a_value}
use Rattle.gv_grammar.proofs.Longest.{symbol_eaten}
use Rattle.gv_grammar.proofs.StmtFirsts.{keyword_eaten}
use Rattle.gv_cursor.specs.Reading.{Stopped}
use Rattle.gv_blocks.proofs.StmtKinds.{typed_class, plain_class, no_decl_stmt, no_value_stmt, no_brace_stmt}
use Rattle.gv_cursor.proofs.Results.{passed_on_exactly}
use Rattle.gv_blocks.proofs.reader.Blocks.other_stmt.Goals as goal

pub returns-then-sees : goal.returns-then-sees
returns-then-sees g c = rw (c.refuse.ensures.0) (no_brace_stmt c.args.self.now.values.tokens.now (symbol_eaten _ (c.if-sees.ensures)))

pub returns-in_err-decl : goal.returns-in_err-decl
returns-in_err-decl g c =
    let b : begins_typed c.args.cursor.now.rest.now ≡ true = cc in
    passed_on_exactly (Stopped (IsDecl c.args.self.now.values.tokens.now)) (Stopped (IsStmt c.args.self.now.values.tokens.now)) _ _ _ _ c.from_residual.result (c.from_residual.ensures.1)
    (λ f. no_decl_stmt c.args.self.now.values.tokens.now (typed_class _ b) (λ after p. c.requires.no_keyword keyword.Def (keyword_eaten p)) f) (c.in_err-decl.ensures)

pub returns-then-begins_typed : goal.returns-then-begins_typed
returns-then-begins_typed g c = record { is = a_decl (c.in_ok-decl.ensures.is); stops = c.in_ok-decl.ensures.stops }

pub returns-in_err-full_value : goal.returns-in_err-full_value
returns-in_err-full_value g c =
    let b : begins_typed c.args.cursor.now.rest.now ≡ false = cc in
    passed_on_exactly (Stopped (IsFullValue c.args.self.now.values.tokens.now)) (Stopped (IsStmt c.args.self.now.values.tokens.now)) _ _ _ _ c.from_residual-in_err-full_value.result (c.from_residual-in_err-full_value.ensures.1)
    (λ f. no_value_stmt c.args.self.now.values.tokens.now (plain_class _ b (λ k n h. c.requires.no_keyword k (n, h))) f) (c.in_err-full_value.ensures)

pub returns : goal.returns
returns g c =
    let b : begins_typed c.args.cursor.now.rest.now ≡ false = cc in
    record { is = rw (c.in_ok-new.ensures) (a_value (c.if-sees.ensures) b (c.in_ok-full_value.ensures.is)); stops = c.in_ok-full_value.ensures.stops }
