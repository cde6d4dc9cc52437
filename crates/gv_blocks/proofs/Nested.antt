-- What is nested.
use Rattle.std.proofs.Common.{◌≡◌, List, sym, subst}
use Rattle.gv_lex.specs.declared.token.Token.{Token}
use Rattle.gv_tree.specs.declared.stmt.Stmt.{Stmt}
use Rattle.gv_grammar.specs.Phrases.{Nothing}
use Rattle.gv_grammar.specs.Stmts.{IsStmt, AreStmts}
use Rattle.gv_cursor.specs.Reading.{Stopped}
use Rattle.gv_blocks.specs.declared.reader.Inner.{Inner}
use Rattle.gv_blocks.specs.declared.reader.Inner.TheVariants as inner
use Rattle.gv_blocks.specs.declared.reader.Nested.TheVariants as nested
use Rattle.gv_blocks.specs.Nests.{IsNested, nested_stmts, nested_stmt}

module _ (tokens : List Token) where
  pub no_stmts_nested : {ts : List Token} → Nothing (IsNested tokens inner.Stmts) ts → Nothing (AreStmts tokens) ts
  no_stmts_nested f y after d = f (nested.Stmts y) after (nested_stmts d)

  pub no_stmt_nested : {ts : List Token} → Nothing (IsNested tokens inner.Stmt) ts → Nothing (Stopped (IsStmt tokens)) ts
  no_stmt_nested f y after d = f (nested.Stmt y) after (nested_stmt d)

  pub stmt_of : {x : Stmt} {ts rest : List Token} → IsNested tokens inner.Stmt (nested.Stmt x) ts rest → Stopped (IsStmt tokens) x ts rest
  stmt_of (nested_stmt d) = d

  pub as_stmts : {which : Inner} {b : List Stmt} {ts rest : List Token} → which ≡ inner.Stmts → AreStmts tokens b ts rest → IsNested tokens which (nested.Stmts b) ts rest
  as_stmts {b = b} {ts = ts} {rest = rest} e d = subst (λ w. IsNested tokens w (nested.Stmts b) ts rest) (sym e) (nested_stmts d)

  pub as_stmt : {which : Inner} {x : Stmt} {ts rest : List Token} → which ≡ inner.Stmt → Stopped (IsStmt tokens) x ts rest → IsNested tokens which (nested.Stmt x) ts rest
  as_stmt {x = x} {ts = ts} {rest = rest} e d = subst (λ w. IsNested tokens w (nested.Stmt x) ts rest) (sym e) (nested_stmt d)
