-- Function values that read what is nested, from fewer tokens than these.
use Rattle.std.specs.Prelude.{ℕ, ◌<◌, List, length, Result}
use Rattle.std.specs.declared.alloc.Global.{Global}
use denote.Ref.{Bor, MutBor}
use Rattle.gv_lex.specs.declared.token.Token.{Token}
use Rattle.gv_tree.specs.declared.expr.Closure.{Closure}
use Rattle.gv_tree.specs.declared.stmt.Stmt.{Stmt}
use Rattle.gv_grammar.specs.Stmts.{IsStmt, AreStmts}
use Rattle.gv_cursor.specs.declared.cursor.Tokens.{Tokens}
use Rattle.gv_cursor.specs.declared.error.ReadError.{ReadError}
use Rattle.gv_cursor.specs.Reading.{Exactly, Stopped}
use Rattle.gv_fill.specs.Filled.{Bodies}
use Rattle.gv_blocks.specs.declared.reader.Inner.{Inner}
use Rattle.gv_blocks.specs.declared.reader.Inner.TheVariants as inner
use Rattle.gv_blocks.specs.declared.reader.Nested.{Nested}
use Rattle.gv_blocks.specs.declared.reader.Nested.TheVariants as nested

-- all statements up to what ends them, or one before a token with which no expression goes on
pub data IsNested (tokens : List Token) : Inner → Nested → List Token → List Token → Type 0 where
  nested_stmts : {b : List Stmt} {ts rest : List Token} → AreStmts tokens b ts rest → IsNested tokens inner.Stmts (nested.Stmts b) ts rest
  nested_stmt : {x : Stmt} {ts rest : List Token} → Stopped (IsStmt tokens) x ts rest → IsNested tokens inner.Stmt (nested.Stmt x) ts rest

-- one function value reads statements, the other the tokens of closures
pub record Knot (below : ℕ) (pre : Global → Bor (List Token) → Inner → MutBor Tokens → Type 0)
    (post : Global → Bor (List Token) → Inner → MutBor Tokens → Result Nested ReadError → MutBor Tokens → Type 0)
    (body_pre : Global → Bor (List Token) → ℕ → ℕ → MutBor ℕ → Type 0)
    (body_post : Global → Bor (List Token) → ℕ → ℕ → MutBor ℕ → Result Closure ReadError → MutBor ℕ → Type 0) : Type 0 where
  pub callable : (alloc : Global) (tokens : Bor (List Token)) (which : Inner) (old : MutBor Tokens) → length old.now.rest.now < below → pre alloc tokens which old
  pub reads : (alloc : Global) (tokens : Bor (List Token)) (which : Inner) (old new : MutBor Tokens) (r : Result Nested ReadError) → post alloc tokens which old r new
      → Exactly (IsNested tokens.now which) r old.now.rest.now new.now.rest.now
  pub bodies : Bodies below body_pre body_post
