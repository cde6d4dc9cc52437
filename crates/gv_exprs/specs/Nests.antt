-- A function value that reads what is nested, from fewer tokens than these.
use Rattle.std.specs.Prelude.{ℕ, ◌<◌, length, Result}
use Rattle.std.specs.declared.alloc.Global.{Global}
use denote.Ref.{MutBor}
use Rattle.gv_tree.specs.declared.expr.Expr.{Expr}
use Rattle.gv_grammar.specs.Phrases.{Phrase}
use Rattle.gv_grammar.specs.Exprs.{IsExpr, IsCond, IsUnary}
use Rattle.gv_cursor.specs.declared.cursor.Tokens.{Tokens}
use Rattle.gv_cursor.specs.declared.error.ReadError.{ReadError}
use Rattle.gv_cursor.specs.Reading.{Reads}
use Rattle.gv_exprs.specs.declared.reader.Inner.{Inner}
use Rattle.gv_exprs.specs.declared.reader.Inner.TheVariants as inner

-- the symbol that is nested
abbrev pub phrase_of : ℕ → Inner → Phrase Expr
phrase_of all inner.Expr = IsExpr all
phrase_of all inner.Cond = IsCond all
phrase_of all inner.Unary = IsUnary all

pub record Nests (below : ℕ) (pre : Global → ℕ → Inner → MutBor Tokens → Type 0)
    (post : Global → ℕ → Inner → MutBor Tokens → Result Expr ReadError → MutBor Tokens → Type 0) : Type 0 where
  pub callable : (alloc : Global) (all : ℕ) (which : Inner) (old : MutBor Tokens) → length old.now.rest.now < below → pre alloc all which old
  pub reads : (alloc : Global) (all : ℕ) (which : Inner) (old new : MutBor Tokens) (r : Result Expr ReadError) → post alloc all which old r new
      → Reads (phrase_of all which) r old.now.rest.now new.now.rest.now
