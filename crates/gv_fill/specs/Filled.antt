-- What a function that reads the unread closures of an expression, or of a part of one, ensures.
use Rattle.std.specs.Prelude.{◌≡◌, ℕ, ◌<◌, ◌≤◌, ◌-◌, List, length, drop, Result, Ok, Err}
use Rattle.std.specs.List.{Contains}
use Rattle.std.specs.declared.alloc.Global.{Global}
use denote.Ref.{Bor, MutBor}
use Rattle.gv_lex.specs.declared.token.Token.{Token}
use Rattle.gv_tree.specs.declared.expr.Closure.{Closure}
use Rattle.gv_grammar.specs.Closures.{Found}
use Rattle.gv_grammar.specs.Stmts.{IsBodyOf}
use Rattle.gv_cursor.specs.declared.error.ReadError.{ReadError}
use Rattle.gv_cursor.specs.declared.error.ReadError.TheVariants.{Refused, OutOfMemory}

module _ (tokens : List Token) where
  -- the tokens between two places are read as a closure's, or can't be
  abbrev pub ReadsBody : ℕ → ℕ → Result Closure ReadError → Type 0
  ReadsBody from to (Ok c) = IsBodyOf tokens c (drop from tokens) (drop to tokens)
  ReadsBody from to (Err OutOfMemory) = Unit {0}
  ReadsBody from to (Err Refused) = (c : Closure) → IsBodyOf tokens c (drop from tokens) (drop to tokens) → ⊥

  -- a function reads all these closures
  pub record Reading (read : ℕ → ℕ → Closure) (places : Found) : Type 0 where
    pub each : (from to : ℕ) → Contains places (from, to) → IsBodyOf tokens (read from to) (drop from tokens) (drop to tokens)

  -- each closure can be read, and a function that reads them all gives y
  pub record FilledBy {A : Type 0} (places : Found) (with : (ℕ → ℕ → Closure) → A) (y : A) : Type 0 where
    pub body : (from to : ℕ) → Contains places (from, to) → Closure
    pub read : (from to : ℕ) (c : Contains places (from, to)) → IsBodyOf tokens (body from to c) (drop from tokens) (drop to tokens)
    pub told : (read : ℕ → ℕ → Closure) → Reading read places → y ≡ with read

  -- a closure that can't be read
  pub record Unreadable (places : Found) : Type 0 where
    pub from : ℕ
    pub to : ℕ
    pub there : Contains places (from, to)
    pub never : (c : Closure) → IsBodyOf tokens c (drop from tokens) (drop to tokens) → ⊥

  abbrev pub Fills : {A : Type 0} → Found → ((ℕ → ℕ → Closure) → A) → Result A ReadError → Type 0
  Fills places with (Ok y) = FilledBy places with y
  Fills places with (Err OutOfMemory) = Unit {0}
  Fills places with (Err Refused) = Unreadable places

-- a function value that reads the tokens between two places, where fewer than these stand from the first on
pub record Bodies (below : ℕ) (pre : Global → Bor (List Token) → ℕ → ℕ → MutBor ℕ → Type 0)
    (post : Global → Bor (List Token) → ℕ → ℕ → MutBor ℕ → Result Closure ReadError → MutBor ℕ → Type 0) : Type 0 where
  pub callable : (alloc : Global) (tokens : Bor (List Token)) (from to : ℕ) (old : MutBor ℕ) → from ≤ to → to ≤ length tokens.now → length tokens.now - from < below → pre alloc tokens from to old
  pub reads : (alloc : Global) (tokens : Bor (List Token)) (from to : ℕ) (old new : MutBor ℕ) (r : Result Closure ReadError) → post alloc tokens from to old r new → ReadsBody tokens.now from to r
