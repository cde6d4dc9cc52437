-- Two readings of one list of tokens.
use Rattle.std.specs.Prelude.{◌≡◌, ℕ, ◌<◌, ◌≤◌, true, List, length}
use Rattle.gv_lex.specs.declared.token.Token.{Token}
use Rattle.gv_tree.specs.declared.expr.Expr.{Expr}
use Rattle.gv_grammar.specs.Tokens.{kind_of, reach}
use Rattle.gv_grammar.specs.Exprs.{is_target}

-- One reading gives x before ts, the other y before us. They are one, or one of them ends where the other goes on, and P says with which token
-- a reading goes on.
pub data Meet {A : Type 0} (P : A → List Token → Type 0) (x : A) (ts : List Token) (y : A) (us : List Token) : Type 0 where
  one : x ≡ y → ts ≡ us → Meet P x ts y us
  first_goes_on : P y us → length ts < length us → Meet P x ts y us
  second_goes_on : P x ts → length us < length ts → Meet P x ts y us

-- an expression goes on with the next of ts, no more loosely than this
pub record Goes (n : ℕ) (ts : List Token) : Type 0 where
  pub by : reach (kind_of ts) ≤ n

abbrev pub Level : ℕ → Expr → List Token → Type 0
Level n x ts = Goes n ts

-- A condition goes on with an assignment only in an expression inside it, as `a ? b : c` does; one that is a target has none.
pub record CondGoes (x : Expr) (ts : List Token) : Type 0 where
  pub within : reach (kind_of ts) ≤ 12
  pub target : is_target x ≡ true → reach (kind_of ts) ≤ 11

-- both readings are one
pub record Same {A : Type 0} (x : A) (ts : List Token) (y : A) (us : List Token) : Type 0 where
  pub tree : x ≡ y
  pub rest : ts ≡ us
