-- What the laws say.
use Rattle.std.specs.Prelude.{◌≡◌, ℕ, ◌<◌, List, length, false, All, Contains}
use Rattle.gv_base.specs.Names.{text_of}
use Rattle.gv_base.specs.declared.refusal.Refusal.{Refusal}
use Rattle.gv_lex.specs.Places.{is_before}

-- one of them, and none of them stands before it
pub record IsEarliest (r : Refusal) (all : List Refusal) : Type 0 where
  pub among : Contains all r
  pub none_before : All (λ q. is_before q r ≡ false) all

-- no text stands in the table twice
abbrev pub AreDistinct : List (List ℕ) → Type 0
AreDistinct names = (a b : ℕ) → a < length names → b < length names → text_of names a ≡ text_of names b → a ≡ b
