-- Phrases, and the longest of them.
use Rattle.std.specs.Prelude.{◌≡◌, ℕ, ◌≤◌, List, length, drop}
use Rattle.gv_lex.specs.declared.token.Token.{Token}

-- A phrase: a relation of a tree, the tokens that begin with a spelling of it, and those that follow that spelling.
abbrev pub Phrase : Type 0 → Type 1
Phrase A = A → List Token → List Token → Type 0

pub record Longest {A : Type 0} (S : Phrase A) (x : A) (ts rest : List Token) : Type 0 where
  pub is : S x ts rest
  pub longest : (y : A) (after : List Token) → S y ts after → length rest ≤ length after

abbrev pub Nothing : {A : Type 0} → Phrase A → List Token → Type 0
Nothing S ts = (y : _) (after : List Token) → S y ts after → ⊥

-- rest is what follows so many tokens of ts, and they are no fewer than least
pub record Takes (least : ℕ) (ts rest : List Token) : Type 0 where
  pub count : ℕ
  pub enough : least ≤ count
  pub within : count ≤ length ts
  pub behind : rest ≡ drop count ts
