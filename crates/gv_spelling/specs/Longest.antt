-- Which spelling a text begins with: the longest.
use Rattle.std.specs.Prelude.{◌≡◌, ℕ, ◌<◌, ◌≤◌, length, take, Option, Some, None}
use Rattle.gv_spelling.specs.Table.{Text}

-- The text begins with a spelling of this length, which stands for what, and with no longer one.
pub record IsLongest {A : Type 0} (spells : Text → Option A) (text : Text) (what : A) (len : ℕ) : Type 0 where
  pub some : 0 < len
  pub within : len ≤ length text
  pub spelled : spells (take len text) ≡ Some what
  pub longest : (n : ℕ) → len < n → n ≤ length text → spells (take n text) ≡ None
