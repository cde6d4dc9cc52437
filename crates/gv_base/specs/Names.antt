-- A table of names, as the list of its texts in the order in which they came.
use Rattle.std.specs.Prelude.{ℕ, Bool, true, false, List, [], ◌∷◌, ◌++◌, Option, codes, position, bytes_eq, slice_get, unwrap_or, if◌then◌else◌}
use Rattle.std.specs.Char.{to_ascii_uppercase}
use Rattle.std.specs.List.{list_any}

-- the name of a text: its first place in the table
abbrev pub name_of : List (List ℕ) → List ℕ → Option ℕ
name_of names text = position (bytes_eq text) names

-- the text of a name
abbrev pub text_of : List (List ℕ) → ℕ → List ℕ
text_of names name = unwrap_or (slice_get names name) []

-- the table with the text in it, last if it is new
abbrev pub with_name : List (List ℕ) → List ℕ → List (List ℕ)
with_name names text = if list_any (bytes_eq text) names then names else names ++ text ∷ []

-- the text with its first character in upper case, where that is an ASCII letter
abbrev pub capitalized : List ℕ → List ℕ
capitalized [] = []
capitalized (byte ∷ bytes) = to_ascii_uppercase byte ∷ bytes

abbrev pub prefix_of : Bool → List ℕ
prefix_of true = codes "set"
prefix_of false = codes "get"

-- the text of a property's accessor: of its setter, where it writes, and else of its getter
abbrev pub accessor_text : Bool → List ℕ → List ℕ
accessor_text write property = prefix_of write ++ capitalized property
