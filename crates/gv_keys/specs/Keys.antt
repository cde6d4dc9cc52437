-- What tells a member of a class from others, and the members of a class by it.
use Rattle.std.specs.Prelude.{ℕ, Bool, List, [], ◌∷◌, ◌++◌, nat_eq, if◌then◌else◌}
use Rattle.std.specs.Cmp.Lexicographic.{pointwise}
use Rattle.std.specs.Int.Bits.{bit_and}
use Rattle.std.specs.List.{list_any}
use Rattle.gv_classes.specs.declared.declared.Member.{Member}
use Rattle.gv_classes.specs.declared.declared.MemberKind.{MemberKind}
use Rattle.gv_classes.specs.declared.declared.MemberKind.TheVariants as kind
use Rattle.gv_classes.specs.declared.declared.TheConstants.{REST}

-- what it is, its name, and but for a field whether its last parameter takes the rest of the arguments, and the types of its
-- parameters
abbrev pub key_of : MemberKind → ℕ → ℕ → List ℕ → List ℕ
key_of kind.Field name rest types = 0 ∷ name ∷ []
key_of kind.Method name rest types = 1 ∷ name ∷ rest ∷ types
key_of kind.Constructor name rest types = 2 ∷ name ∷ rest ∷ types

abbrev pub key : Member → List ℕ
key m = key_of m.kind m.name (bit_and m.flags REST) m.types

-- among these keys is one
abbrev pub is_there : List (List ℕ) → List ℕ → Bool
is_there keys k = list_any (pointwise nat_eq k) keys

-- with one more behind, where it is new
abbrev pub with_key : List (List ℕ) → List ℕ → List (List ℕ)
with_key keys k = if is_there keys k then keys else keys ++ k ∷ []

-- with those of some members
abbrev pub with_members : List (List ℕ) → List Member → List (List ℕ)
with_members keys [] = keys
with_members keys (m ∷ ms) = with_members (with_key keys (key m)) ms
