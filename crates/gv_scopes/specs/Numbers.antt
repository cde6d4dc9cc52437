-- Numbers, each once, in the order in which they came.
use Rattle.std.specs.Prelude.{ℕ, ◌==◌, Bool, List, [], ◌∷◌, ◌++◌, Option, position, if◌then◌else◌}
use Rattle.std.specs.List.{list_any}

abbrev pub is_there : List ℕ → ℕ → Bool
is_there ns n = list_any (λ m. m == n) ns

-- behind the others, if it is new
abbrev pub with_number : List ℕ → ℕ → List ℕ
with_number ns n = if is_there ns n then ns else ns ++ n ∷ []

abbrev pub place_of : List ℕ → ℕ → Option ℕ
place_of ns n = position (λ m. m == n) ns
