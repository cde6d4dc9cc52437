-- A statement's core tree, and the variable that it declares for those behind it.
use Rattle.std.specs.Prelude.{ℕ, List, [], ◌∷◌, ◌++◌, Option, Some, None, option_map}
use Rattle.gv_lower.specs.Core.{Made}
use Rattle.gv_lower.specs.declared.placed.Placed.{Placed}

-- the variables in scope, and one more that may be declared
abbrev pub behind : List ℕ → Option ℕ → List ℕ
behind vars None = vars
behind vars (Some name) = vars ++ name ∷ []

-- what was made, of a statement with these variables in scope
abbrev pub made_of : List ℕ → Option Placed → Option Made
made_of vars placed = option_map (λ p. record { tree = p.tree; vars = behind vars p.declared }) placed
