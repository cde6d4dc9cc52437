-- What it means that code is right.
use Rattle.std.specs.Prelude.{◌≡◌, ℕ, ◌≤◌, List}
use Rattle.gv_core.specs.declared.stmt.Source.{Source}
use Rattle.gv_code.specs.declared.code.Body.{Body}
use Rattle.gv_meaning.specs.declared.world.World.{World}
use Rattle.gv_meaning.specs.Meaning.{meaning}
use Rattle.gv_meaning.specs.Machine.{Over, opened, steps}

-- in each world, the run of the code comes to the unit's meaning, and stays there
abbrev pub IsRight : List Body → List Source → Type 0
IsRight code unit = (w : World) → (n : ℕ) × ((m : ℕ) → n ≤ m → steps code m (opened code w) ≡ Over (meaning unit w))
