-- That the run of code ends.
use Rattle.std.specs.Prelude.{◌≡◌, ℕ, List}
use Rattle.gv_code.specs.declared.code.Body.{Body}
use Rattle.gv_meaning.specs.declared.world.World.{World}
use Rattle.gv_meaning.specs.World.{Answer}
use Rattle.gv_meaning.specs.Machine.{Over, opened, steps}

-- in each world, the run of the code comes to an end
abbrev pub Ends : List Body → Type 0
Ends code = (w : World) → (n : ℕ) × (o : Answer) × (steps code n (opened code w) ≡ Over o)
