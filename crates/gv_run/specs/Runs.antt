-- What a run comes to.
use Rattle.std.specs.Prelude.{◌≡◌, ℕ, List}
use Rattle.gv_code.specs.declared.code.Body.{Body}
use Rattle.gv_meaning.specs.declared.world.World.{World}
use Rattle.gv_meaning.specs.World.{Answer}
use Rattle.gv_meaning.specs.Machine.{State, At, Over, opened, steps}

-- after so many steps the run of the code in a world is over, with this answer
abbrev pub ComesTo : List Body → World → Answer → Type 0
ComesTo code w o = (n : ℕ) × (steps code n (opened code w) ≡ Over o)

abbrev pub IsOver : State → Type 0
IsOver (At k at stack slots fs d w) = ⊥
IsOver (Over o) = Unit {0}

-- the run from a state is over after so many steps
pub record EndsIn (code : List Body) (n : ℕ) (s : State) : Type 0 where
  pub over : IsOver (steps code n s)
