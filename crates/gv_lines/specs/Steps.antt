-- What the code keeps, as the definitions know it.
use Rattle.std.specs.Prelude.{◌≡◌, ◌+◌, ◌≤◌, List, ◌∷◌, reverse}
use Rattle.gv_lines.specs.declared.lines.Lines.{Lines}
use Rattle.gv_lines.specs.declared.loads.Level.{Level}
use Rattle.gv_lines.specs.declared.loads.Loads.{Loads}
use Rattle.gv_lines.specs.declared.loads.TheConstants.{MOST_LOAD}
use Rattle.gv_lines.specs.Lines.{Line}
use Rattle.gv_lines.specs.Loads.{load_of}

abbrev pub line_of : Lines → Line
line_of l = record { levels = reverse l.levels.items; before = l.before; last = l.last; waiting = l.waiting }

abbrev pub levels_of : Loads → List Level
levels_of l = l.innermost ∷ reverse l.around.items

-- the load of the levels around is kept, and all levels bear little
pub record IsSummed (l : Loads) : Type 0 where
  pub sum : l.load_around ≡ load_of (reverse l.around.items)
  pub within : l.innermost.base + l.innermost.count + l.load_around ≤ MOST_LOAD + 1
