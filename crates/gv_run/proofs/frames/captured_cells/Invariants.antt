use Rattle.std.proofs.Common.{◌≡◌, ◌-◌, ◌++◌, drop}
use Rattle.gv_meaning.specs.Meaning.{fitted}
use Rattle.gv_run.proofs.frames.captured_cells.Given as goal

abbrev pub invariant-loop-i : goal.invariant-loop-i
invariant-loop-i l = l.cells ++ fitted (l.n - l.i) (drop l.i l.places) ≡ fitted l.n l.places
