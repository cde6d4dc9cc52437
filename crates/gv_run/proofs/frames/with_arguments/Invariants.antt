use Rattle.std.proofs.Common.{◌≡◌, ◌-◌, ◌++◌, drop}
use Rattle.gv_meaning.specs.Meaning.{filled}
use Rattle.gv_run.proofs.frames.with_arguments.Given as goal

abbrev pub invariant-loop-i : goal.invariant-loop-i
invariant-loop-i l = l.cells ++ filled (l.n - l.i) (drop l.i l.values) ≡ l.fn.cells ++ filled l.n l.values
