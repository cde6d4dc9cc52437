use Rattle.std.proofs.Common.{◌≡◌}
use Rattle.gv_meaning.specs.Machine.{steps}
use Rattle.gv_run.specs.Runs.{EndsIn}
use Rattle.gv_run.specs.States.{state_of}
use Rattle.gv_run.proofs.Left.{left}
use Rattle.gv_run.proofs.state.Control.run_on.Given as goal

abbrev pub invariant-run : goal.invariant-run
invariant-run g l = record {
  ends : EndsIn l.code g.limit (state_of l.mode l.self);
  same : steps l.code g.limit (state_of l.mode l.self) ≡ steps l.code g.limit (state_of l.fn.mode l.fn.self);
}

abbrev pub decreases-run : goal.decreases-run
decreases-run g l = left l.code g.limit (state_of l.mode l.self)
