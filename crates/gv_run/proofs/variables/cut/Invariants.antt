use Rattle.std.proofs.Common.{◌≡◌, length, take}
use Rattle.gv_run.proofs.variables.cut.Given as goal

abbrev pub invariant-cut : goal.invariant-cut
invariant-cut l = take l.kept l.slots ≡ take l.kept l.initial.slots

abbrev pub decreases-cut : goal.decreases-cut
decreases-cut l = length l.slots
