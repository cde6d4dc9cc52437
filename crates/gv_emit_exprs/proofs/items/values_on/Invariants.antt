use Rattle.std.proofs.Common.{◌≡◌}
use Rattle.gv_written.specs.Written.{values_on}
use Rattle.gv_emit_exprs.proofs.items.values_on.Given as goal

abbrev pub invariant-loop-left : goal.invariant-loop-left
invariant-loop-left l = values_on l.left l.shape ≡ values_on l.count l.below

abbrev pub decreases-loop-left : goal.decreases-loop-left
decreases-loop-left l = l.left
