use Rattle.std.proofs.Common.{◌≡◌, drop}
use Rattle.gv_calling.specs.Calling as spec
use Rattle.gv_calling.proofs.opening.are_classes.Given as goal

abbrev pub invariant-loop-value : goal.invariant-loop-value
invariant-loop-value l = spec.are_classes l.fn.values ≡ spec.are_classes (drop l.value-index l.fn.values)
