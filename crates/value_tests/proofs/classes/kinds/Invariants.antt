use Rattle.std.proofs.Common.{◌≤◌}
use Rattle.value_tests.proofs.classes.kinds.Given as goal

abbrev pub invariant-loop-other : goal.invariant-loop-other
invariant-loop-other l = l.count ≤ l.other
