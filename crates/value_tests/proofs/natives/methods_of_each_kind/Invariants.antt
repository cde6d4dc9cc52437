use Rattle.std.proofs.Common.{◌≤◌}
use Rattle.value_tests.proofs.natives.methods_of_each_kind.Given as goal

abbrev pub invariant-loop-id : goal.invariant-loop-id
invariant-loop-id g l = l.count ≤ l.id
