use Rattle.std.proofs.Common.{◌≡◌, ◌≤◌, length, drop}
use Rattle.gv_equals.specs.Pairs as spec
use Rattle.gv_equals.proofs.pairs.put_entries.Given as goal

abbrev pub invariant-loop-at : goal.invariant-loop-at
invariant-loop-at l = (in_left : l.at ≤ length l.left) × (l.todo ≡ spec.entries (drop l.at l.left) l.right l.fn.todo)

abbrev pub decreases-loop-at : goal.decreases-loop-at
decreases-loop-at l = l.at
