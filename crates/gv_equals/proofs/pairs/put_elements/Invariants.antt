use Rattle.std.proofs.Common.{◌≡◌, ◌≤◌, length, drop}
use Rattle.gv_equals.specs.Pairs as spec
use Rattle.gv_equals.proofs.pairs.put_elements.Given as goal

abbrev pub invariant-loop-at : goal.invariant-loop-at
invariant-loop-at l = (in_left : l.at ≤ length l.left) × (in_right : l.at ≤ length l.right) × (l.todo ≡ spec.elements (drop l.at l.left) (drop l.at l.right) l.fn.todo)

abbrev pub decreases-loop-at : goal.decreases-loop-at
decreases-loop-at l = l.at
