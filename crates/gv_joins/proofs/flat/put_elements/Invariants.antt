use Rattle.std.proofs.Common.{◌≡◌, ◌≤◌, length, drop}
use Rattle.gv_joins.specs.Flat as spec
use Rattle.gv_joins.proofs.flat.put_elements.Given as goal

abbrev pub invariant-loop-at : goal.invariant-loop-at
invariant-loop-at l = (in_range : l.at ≤ length l.elements) × (l.todo ≡ spec.opened (drop l.at l.elements) l.fn.todo)

abbrev pub decreases-loop-at : goal.decreases-loop-at
decreases-loop-at l = l.at
