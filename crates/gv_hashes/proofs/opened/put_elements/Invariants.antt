use Rattle.std.proofs.Common.{◌≡◌, ◌≤◌, length, drop}
use Rattle.gv_hashes.specs.Opened as spec
use Rattle.gv_hashes.proofs.opened.put_elements.Given as goal

abbrev pub invariant-loop-at : goal.invariant-loop-at
invariant-loop-at l = (in_range : l.at ≤ length l.elements) × (l.todo ≡ spec.elements (drop l.at l.elements) l.fn.todo)

abbrev pub decreases-loop-at : goal.decreases-loop-at
decreases-loop-at l = l.at
