use Rattle.std.proofs.Common.{◌≡◌, ◌≤◌, length, drop}
use Rattle.gv_elements.proofs.elements.put_all.Given as goal

abbrev pub invariant-loop-at : goal.invariant-loop-at
invariant-loop-at l = (in_range : l.at ≤ length l.elements) × (l.values ≡ drop l.at l.elements)

abbrev pub decreases-loop-at : goal.decreases-loop-at
decreases-loop-at l = l.at
