use Rattle.std.proofs.Common.{◌≡◌, ◌-◌, ◌≤◌, length, drop}
use Rattle.gv_texts.specs.Todo as spec
use Rattle.gv_texts.proofs.opened.put_elements.Given as goal

abbrev pub invariant-loop-at : goal.invariant-loop-at
invariant-loop-at l = (in_range : l.at ≤ length l.sequence) × (some : 1 ≤ l.at) × (l.todo ≡ spec.more_elements (drop l.at l.sequence) l.fn.todo)

abbrev pub decreases-loop-at : goal.decreases-loop-at
decreases-loop-at l = l.at
