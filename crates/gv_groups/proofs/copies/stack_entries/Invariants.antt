use Rattle.std.proofs.Common.{◌≡◌, ◌≤◌, length, drop}
use Rattle.gv_groups.proofs.copies.stack_entries.Given as goal

abbrev pub invariant-loop-at : goal.invariant-loop-at
invariant-loop-at l = (in_range : l.at ≤ length l.held) × (l.entries ≡ drop l.at l.held)

abbrev pub decreases-loop-at : goal.decreases-loop-at
decreases-loop-at l = l.at
