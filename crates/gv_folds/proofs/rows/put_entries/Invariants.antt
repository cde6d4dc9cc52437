use Rattle.std.proofs.Common.{◌≡◌, ◌≤◌, length, drop}
use Rattle.gv_folds.specs.Rows as spec
use Rattle.gv_folds.proofs.rows.put_entries.Given as goal

abbrev pub invariant-loop-at : goal.invariant-loop-at
invariant-loop-at l = (in_range : l.at ≤ length l.held) × (l.entries ≡ spec.shown_entries (drop l.at l.held))

abbrev pub decreases-loop-at : goal.decreases-loop-at
decreases-loop-at l = l.at
