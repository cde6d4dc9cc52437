use Rattle.std.proofs.Common.{◌≡◌, ◌-◌, ◌≤◌, length, drop}
use Rattle.gv_spelling.specs.Table.{closing}
use Rattle.gv_spelling.proofs.next.closing.Given as goal

abbrev pub invariant-loop-place : goal.invariant-loop-place
invariant-loop-place l = (closing l.place (drop l.place l.text) ≡ closing l.from (drop l.from l.text)) × (l.place ≤ length l.text) × (l.from ≤ l.place)

abbrev pub decreases-loop-place : goal.decreases-loop-place
decreases-loop-place l = length l.text - l.place
