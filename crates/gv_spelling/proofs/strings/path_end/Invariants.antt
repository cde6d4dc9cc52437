use Rattle.std.proofs.Common.{◌≡◌, ◌-◌, ◌≤◌, true, length, drop}
use Rattle.gv_spelling.specs.Table.{path_end}
use Rattle.gv_spelling.proofs.strings.path_end.Given as goal

abbrev pub invariant-loop-place : goal.invariant-loop-place
invariant-loop-place l =
    (path_end l.fresh l.place l.end (drop l.place l.text) ≡ path_end true l.from l.from (drop l.from l.text)) × (l.end ≤ l.place) × (l.place ≤ length l.text)

abbrev pub decreases-loop-place : goal.decreases-loop-place
decreases-loop-place l = length l.text - l.place
