use Rattle.std.proofs.Common.{◌≡◌, ◌-◌, drop, length}
use Rattle.gv_ranks.specs.Judged.{judged_beside}
use Rattle.gv_ranks.proofs.judged.judge_beside.Given as goal

abbrev pub invariant-loop-at : goal.invariant-loop-at
invariant-loop-at l = judged_beside l.heap l.first (drop l.at l.keyed) ≡ judged_beside l.heap l.first (drop l.from l.keyed)

abbrev pub decreases-loop-at : goal.decreases-loop-at
decreases-loop-at l = length l.keyed - l.at
