use Rattle.std.proofs.Common.{◌≡◌, ◌-◌, drop, length}
use Rattle.gv_ranks.specs.Judged.{judged}
use Rattle.gv_ranks.proofs.judged.judge.Given as goal

abbrev pub invariant-loop-at : goal.invariant-loop-at
invariant-loop-at l = judged l.heap (drop l.at l.keyed) ≡ judged l.heap l.keyed

abbrev pub decreases-loop-at : goal.decreases-loop-at
decreases-loop-at l = length l.keyed - l.at
