use Rattle.std.proofs.Common.{◌≡◌, ◌++◌, ◌-◌, drop, length}
use Rattle.gv_ranks.specs.Sorted.{elements}
use Rattle.gv_ranks.proofs.ranking.elements.Given as goal

abbrev pub invariant-loop-at : goal.invariant-loop-at
invariant-loop-at l = l.values.items ++ elements (drop l.at l.ranked) ≡ elements l.ranked

abbrev pub decreases-loop-at : goal.decreases-loop-at
decreases-loop-at l = length l.ranked - l.at
