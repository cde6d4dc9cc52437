use Rattle.std.proofs.Common.{◌≡◌}
use Rattle.gv_ranks.specs.Sorted.{extreme}
use Rattle.gv_ranks.proofs.Extremes.{extreme_before}
use Rattle.gv_ranks.proofs.ranking.Ranking.extreme.Given as goal

abbrev pub invariant-loop-first : goal.invariant-loop-first
invariant-loop-first l = extreme_before l.greatest l.ranked.items l.best ≡ extreme l.greatest l.fn.self

abbrev pub decreases-loop-first : goal.decreases-loop-first
decreases-loop-first l = goal.left-loop-first l
