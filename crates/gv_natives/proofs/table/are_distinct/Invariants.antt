use Rattle.std.proofs.Common.{◌≡◌, length, map}
use Rattle.gv_natives.specs.Table.{are_distinct}
use Rattle.gv_natives.proofs.table.are_distinct.Given as goal

abbrev pub invariant-loop-rows : goal.invariant-loop-rows
invariant-loop-rows g l =
    are_distinct (map g.R.AsRow.method l.rows) ≡
    are_distinct (map g.R.AsRow.method l.initial.rows)

abbrev pub decreases-loop-rows : goal.decreases-loop-rows
decreases-loop-rows g l = length l.rows
