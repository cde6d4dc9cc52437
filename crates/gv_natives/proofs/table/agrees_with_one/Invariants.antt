use Rattle.std.proofs.Common.{◌≡◌, length, map}
use Rattle.std.specs.List.{list_any}
use Rattle.gv_natives.specs.Table.{agree, method_of}
use Rattle.gv_natives.proofs.table.agrees_with_one.Given as goal

abbrev pub invariant-loop-rows : goal.invariant-loop-rows
invariant-loop-rows g l =
    list_any (agree (method_of l.row)) (map g.R.AsRow.method l.rows) ≡
    list_any (agree (method_of l.row)) (map g.R.AsRow.method l.initial.rows)

abbrev pub decreases-loop-rows : goal.decreases-loop-rows
decreases-loop-rows g l = length l.rows
