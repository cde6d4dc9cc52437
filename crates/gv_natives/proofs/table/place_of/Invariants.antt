use Rattle.std.proofs.Common.{◌≡◌, drop, map}
use Rattle.std.specs.List.{position, position_from}
use Rattle.gv_natives.specs.Table.{answers}
use Rattle.gv_natives.proofs.table.place_of.Given as goal

-- the rows that are left decide
abbrev pub invariant-loop-place : goal.invariant-loop-place
invariant-loop-place g l =
    position_from (λ method. answers method l.name l.kind l.arity) l.place (map g.R.AsRow.method (drop l.place l.rows)) ≡
    position (λ method. answers method l.name l.kind l.arity) (map g.R.AsRow.method l.rows)
