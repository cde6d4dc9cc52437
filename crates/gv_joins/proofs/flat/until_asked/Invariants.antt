use Rattle.std.proofs.Common.{◌≡◌, length}
use Rattle.gv_joins.specs.Flat.{until_asked}
use Rattle.gv_joins.proofs.flat.until_asked.Given as goal

abbrev pub invariant-loop-next : goal.invariant-loop-next
invariant-loop-next l = until_asked l.heap l.todo l.values l.inside ≡ until_asked l.heap l.fn.todo l.fn.values l.fn.inside

abbrev pub decreases-loop-next : goal.decreases-loop-next
decreases-loop-next l = length l.todo
