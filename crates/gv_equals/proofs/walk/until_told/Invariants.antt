use Rattle.std.proofs.Common.{◌≡◌, length}
use Rattle.gv_equals.specs.Equals.{until_told}
use Rattle.gv_equals.proofs.walk.until_told.Given as goal

abbrev pub invariant-loop-next : goal.invariant-loop-next
invariant-loop-next l = until_told l.names l.classes l.heap l.todo l.inside ≡ until_told l.names l.classes l.heap l.fn.todo l.fn.inside

abbrev pub decreases-loop-next : goal.decreases-loop-next
decreases-loop-next l = length l.todo
