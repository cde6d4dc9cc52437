use Rattle.std.proofs.Common.{◌≡◌, length}
use Rattle.gv_hashes.specs.Hashes.{until_asked}
use Rattle.gv_hashes.proofs.walk.until_asked.Given as goal

abbrev pub invariant-loop-next : goal.invariant-loop-next
invariant-loop-next l = until_asked l.names l.classes l.heap l.todo l.hashes l.inside ≡ until_asked l.names l.classes l.heap l.fn.todo l.fn.hashes l.fn.inside

abbrev pub decreases-loop-next : goal.decreases-loop-next
decreases-loop-next l = length l.todo
