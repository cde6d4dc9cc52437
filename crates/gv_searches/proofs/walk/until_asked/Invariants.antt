use Rattle.std.proofs.Common.{◌≡◌, length}
use Rattle.gv_searches.specs.Searches.{until_asked}
use Rattle.gv_searches.proofs.walk.until_asked.Given as goal

abbrev pub invariant-loop-value : goal.invariant-loop-value
invariant-loop-value l = until_asked l.names l.classes l.heap l.wanted l.source l.at l.seeking ≡ until_asked l.names l.classes l.heap l.fn.wanted l.fn.source l.fn.at l.fn.seeking

abbrev pub decreases-loop-value : goal.decreases-loop-value
decreases-loop-value l = length l.source
