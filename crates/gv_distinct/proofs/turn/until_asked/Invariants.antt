use Rattle.std.proofs.Common.{◌≡◌, length}
use Rattle.gv_distinct.specs.Distinct.{until_asked}
use Rattle.gv_distinct.proofs.turn.until_asked.Given as goal

abbrev pub invariant-loop-element : goal.invariant-loop-element
invariant-loop-element l = until_asked l.names l.classes l.heap l.dropping l.source l.kept ≡ until_asked l.names l.classes l.heap l.fn.selection.dropping l.fn.selection.source l.fn.selection.kept

abbrev pub decreases-loop-element : goal.decreases-loop-element
decreases-loop-element l = length l.source
