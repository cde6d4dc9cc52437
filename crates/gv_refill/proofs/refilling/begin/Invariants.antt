use Rattle.std.proofs.Common.{◌≡◌}
use Rattle.gv_refill.specs.Refill.{begun}
use Rattle.gv_refill.proofs.refilling.begin.Given as goal

abbrev pub invariant-loop-at : goal.invariant-loop-at
invariant-loop-at l = l.heap ≡ begun l.fn.heap l.list l.elements l.at
