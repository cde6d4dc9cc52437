use Rattle.std.proofs.Common.{◌≡◌, take}
use Rattle.gv_refill.specs.Refill.{grown}
use Rattle.gv_refill.proofs.refilling.push_each.Given as goal

abbrev pub invariant-loop-x : goal.invariant-loop-x
invariant-loop-x l = l.heap ≡ grown l.fn.heap l.list (take l.x-index l.last)
