use Rattle.std.proofs.Common.{◌≡◌, ◌≤◌, length}
use Rattle.gv_heap.specs.Heap.{list_at}
use Rattle.gv_refill.specs.Refill.{shortened}
use Rattle.gv_refill.proofs.refilling.shorten.Given as goal

abbrev pub invariant-loop-left : goal.invariant-loop-left
invariant-loop-left l = (within : l.left ≤ length (list_at l.fn.heap l.list)) × (above : l.count ≤ l.left) × (l.heap ≡ shortened l.fn.heap l.list l.left)

abbrev pub decreases-loop-left : goal.decreases-loop-left
decreases-loop-left l = l.left
