use Rattle.std.proofs.Common.{◌≡◌, take}
use Rattle.gv_lists.specs.Writing.{grown}
use Rattle.gv_lists.proofs.writing.push_each.Given as goal

abbrev pub invariant-loop-x : goal.invariant-loop-x
invariant-loop-x l = l.heap ≡ grown l.fn.heap l.list (take l.x-index l.new)
