use Rattle.std.proofs.Common.{◌+◌, length}
use Rattle.gv_heap.specs.Heap.{pay}
use Rattle.gv_gathered.specs.Making.{with_all, group_objects, groups_price}
use Rattle.gv_gathered.proofs.Lists.{Left}
use Rattle.gv_gathered.proofs.groups.make_paid.Given as goal

-- the groups that are left decide
abbrev pub invariant-loop-group : goal.invariant-loop-group
invariant-loop-group l =
    Left l.heap l.entries l.group-iterator (length l.fn.heap.objects + length l.fn.groups.entries)
    (pay (with_all l.fn.heap (group_objects (length l.fn.heap.objects) l.fn.groups.entries)) (groups_price l.fn.groups.entries))
