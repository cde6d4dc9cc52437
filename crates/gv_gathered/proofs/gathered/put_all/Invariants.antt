use Rattle.gv_heap.specs.Heap.{pay, with_map}
use Rattle.std.proofs.Common.{length}
use Rattle.gv_gathered.proofs.Put.{Left}
use Rattle.gv_gathered.proofs.gathered.put_all.Given as goal

-- the entries that are left decide
abbrev pub invariant-loop-entry : goal.invariant-loop-entry
invariant-loop-entry l = Left l.heap l.map l.entry-iterator (pay (with_map l.fn.heap l.map l.fn.entries.entries) (length l.fn.entries.entries))
