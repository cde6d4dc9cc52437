-- What a caller's proof cites.
use Rattle.std.proofs.Common.{refl, ap, arith}
use Rattle.gv_base.specs.declared.value.Value.{Value}
use Rattle.gv_heap.specs.Heap.{HeapState}
use Rattle.gv_rows.specs.Reply.{Did, just}
use Rattle.gv_rows.specs.declared.done.Done.TheVariants as done

-- a value that is answered for nothing
pub did_just : (heap : HeapState) (value : Value) → Did heap (just heap value) (done.Value value) heap
did_just heap value = (omega arith, refl, ap (λ cells. record heap { cells = cells }) (omega arith))
