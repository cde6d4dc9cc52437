-- Lists in the heap, and calls that take no cell.
use Rattle.std.proofs.Common.{◌≡◌, ℕ, ℤ, ◌<◌, ◌≤◌, ◌++◌, codes, length, slice_get, Option, Some, None, refl, subst, ap, arith}
use Rattle.std.proofs.lemmas.Option.{slice_get_past}
use Rattle.std.specs.Fmt.{decimal, signed_decimal}
use Rattle.gv_base.specs.declared.exception.ExceptionKind.TheVariants.{IndexOutOfBoundsException}
use Rattle.gv_base.specs.declared.value.Value.{Value}
use Rattle.gv_heap.specs.Heap.{HeapState, list_at}
use Rattle.gv_heap.specs.Kinds.{IsListObject, elements_of}
use Rattle.gv_heap.specs.declared.object.Object.{Object}
use Rattle.gv_heap.specs.declared.object.Object.TheVariants.{List as ListObject}
use Rattle.gv_rows.specs.Reply.{Did, DoesThrow, Answers, Throws, said}
use Rattle.gv_rows.specs.declared.done.Done.{Done}
use Rattle.gv_rows.specs.declared.done.Done.TheVariants as done
use Rattle.gv_searches.specs.Places.{remove_place}

pub did_changed : (old new : HeapState) (value : Value) → Did old (Answers value 0 new) (done.Value value) new
did_changed old new value = (omega arith, refl, ap (λ cells. record new { cells = cells }) (omega arith))

-- what has an element is a list
pub list_with : (o : Option Object) (at : ℕ) → at < length (elements_of o) → IsListObject o
list_with (Some (ListObject items)) at h = tt
list_with o at h = absurd (omega (arith, h))

-- a place behind the last one
pub did_outside : (heap : HeapState) (id : ℕ) (n : ℤ) (at size : ℕ) (result : Done) → size ≡ length (list_at heap id) → size ≤ at
    → DoesThrow IndexOutOfBoundsException (said (codes "Index: " ++ signed_decimal n) (codes ", Size: " ++ decimal size)) result → Did heap (remove_place heap id n (Some at)) result heap
did_outside heap id n at size result e h throws =
    let past : slice_get (list_at heap id) at ≡ None = slice_get_past (list_at heap id) at (omega (arith, e, h)) in
    let thrown : Did heap (Throws IndexOutOfBoundsException (said (codes "Index: " ++ signed_decimal n) (codes ", Size: " ++ decimal (length (list_at heap id))))) result heap =
    subst (λ s. Did heap (Throws IndexOutOfBoundsException (said (codes "Index: " ++ signed_decimal n) (codes ", Size: " ++ decimal s))) result heap) e (throws heap) in
    rw past thrown
