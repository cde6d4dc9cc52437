-- A list that grows, and calls that take no cell.
use Rattle.std.proofs.Common.{zero, suc, Option, slice_get, slice_set, append-nil, ◌≡◌, ℕ, ◌-◌, List, [], ◌∷◌, ◌++◌, length, Some, refl, ap, sym, subst, append_assoc, length-append, ◌∙◌, arith}
use Rattle.gv_base.specs.declared.value.Value.{Value}
use Rattle.gv_heap.proofs.CallerLemmas.{object_at-with_list, slice_set-slice_set}
use Rattle.gv_heap.specs.Heap.{HeapState, list_at, object_at}
use Rattle.gv_heap.specs.Kinds.{IsListObject, elements_of}
use Rattle.gv_heap.specs.declared.object.Object.{Object}
use Rattle.gv_heap.specs.declared.object.Object.TheVariants.{List as ListObject}
use Rattle.gv_rows.specs.Reply.{Did, Answers}
use Rattle.gv_rows.specs.declared.done.Done.TheVariants as done
use Rattle.gv_lists.specs.Writing.{grown}

pub did_changed : (old new : HeapState) (value : Value) → Did old (Answers value 0 new) (done.Value value) new
did_changed old new value = (omega arith, refl, ap (λ cells. record new { cells = cells }) (omega arith))

-- the list that grew
grown_object : (heap : HeapState) (id : ℕ) (new : List Value) → IsListObject (object_at heap id) → object_at (grown heap id new) id ≡ Some (ListObject (list_at heap id ++ new))
grown_object heap id new h = object_at-with_list heap id (list_at heap id ++ new) h

pub grown_is_list : (heap : HeapState) (id : ℕ) (new : List Value) → IsListObject (object_at heap id) → IsListObject (object_at (grown heap id new) id)
grown_is_list heap id new h = subst IsListObject (sym (grown_object heap id new h)) tt

-- it grows by nothing
list_there : (o : Option Object) → IsListObject o → o ≡ Some (ListObject (elements_of o))
list_there (Some (ListObject items)) h = refl
list_there o h = absurd h

slice_set-same : {X : Type 0} → (xs : List X) (i : ℕ) (x : X) → slice_get xs i ≡ Some x → slice_set xs i x ≡ xs
slice_set-same [] i x h = refl
slice_set-same (y ∷ ys) zero x h = cc
slice_set-same (y ∷ ys) (suc i) x h = ap (λ rest. y ∷ rest) (slice_set-same ys i x h)

pub grown_nothing : (heap : HeapState) (id : ℕ) → IsListObject (object_at heap id) → heap ≡ grown heap id []
grown_nothing heap id h =
    let objects : slice_set heap.objects id (ListObject (list_at heap id ++ [])) ≡ heap.objects =
    ap (λ items. slice_set heap.objects id (ListObject items)) (append-nil (list_at heap id))
    ∙ slice_set-same heap.objects id (ListObject (list_at heap id)) (list_there (object_at heap id) h) in
    let cells : heap.cells - 0 ≡ heap.cells = omega arith in
    sym (ap (λ os. record { objects = os; places = heap.places; cells = heap.cells - 0 }) objects ∙ ap (λ n. record { objects = heap.objects; places = heap.places; cells = n }) cells)

-- it grows by one more
pub grown_more : (heap : HeapState) (id : ℕ) (new : List Value) (x : Value) → IsListObject (object_at heap id) → grown (grown heap id new) id (x ∷ []) ≡ grown heap id (new ++ x ∷ [])
grown_more heap id new x h =
    let items : list_at (grown heap id new) id ++ x ∷ [] ≡ list_at heap id ++ (new ++ x ∷ []) =
    ap (λ o. elements_of o ++ x ∷ []) (grown_object heap id new h) ∙ append_assoc (list_at heap id) new (x ∷ []) in
    let objects : slice_set (slice_set heap.objects id (ListObject (list_at heap id ++ new))) id (ListObject (list_at (grown heap id new) id ++ x ∷ [])) ≡ slice_set heap.objects id (ListObject (list_at heap id ++ (new ++ x ∷ []))) =
    slice_set-slice_set heap.objects id (ListObject (list_at heap id ++ new)) (ListObject (list_at (grown heap id new) id ++ x ∷ []))
    ∙ ap (λ ys. slice_set heap.objects id (ListObject ys)) items in
    let cells : heap.cells - length new - 1 ≡ heap.cells - length (new ++ x ∷ []) = omega (arith, length-append new (x ∷ [])) in
    ap (λ os. record { objects = os; places = heap.places; cells = heap.cells - length new - 1 }) objects
    ∙ ap (λ n. record { objects = slice_set heap.objects id (ListObject (list_at heap id ++ (new ++ x ∷ []))); places = heap.places; cells = n }) cells

pub ruleset growing = (grown_nothing, grown_is_list, grown_more)
