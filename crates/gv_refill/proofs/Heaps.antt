-- A list that is given other elements, step by step.
use Rattle.std.proofs.Common.{zero, suc, ◌<◌, ◌≤◌, remove, Option, slice_get, slice_set, get_or, append-nil, ◌≡◌, ℕ, ◌+◌, ◌-◌, List, [], ◌∷◌, ◌++◌, length, take, drop, Some, refl, ap, sym, subst, append_assoc, length-append, add-one, ◌∙◌, arith}
use Rattle.std.proofs.Math.Seq.{take-length, drop-length}
use Rattle.std.proofs.lemmas.List.{take-append-drop, length-drop, length-take-le, take_at}
use Rattle.gv_base.specs.declared.value.Value.{Value}
use Rattle.gv_base.specs.declared.value.Value.TheVariants.{Null}
use Rattle.gv_heap.proofs.CallerLemmas.{object_at-with_list, slice_set-slice_set}
use Rattle.gv_heap.specs.Heap.{HeapState, list_at, object_at, with_list}
use Rattle.gv_heap.specs.Kinds.{IsListObject, elements_of}
use Rattle.gv_heap.specs.declared.object.Object.{Object}
use Rattle.gv_heap.specs.declared.object.Object.TheVariants.{List as ListObject}
use Rattle.gv_refill.specs.Refill.{begun, shortened, grown, refilled}

-- ---- lists

module _ {X : Type 0} where
  slice_set-same : (xs : List X) (i : ℕ) (x : X) → slice_get xs i ≡ Some x → slice_set xs i x ≡ xs
  slice_set-same [] i x h = refl
  slice_set-same (y ∷ ys) zero x h = cc
  slice_set-same (y ∷ ys) (suc i) x h = ap (λ rest. y ∷ rest) (slice_set-same ys i x h)

  set_next : (first xs : List X) (i : ℕ) (d : X) → i < length first → i < length xs → slice_set (take i first ++ drop i xs) i (get_or first i d) ≡ take (suc i) first ++ drop (suc i) xs
  set_next [] xs i d h g = absurd (omega arith)
  set_next (f ∷ fs) [] i d h g = absurd (omega arith)
  set_next (f ∷ fs) (y ∷ ys) zero d h g = refl
  set_next (f ∷ fs) (y ∷ ys) (suc i) d h g = ap (λ rest. f ∷ rest) (set_next fs ys i d (omega arith) (omega arith))

  part_length : (first xs : List X) (i : ℕ) → i ≤ length first → i ≤ length xs → length (take i first ++ drop i xs) ≡ length xs
  part_length first xs zero h g = refl
  part_length [] xs (suc i) h g = absurd (omega arith)
  part_length (f ∷ fs) [] (suc i) h g = absurd (omega arith)
  part_length (f ∷ fs) (y ∷ ys) (suc i) h g = ap suc (part_length fs ys i (omega arith) (omega arith))

  remove_last : (xs : List X) (i : ℕ) → i < length xs → remove (take (suc i) xs) i ≡ take i xs
  remove_last [] i h = absurd (omega arith)
  remove_last (x ∷ xs) zero h = refl
  remove_last (x ∷ xs) (suc i) h = ap (λ rest. x ∷ rest) (remove_last xs i (omega arith))

  refilled_elements : (vs xs : List X) → (take (length xs) vs ++ drop (length xs) xs) ++ drop (length xs) vs ≡ vs
  refilled_elements vs xs =
      ap (λ rest. (take (length xs) vs ++ rest) ++ drop (length xs) vs) (drop-length xs)
      ∙ ap (λ first. first ++ drop (length xs) vs) (append-nil (take (length xs) vs))
      ∙ take-append-drop (length xs) vs

-- ---- heaps

list_there : (o : Option Object) → IsListObject o → o ≡ Some (ListObject (elements_of o))
list_there (Some (ListObject items)) h = refl
list_there o h = absurd h

module _ (heap : HeapState) (id : ℕ) (is_list : IsListObject (object_at heap id)) where
  pub written_list : (vs : List Value) → IsListObject (object_at (with_list heap id vs) id)
  written_list vs = subst IsListObject (sym (object_at-with_list heap id vs is_list)) tt

  pub written_elements : (vs : List Value) → list_at (with_list heap id vs) id ≡ vs
  written_elements vs = ap elements_of (object_at-with_list heap id vs is_list)

  rewritten : (vs ws : List Value) → with_list (with_list heap id vs) id ws ≡ with_list heap id ws
  rewritten vs ws = ap (λ os. record heap { objects = os }) (slice_set-slice_set heap.objects id (ListObject vs) (ListObject ws))

  pub as_it_was : with_list heap id (list_at heap id) ≡ heap
  as_it_was = ap (λ os. record heap { objects = os }) (slice_set-same heap.objects id (ListObject (list_at heap id)) (list_there (object_at heap id) is_list))

  -- the first elements are written
  pub begun_nothing : (vs : List Value) → heap ≡ begun heap id vs 0
  begun_nothing vs = sym as_it_was

  pub begun_list : (vs : List Value) (i : ℕ) → IsListObject (object_at (begun heap id vs i) id)
  begun_list vs i = written_list (take i vs ++ drop i (list_at heap id))

  pub begun_length : (vs : List Value) (i : ℕ) → i ≤ length vs → i ≤ length (list_at heap id) → length (list_at (begun heap id vs i) id) ≡ length (list_at heap id)
  begun_length vs i h g = ap length (written_elements (take i vs ++ drop i (list_at heap id))) ∙ part_length vs (list_at heap id) i h g

  pub begun_more : (vs : List Value) (i : ℕ) → i < length vs → i < length (list_at heap id) → with_list (begun heap id vs i) id (slice_set (list_at (begun heap id vs i) id) i (get_or vs i Null)) ≡ begun heap id vs (i + 1)
  begun_more vs i h g =
      rewritten (take i vs ++ drop i (list_at heap id)) (slice_set (list_at (begun heap id vs i) id) i (get_or vs i Null))
      ∙ ap (λ ws. with_list heap id (slice_set ws i (get_or vs i Null))) (written_elements (take i vs ++ drop i (list_at heap id)))
      ∙ ap (with_list heap id) (set_next vs (list_at heap id) i Null h g)
      ∙ ap (begun heap id vs) (sym (add-one i))

  -- the last elements go
  pub shortened_nothing : heap ≡ shortened heap id (length (list_at heap id))
  shortened_nothing = sym (ap (with_list heap id) (take-length (list_at heap id)) ∙ as_it_was)

  pub shortened_list : (n : ℕ) → IsListObject (object_at (shortened heap id n) id)
  shortened_list n = written_list (take n (list_at heap id))

  pub shortened_length : (n : ℕ) → n ≤ length (list_at heap id) → length (list_at (shortened heap id n) id) ≡ n
  shortened_length n h = ap length (written_elements (take n (list_at heap id))) ∙ length-take-le n (list_at heap id) h

  shortened_next : (n : ℕ) → n < length (list_at heap id) → with_list (shortened heap id (suc n)) id (remove (list_at (shortened heap id (suc n)) id) n) ≡ shortened heap id n
  shortened_next n h =
      rewritten (take (suc n) (list_at heap id)) (remove (list_at (shortened heap id (suc n)) id) n)
      ∙ ap (λ ws. with_list heap id (remove ws n)) (written_elements (take (suc n) (list_at heap id)))
      ∙ ap (with_list heap id) (remove_last (list_at heap id) n h)

  pub shortened_more : (n : ℕ) → 0 < n → n ≤ length (list_at heap id) → with_list (shortened heap id n) id (remove (list_at (shortened heap id n) id) (n - 1)) ≡ shortened heap id (n - 1)
  shortened_more zero h g = absurd (omega arith)
  shortened_more (suc n) h g =
      let e : suc n - 1 ≡ n = omega arith in
      rw e (shortened_next n (omega arith))

  -- others go last
  pub grown_nothing : heap ≡ grown heap id []
  grown_nothing =
      let list : with_list heap id (list_at heap id ++ []) ≡ heap = ap (with_list heap id) (append-nil (list_at heap id)) ∙ as_it_was in
      let cells : heap.cells - 0 ≡ heap.cells = omega arith in
      sym (ap {A = HeapState} (λ h. record h { cells = heap.cells - 0 }) list ∙ ap (λ n. record heap { cells = n }) cells)

  pub grown_list : (vs : List Value) → IsListObject (object_at (grown heap id vs) id)
  grown_list vs = written_list (list_at heap id ++ vs)

  pub grown_more : (vs : List Value) (x : Value) → grown (grown heap id vs) id (x ∷ []) ≡ grown heap id (vs ++ x ∷ [])
  grown_more vs x =
      let items : list_at (grown heap id vs) id ++ x ∷ [] ≡ list_at heap id ++ (vs ++ x ∷ []) =
      ap (λ ys. ys ++ x ∷ []) (written_elements (list_at heap id ++ vs)) ∙ append_assoc (list_at heap id) vs (x ∷ []) in
      let list : with_list (with_list heap id (list_at heap id ++ vs)) id (list_at (grown heap id vs) id ++ x ∷ []) ≡ with_list heap id (list_at heap id ++ (vs ++ x ∷ [])) =
      rewritten (list_at heap id ++ vs) (list_at (grown heap id vs) id ++ x ∷ []) ∙ ap (with_list heap id) items in
      let cells : heap.cells - length vs - 1 ≡ heap.cells - length (vs ++ x ∷ []) = omega (arith, length-append vs (x ∷ [])) in
      ap {A = HeapState} (λ h. record h { cells = heap.cells - length vs - 1 }) list
      ∙ ap (λ n. record (with_list heap id (list_at heap id ++ (vs ++ x ∷ []))) { cells = n }) cells

  -- all are there
  pub fitted : (vs : List Value) → length vs ≤ length (list_at heap id) → shortened (begun heap id vs (length vs)) id (length vs) ≡ refilled heap id vs
  fitted vs h =
      let part = take (length vs) vs ++ drop (length vs) (list_at heap id) in
      let items : take (length vs) (list_at (begun heap id vs (length vs)) id) ≡ vs =
      ap (take (length vs)) (written_elements part) ∙ take_at (take (length vs) vs) (drop (length vs) (list_at heap id)) (length vs) (ap length (take-length vs)) ∙ take-length vs in
      let list : with_list (begun heap id vs (length vs)) id (take (length vs) (list_at (begun heap id vs (length vs)) id)) ≡ with_list heap id vs =
      rewritten part (take (length vs) (list_at (begun heap id vs (length vs)) id)) ∙ ap (with_list heap id) items in
      let cells : heap.cells ≡ heap.cells - (length vs - length (list_at heap id)) = omega arith in
      list ∙ ap (λ n. record (with_list heap id vs) { cells = n }) cells

  extended_at : (vs : List Value) → length (list_at heap id) ≤ length vs → grown (begun heap id vs (length (list_at heap id))) id (drop (length (list_at heap id)) vs) ≡ refilled heap id vs
  extended_at vs h =
      let n = length (list_at heap id) in
      let part = take n vs ++ drop n (list_at heap id) in
      let items : list_at (begun heap id vs n) id ++ drop n vs ≡ vs =
      ap (λ ws. ws ++ drop n vs) (written_elements part) ∙ refilled_elements vs (list_at heap id) in
      let list : with_list (begun heap id vs n) id (list_at (begun heap id vs n) id ++ drop n vs) ≡ with_list heap id vs =
      rewritten part (list_at (begun heap id vs n) id ++ drop n vs) ∙ ap (with_list heap id) items in
      let rest : length (drop n vs) ≡ length vs - n = length-drop n vs in
      ap {A = HeapState} (λ h. record h { cells = heap.cells - length (drop n vs) }) list
      ∙ ap (λ k. record (with_list heap id vs) { cells = heap.cells - k }) rest

  pub extended : (vs : List Value) (n : ℕ) → n ≡ length (list_at heap id) → n ≤ length vs → grown (begun heap id vs n) id (drop n vs) ≡ refilled heap id vs
  extended vs n e h = rw e (extended_at vs (omega arith))

pub ruleset beginning = (begun_nothing, begun_list, begun_length, begun_more)

pub ruleset shortening = (shortened_nothing, shortened_list, shortened_length, shortened_more)

pub ruleset growing = (grown_nothing, grown_list, grown_more)

pub ruleset ending = (begun_list, begun_length, fitted, extended)
