-- What minus and unique come to where nothing is asked.
use Rattle.std.specs.Prelude.{◌≡◌, ℕ, Bool, true, not, List, [], ◌∷◌, ◌++◌, All, filter, if◌then◌else◌}
use Rattle.std.specs.List.{list_any}
use Rattle.gv_base.specs.declared.value.Value.{Value}
use Rattle.gv_classes.specs.declared.declared.Declared.{Declared}
use Rattle.gv_equals.specs.Equals as equals
use Rattle.gv_equals.specs.declared.walk.EqualTurn.TheVariants.{Is}
use Rattle.gv_heap.specs.Heap.{HeapState}
use Rattle.gv_rows.specs.Values.{sequence_at}
use Rattle.gv_distinct.specs.Distinct.{others_in, minus_started, unique_started}
use Rattle.gv_distinct.specs.declared.distinct.Dropping.TheVariants.{Others, Repeated}
use Rattle.gv_distinct.specs.declared.distinct.Progress.TheVariants.{Ended}

-- `same` says of two values whether the left one equals the right one

-- the elements that equal none of these
abbrev pub without : (Value → Value → Bool) → List Value → List Value → List Value
without same removed vs = filter (λ v. not (list_any (λ w. same v w) removed)) vs

-- those of which no kept one before is equal
abbrev pub first_ones : (Value → Value → Bool) → List Value → List Value → List Value
first_ones same kept [] = []
first_ones same kept (v ∷ vs) = if list_any (λ w. same w v) kept then first_ones same kept vs else v ∷ first_ones same (kept ++ v ∷ []) vs

module _ (names : List (List ℕ)) (classes : List Declared) (heap : HeapState) (known : Value → Bool) (same : Value → Value → Bool) where
  -- no comparison of two known values asks
  abbrev pub Tells : Type 0
  Tells = (v w : Value) → known v ≡ true → known w ≡ true → equals.started names classes heap v w ≡ Is (same v w)

  abbrev pub AreKnown : List Value → Type 0
  AreKnown vs = All (λ v. known v ≡ true) vs

  -- minus ends at once, and keeps the elements that equal none of what is to go
  abbrev pub MinusFilters : ℕ → Value → Type 0
  MinusFilters id removed = Tells → AreKnown (sequence_at heap id) → AreKnown (others_in heap removed)
      → minus_started names classes heap id removed ≡ Ended (Others (others_in heap removed)) (without same (others_in heap removed) (sequence_at heap id))

  -- unique ends at once, and keeps the elements of which no kept one before is equal
  abbrev pub UniqueKeepsFirst : ℕ → Type 0
  UniqueKeepsFirst id = Tells → AreKnown (sequence_at heap id)
      → unique_started names classes heap id ≡ Ended (Repeated id) (first_ones same [] (sequence_at heap id))
