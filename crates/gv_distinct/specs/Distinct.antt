-- What minus and unique do at each turn.
use Rattle.std.specs.Prelude.{◌≡◌, ℕ, ◌+◌, ◌≤◌, ◌<◌, true, false, List, [], ◌∷◌, ◌++◌, drop, length, Result, Ok, Err, if◌then◌else◌}
use Rattle.std.specs.declared.alloc.AllocError.{AllocError}
use Rattle.gv_base.specs.declared.value.Value.{Value}
use Rattle.gv_base.specs.declared.value.Value.TheVariants.{Obj}
use Rattle.gv_classes.specs.declared.declared.Declared.{Declared}
use Rattle.gv_equals.specs.Equals as equals
use Rattle.gv_equals.specs.declared.walk.EqualTurn.{EqualTurn}
use Rattle.gv_equals.specs.declared.walk.EqualTurn.TheVariants as equal
use Rattle.gv_heap.specs.Heap.{HeapState, object_at, pay, with_new}
use Rattle.gv_heap.specs.Prices.{filled_price}
use Rattle.gv_heap.specs.declared.error.HeapError.TheVariants.{CellsSpent}
use Rattle.gv_heap.specs.declared.object.Object.TheVariants as object
use Rattle.gv_refill.specs.Refill.{Refills}
use Rattle.gv_rows.specs.Takes.{is_sequence}
use Rattle.gv_rows.specs.Values.{sequence_at}
use Rattle.gv_texts.specs.declared.question.Question.{Question}
use Rattle.gv_distinct.specs.declared.distinct.Distinct.{Distinct}
use Rattle.gv_distinct.specs.declared.distinct.Dropping.{Dropping}
use Rattle.gv_distinct.specs.declared.distinct.Dropping.TheVariants.{Others, Repeated}
use Rattle.gv_distinct.specs.declared.distinct.Progress.{Progress}
use Rattle.gv_distinct.specs.declared.distinct.Progress.TheVariants.{Ended, Asks}
use Rattle.gv_distinct.specs.declared.distinct.Verdict.{Verdict}
use Rattle.gv_distinct.specs.declared.distinct.Verdict.TheVariants.{Drops, Keeps, Waits}
use Rattle.gv_distinct.specs.declared.turn.DistinctTurn.{DistinctTurn}
use Rattle.gv_distinct.specs.declared.turn.DistinctTurn.TheVariants as turn

-- ---- the end

-- a new list of what was kept, for its price
abbrev pub MakesList : HeapState → List Value → DistinctTurn → HeapState → Type 0
MakesList old kept (turn.Done value) new =
    (value ≡ Obj (length old.objects)) × (filled_price kept ≤ old.cells) × (new ≡ pay (with_new old (object.List kept)) (filled_price kept))
MakesList old kept turn.CellsSpent new = (old.cells < filled_price kept) × (new ≡ old)
MakesList old kept other new = ⊥

-- what was kept is put in place of all elements of the list as it is now, and the list is answered
abbrev pub PutsInList : HeapState → ℕ → List Value → DistinctTurn → HeapState → Type 0
PutsInList old id kept (turn.Done value) new = (value ≡ Obj id) × Refills old id kept (Ok tt) new
PutsInList old id kept turn.CellsSpent new = Refills old id kept (Err CellsSpent) new
PutsInList old id kept other new = ⊥

abbrev pub Ends : HeapState → Dropping → List Value → DistinctTurn → HeapState → Type 0
Ends old (Others others) kept result new = MakesList old kept result new
Ends old (Repeated id) kept result new = PutsInList old id kept result new

-- ---- what a turn comes to, and the heap that it leaves

abbrev pub Asked : HeapState → Distinct → Value → Question → DistinctTurn → HeapState → Type 0
Asked old distinct receiver question (turn.Asks d r q) new = (d ≡ distinct) × (r ≡ receiver) × (q ≡ question) × (new ≡ old)
Asked old distinct receiver question other new = ⊥

abbrev pub Turned : HeapState → Progress → DistinctTurn → HeapState → Type 0
Turned old (Asks distinct receiver question) result new = Asked old distinct receiver question result new
Turned old (Ended dropping kept) result new = Ends old dropping kept result new

-- want of memory ends the run
abbrev pub Answers : (DistinctTurn → HeapState → Type 0) → Result DistinctTurn AllocError → HeapState → Type 0
Answers Does (Ok result) new = Does result new
Answers Does (Err error) new = Unit {0}

abbrev pub Turns : HeapState → Progress → Result DistinctTurn AllocError → HeapState → Type 0
Turns old progress result new = Answers (Turned old progress) result new

-- ---- an element beside others

-- what an element is compared with, in order: the values that are to go, or those that are kept so far
abbrev pub others : Dropping → List Value → List Value
others (Others values) kept = values
others (Repeated id) kept = kept

-- equal to one, it goes; else the rest tells; or a value is asked first
abbrev pub judged : EqualTurn → ℕ → Verdict → Verdict
judged (equal.Is true) compared rest = Drops
judged (equal.Is false) compared rest = rest
judged (equal.Asks walk receiver question) compared rest = Waits compared walk receiver question

-- what its comparisons do with an element: it goes, it is kept, or it waits
abbrev pub selected : Verdict → Value → List Value → Dropping → List Value → (List Value → Progress) → Progress
selected Drops element source dropping kept go = go kept
selected Keeps element source dropping kept go = go (kept ++ element ∷ [])
selected (Waits compared walk receiver question) element source dropping kept go =
    Asks (record { selection = record { dropping = dropping; kept = kept; source = source }; element = element; compared = compared; walk = walk }) receiver question

-- what is to go: the elements of a list or a range, or the value
abbrev pub others_in : HeapState → Value → List Value
others_in heap (Obj id) = if is_sequence (object_at heap id) then sequence_at heap id else Obj id ∷ []
others_in heap value = value ∷ []

module _ (names : List (List ℕ)) (classes : List Declared) (heap : HeapState) where
  -- the element stands on the left of a value that is to go, and on the right of one that is kept
  abbrev pub compared : Dropping → Value → Value → EqualTurn
  compared (Others values) element other = equals.started names classes heap element other
  compared (Repeated id) element other = equals.started names classes heap other element

  -- with those that are left, up to the first equal one
  abbrev pub against_all : Dropping → Value → List Value → ℕ → Verdict
  against_all dropping element [] count = Keeps
  against_all dropping element (other ∷ rest) count = judged (compared dropping element other) (count + 1) (against_all dropping element rest (count + 1))

  -- ---- the elements that are still to come, up to the next question
  abbrev pub until_asked : Dropping → List Value → List Value → Progress
  until_asked dropping [] kept = Ended dropping kept
  until_asked dropping (element ∷ rest) kept =
      selected (against_all dropping element (others dropping kept) 0) element rest dropping kept (until_asked dropping rest)

  -- ---- the turns

  abbrev pub started : ℕ → Dropping → Progress
  started id dropping = until_asked dropping (sequence_at heap id) []

  abbrev pub minus_started : ℕ → Value → Progress
  minus_started id removed = started id (Others (others_in heap removed))

  abbrev pub unique_started : ℕ → Progress
  unique_started id = started id (Repeated id)

  -- an answer goes to the comparison that asked; then its element is compared with the others that are left
  abbrev pub verdict_behind : Distinct → EqualTurn → Verdict
  verdict_behind distinct turn =
      judged turn distinct.compared (against_all distinct.selection.dropping distinct.element (drop distinct.compared (others distinct.selection.dropping distinct.selection.kept)) distinct.compared)

  abbrev pub resumed : Distinct → Value → Progress
  resumed distinct answer =
      selected (verdict_behind distinct (equals.resumed names classes heap distinct.walk answer)) distinct.element distinct.selection.source distinct.selection.dropping distinct.selection.kept
      (until_asked distinct.selection.dropping distinct.selection.source)
