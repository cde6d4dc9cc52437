-- What a frame comes to behind the answer to its call, and the heap that it leaves.
use Rattle.std.specs.Prelude.{◌≡◌, ℕ, List}
use Rattle.gv_base.specs.declared.value.Value.{Value}
use Rattle.gv_classes.specs.declared.declared.Declared.{Declared}
use Rattle.gv_distinct.specs.Distinct as distincts
use Rattle.gv_equals.specs.Equals as equals
use Rattle.gv_folds.specs.Folds as folds
use Rattle.gv_hashes.specs.Hashes as hashes
use Rattle.gv_heap.specs.Heap.{HeapState}
use Rattle.gv_says.specs.Says as says
use Rattle.gv_searches.specs.Searches as searches
use Rattle.gv_truths.specs.Truths as truths
use Rattle.gv_frames.specs.Turns.{truth_turn, equal_turn, hash_turn, said_turn, fold_turn, search_turn, distinct_turn}
use Rattle.gv_frames.specs.declared.frame.Turn.{Turn}
use Rattle.gv_frames.specs.declared.frame.Turn.TheVariants.{Done, OutOfMemory}
use Rattle.gv_frames.specs.declared.frame.WalkFrame.{WalkFrame}
use Rattle.gv_frames.specs.declared.frame.WalkFrame.TheVariants as frame

-- this turn, and the heap as it was
abbrev pub Is : HeapState → Turn → Turn → HeapState → Type 0
Is old turn result new = (result ≡ turn) × (new ≡ old)

-- a turn of which this holds, by the heap that it leaves
abbrev pub Comes : {T : Type 0} → (T → HeapState → Type 0) → (T → Turn) → Turn → HeapState → Type 0
Comes {T} Turned lift result new = (turn : T) × Turned turn new × (result ≡ lift turn)

-- want of memory says nothing more
abbrev pub Unless : Turn → Type 0 → Type 0
Unless OutOfMemory claim = Unit {0}
Unless result claim = claim

module _ (names : List (List ℕ)) (classes : List Declared) (old : HeapState) where
  abbrev pub Resumed : WalkFrame → Value → Turn → HeapState → Type 0
  Resumed frame.Answer answer result new = Is old (Done answer) result new
  Resumed frame.Judged answer result new = Is old (truth_turn (truths.started names classes old answer)) result new
  Resumed (frame.Truth walk) answer result new = Is old (truth_turn (truths.resumed names classes old walk answer)) result new
  Resumed (frame.Equal walk) answer result new = Is old (equal_turn (equals.resumed names classes old walk answer)) result new
  Resumed (frame.Hash walk) answer result new = Is old (hash_turn names classes old (hashes.resumed names classes old walk answer)) result new
  Resumed (frame.Said saying) answer result new = Comes (says.Turned old (says.resumed names classes old saying answer)) said_turn result new
  Resumed (frame.Fold fold) answer result new = Comes (folds.Turned old (folds.resumed names classes old fold answer)) fold_turn result new
  Resumed (frame.Search search) answer result new = Comes (searches.Turned old (searches.resumed names classes old search answer)) search_turn result new
  Resumed (frame.Distinct distinct) answer result new = Comes (distincts.Turned old (distincts.resumed names classes old distinct answer)) distinct_turn result new

  abbrev pub Resumes : WalkFrame → Value → Turn → HeapState → Type 0
  Resumes waits answer result new = Unless result (Resumed waits answer result new)
