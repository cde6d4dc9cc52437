-- What a fold does at each turn.
use Rattle.std.specs.Prelude.{◌≡◌, ℕ, ◌+◌, ◌≤◌, ◌<◌, Bool, true, false, List, ◌∷◌, length, reverse, Result, Ok, Err}
use Rattle.std.specs.declared.alloc.AllocError.{AllocError}
use Rattle.gv_base.specs.declared.value.Value.{Value}
use Rattle.gv_base.specs.declared.value.Value.TheVariants.{Null, Bool as Truth, Obj}
use Rattle.gv_classes.specs.declared.declared.Declared.{Declared}
use Rattle.gv_heap.specs.Heap.{HeapState, pay, with_new}
use Rattle.gv_heap.specs.Prices.{filled_price}
use Rattle.gv_heap.specs.declared.object.Object.{Object}
use Rattle.gv_heap.specs.declared.object.Object.TheVariants as object
use Rattle.gv_rows.specs.Values.{integer_of}
use Rattle.gv_texts.specs.declared.question.Question.{Question}
use Rattle.gv_truths.specs.Truths as truths
use Rattle.gv_truths.specs.declared.truth.TruthTurn.{TruthTurn}
use Rattle.gv_truths.specs.declared.truth.TruthTurn.TheVariants as truth
use Rattle.gv_folds.specs.Sources.{next}
use Rattle.gv_folds.specs.declared.fold.Fold.{Fold}
use Rattle.gv_folds.specs.declared.fold.Keeping.{Keeping}
use Rattle.gv_folds.specs.declared.fold.Keeping.TheVariants.{Each, Collected, Found, FoundAll, Any, Every, Injected, Counted}
use Rattle.gv_folds.specs.declared.fold.Kept.{Kept}
use Rattle.gv_folds.specs.declared.fold.Kept.TheVariants.{Goes, Finds, Is as IsSo}
use Rattle.gv_folds.specs.declared.fold.Pending.{Pending}
use Rattle.gv_folds.specs.declared.fold.Pending.TheVariants as pending
use Rattle.gv_folds.specs.declared.source.Args.{Args}
use Rattle.gv_folds.specs.declared.source.Args.TheVariants.{One, Two}
use Rattle.gv_folds.specs.declared.source.Handed.{Handed}
use Rattle.gv_folds.specs.declared.source.Handed.TheVariants.{Nothing, Element, Pair}
use Rattle.gv_folds.specs.declared.source.Handing.{Handing}
use Rattle.gv_folds.specs.declared.source.Handing.TheVariants.{NoMore, Hands, Makes}
use Rattle.gv_folds.specs.declared.turn.FoldTurn.{FoldTurn}
use Rattle.gv_folds.specs.declared.turn.FoldTurn.TheVariants as turn

-- ---- what a turn comes to, and the heap that it leaves

-- the closure is called; a value is asked for its truth; an object is made for its price, with which it goes on; the method answers
pub data Outcome : Type 0 where
  Calls : (fold : Fold) (args : Args) → Outcome
  Asks : (fold : Fold) (receiver : Value) (question : Question) → Outcome
  MakesEntry : (fold : Fold) (key : Value) (value : Value) → Outcome
  Answers : (value : Value) → Outcome
  MakesAnswer : (made : Object) (price : ℕ) → Outcome

-- what the code gives of it
abbrev pub Made : HeapState → Object → ℕ → HeapState → Type 0
Made old made price new = (price ≤ old.cells) × (new ≡ pay (with_new old made) price)

abbrev pub Turned : HeapState → Outcome → FoldTurn → HeapState → Type 0
Turned old (Calls fold args) (turn.Calls f a) new = (f ≡ fold) × (a ≡ args) × (new ≡ old)
Turned old (Asks fold receiver question) (turn.Asks f r q) new = (f ≡ fold) × (r ≡ receiver) × (q ≡ question) × (new ≡ old)
Turned old (MakesEntry fold key value) (turn.Calls f a) new =
    (f ≡ record fold { handed = Element (Obj (length old.objects)) }) × (a ≡ One (Obj (length old.objects))) × Made old (object.Entry key value) 1 new
Turned old (MakesEntry fold key value) turn.CellsSpent new = (old.cells < 1) × (new ≡ old)
Turned old (Answers value) (turn.Done v) new = (v ≡ value) × (new ≡ old)
Turned old (MakesAnswer made price) (turn.Done v) new = (v ≡ Obj (length old.objects)) × Made old made price new
Turned old (MakesAnswer made price) turn.CellsSpent new = (old.cells < price) × (new ≡ old)
Turned old outcome result new = ⊥

abbrev pub Turns : HeapState → Outcome → Result FoldTurn AllocError → HeapState → Type 0
Turns old outcome (Ok result) new = Turned old outcome result new
Turns old outcome (Err error) new = Unit {0}

-- ---- the end

abbrev pub list_answer : List Value → Outcome
list_answer vs = MakesAnswer (object.List vs) (filled_price vs)

abbrev pub ended : Keeping → Outcome
ended (Each v) = Answers v
ended (Collected vs) = list_answer (reverse vs)
ended Found = Answers Null
ended (FoundAll vs) = list_answer (reverse vs)
ended Any = Answers (Truth false)
ended Every = Answers (Truth true)
ended (Injected v) = Answers v
ended (Counted n) = Answers (integer_of n)

-- what the turn was about that ends a search
abbrev pub found : Handed → Outcome
found Nothing = Answers Null
found (Element v) = Answers v
found (Pair key value) = MakesAnswer (object.Entry key value) 1

-- ---- the next turn

abbrev pub with_kept : Keeping → Args → Args
with_kept (Injected v) (One w) = Two v w
with_kept keeping args = args

abbrev pub handing : Fold → Handing → Outcome
handing fold NoMore = ended fold.keeping
handing fold (Hands handed args source) = Calls (record fold { source = source; handed = handed; pending = pending.Answer }) (with_kept fold.keeping args)
handing fold (Makes key value source) = MakesEntry (record fold { source = source; pending = pending.Answer }) key value

abbrev pub going : Fold → Outcome
going fold = handing fold (next fold.source)

abbrev pub keeping_with : Fold → Keeping → Fold
keeping_with fold keeping = record fold { keeping = keeping }

-- ---- behind an answer

abbrev pub element_of : Handed → Value
element_of (Element v) = v
element_of handed = Null

-- what an answer that is true or isn't does
abbrev pub kept : Keeping → Handed → Bool → Kept
kept Found handed true = Finds
kept Any handed true = IsSo true
kept Every handed false = IsSo false
kept (FoundAll vs) handed true = Goes (FoundAll (element_of handed ∷ vs))
kept (Counted n) handed true = Goes (Counted (n + 1))
kept keeping handed b = Goes keeping

abbrev pub judged : Fold → Kept → Outcome
judged fold Finds = found fold.handed
judged fold (IsSo b) = Answers (Truth b)
judged fold (Goes keeping) = going (keeping_with fold keeping)

abbrev pub judging : Fold → TruthTurn → Outcome
judging fold (truth.Is b) = judged fold (kept fold.keeping fold.handed b)
judging fold (truth.Asks walk receiver question) = Asks (record fold { pending = pending.Truth walk }) receiver question

module _ (names : List (List ℕ)) (classes : List Declared) where
  abbrev pub answered_by : Keeping → HeapState → Fold → Value → Outcome
  answered_by (Each v) heap fold answer = going fold
  answered_by (Collected vs) heap fold answer = going (keeping_with fold (Collected (answer ∷ vs)))
  answered_by (Injected v) heap fold answer = going (keeping_with fold (Injected answer))
  answered_by keeping heap fold answer = judging fold (truths.started names classes heap answer)

  abbrev pub resumed_by : Pending → HeapState → Fold → Value → Outcome
  resumed_by pending.Answer heap fold answer = answered_by fold.keeping heap fold answer
  resumed_by (pending.Truth walk) heap fold answer = judging fold (truths.resumed names classes heap walk answer)

  abbrev pub resumed : HeapState → Fold → Value → Outcome
  resumed heap fold answer = resumed_by fold.pending heap fold answer
