-- What a turn comes to, and the heap that it leaves.
use Rattle.std.specs.Prelude.{◌≡◌, ℕ, ◌≤◌, ◌<◌, List, length, reverse, Result, Ok, Err}
use Rattle.std.specs.declared.alloc.AllocError.{AllocError}
use Rattle.gv_base.specs.declared.value.Value.{Value}
use Rattle.gv_base.specs.declared.value.Value.TheVariants.{Obj}
use Rattle.gv_classes.specs.declared.declared.Declared.{Declared}
use Rattle.gv_heap.specs.Heap.{HeapState, pay, with_new}
use Rattle.gv_heap.specs.Prices.{filled_price, text_price}
use Rattle.gv_heap.specs.declared.object.Object.{Object}
use Rattle.gv_heap.specs.declared.object.Object.TheVariants as object
use Rattle.gv_rows.specs.Values.{sequence_at}
use Rattle.gv_joins.specs.Flat as flat
use Rattle.gv_joins.specs.Sums.{sum, added}
use Rattle.gv_joins.specs.Texts as texts
use Rattle.gv_joins.specs.declared.join.Join.{Join}
use Rattle.gv_joins.specs.declared.join.Join.TheVariants.{Sum, Text, Flat}
use Rattle.gv_joins.specs.declared.join.Outcome.{Outcome}
use Rattle.gv_joins.specs.declared.join.Outcome.TheVariants.{Adds, Asks, Answers, MakesText, MakesList}
use Rattle.gv_joins.specs.declared.turn.JoinTurn.{JoinTurn}
use Rattle.gv_joins.specs.declared.turn.JoinTurn.TheVariants as turn

-- an object is made for its price, or the price isn't left and the heap stays
abbrev pub Made : HeapState → Object → ℕ → JoinTurn → HeapState → Type 0
Made old made price (turn.Done v) new = (v ≡ Obj (length old.objects)) × (price ≤ old.cells) × (new ≡ pay (with_new old made) price)
Made old made price turn.CellsSpent new = (old.cells < price) × (new ≡ old)
Made old made price result new = ⊥

-- a value is asked; the method answers; a String or a list is made
abbrev pub Turned : HeapState → Outcome → JoinTurn → HeapState → Type 0
Turned old (Adds join receiver argument) (turn.Adds j r a) new = (j ≡ join) × (r ≡ receiver) × (a ≡ argument) × (new ≡ old)
Turned old (Asks join receiver question) (turn.Asks j r q) new = (j ≡ join) × (r ≡ receiver) × (q ≡ question) × (new ≡ old)
Turned old (Answers value) (turn.Done v) new = (v ≡ value) × (new ≡ old)
Turned old (MakesText made) result new = Made old (object.Text made) (text_price made) result new
Turned old (MakesList made) result new = Made old (object.List (reverse made)) (filled_price (reverse made)) result new
Turned old outcome result new = ⊥

abbrev pub Turns : HeapState → Outcome → Result JoinTurn AllocError → HeapState → Type 0
Turns old outcome (Ok result) new = Turned old outcome result new
Turns old outcome (Err error) new = Unit {0}

-- as the code makes them
abbrev pub TextMade : HeapState → List ℕ → Result JoinTurn AllocError → HeapState → Type 0
TextMade old made (Ok result) new = Made old (object.Text made) (text_price made) result new
TextMade old made (Err error) new = Unit {0}

abbrev pub ListMade : HeapState → List Value → Result JoinTurn AllocError → HeapState → Type 0
ListMade old made (Ok result) new = Made old (object.List made) (filled_price made) result new
ListMade old made (Err error) new = Unit {0}

-- how many values that lie in others a method is in
abbrev pub inside_of : Join → ℕ
inside_of (Sum vs) = 0
inside_of (Text joining) = joining.walk.inside
inside_of (Flat flattening) = flattening.inside

-- ---- the turns

abbrev pub sum_started : HeapState → ℕ → Outcome
sum_started heap id = sum (sequence_at heap id)

abbrev pub flatten_started : HeapState → ℕ → Outcome
flatten_started heap id = flat.started heap id

module _ (names : List (List ℕ)) (classes : List Declared) (heap : HeapState) where
  abbrev pub join_started : ℕ → List ℕ → Outcome
  join_started id separator = texts.all_said names classes heap separator (sequence_at heap id)

  abbrev pub resumed : Join → Value → Outcome
  resumed (Sum vs) answer = added answer vs
  resumed (Text joining) answer = texts.resumed names classes heap joining answer
  resumed (Flat flattening) answer = flat.resumed heap flattening
