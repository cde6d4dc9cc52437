-- Elements, with those of inner lists and ranges in their places.
use Rattle.std.specs.Prelude.{ℕ, suc, ◌-◌, List, [], ◌∷◌, Option, Some, None}
use Rattle.gv_base.specs.declared.value.Value.{Value}
use Rattle.gv_base.specs.declared.value.Value.TheVariants.{Obj}
use Rattle.gv_heap.specs.Heap.{HeapState, object_at}
use Rattle.gv_heap.specs.declared.object.Object.{Object}
use Rattle.gv_heap.specs.declared.object.Object.TheVariants as object
use Rattle.gv_rows.specs.Values.{sequence_at}
use Rattle.gv_texts.specs.declared.question.Question.TheVariants.{Enter}
use Rattle.gv_joins.specs.declared.join.Flattening.{Flattening}
use Rattle.gv_joins.specs.declared.join.Join.TheVariants as join
use Rattle.gv_joins.specs.declared.join.Outcome.{Outcome}
use Rattle.gv_joins.specs.declared.join.Outcome.TheVariants.{Asks, MakesList}
use Rattle.gv_joins.specs.declared.join.Todo.{Todo}
use Rattle.gv_joins.specs.declared.join.Todo.TheVariants.{Inner, Leave}

-- the number of a list or a range; all else are elements themselves
abbrev pub object_sequence : ℕ → Option Object → Option ℕ
object_sequence id (Some (object.List elements)) = Some id
object_sequence id (Some (object.Range range)) = Some id
object_sequence id other = None

abbrev pub inner_sequence : HeapState → Value → Option ℕ
inner_sequence heap (Obj id) = object_sequence id (object_at heap id)
inner_sequence heap v = None

-- the elements of what is entered, before what is still to do
abbrev pub opened : List Value → List Todo → List Todo
opened [] rest = rest
opened (v ∷ vs) rest = Inner v ∷ opened vs rest

-- an inner list or range is asked whether it may be entered
abbrev pub entering : ℕ → List Todo → List Value → ℕ → Outcome
entering id todo values inside = Asks (join.Flat (record { id = id; todo = todo; values = values; inside = suc inside })) (Obj id) Enter

-- a value is an element behind those so far, or its elements stand in its place
abbrev pub taken : Option ℕ → Value → List Todo → (List Value → ℕ → Outcome) → List Value → ℕ → Outcome
taken None v rest go values inside = go (v ∷ values) inside
taken (Some id) v rest go values inside = entering id rest values inside

module _ (heap : HeapState) where
  abbrev pub until_asked : List Todo → List Value → ℕ → Outcome
  until_asked [] values inside = MakesList values
  until_asked (Inner v ∷ rest) values inside = taken (inner_sequence heap v) v rest (until_asked rest) values inside
  until_asked (Leave ∷ rest) values inside = until_asked rest values (inside - 1)

  -- the receiver itself is entered without a question
  abbrev pub started : ℕ → Outcome
  started id = until_asked (opened (sequence_at heap id) []) [] 0

  abbrev pub resumed : Flattening → Outcome
  resumed flat = until_asked (opened (sequence_at heap flat.id) (Leave ∷ flat.todo)) flat.values flat.inside
