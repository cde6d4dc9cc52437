-- What is compared of two values that are entered.
use Rattle.std.specs.Prelude.{ℕ, List, [], ◌∷◌, Option, Some, None}
use Rattle.gv_base.specs.declared.value.Value.{Value}
use Rattle.gv_heap.specs.Entries.{value_at}
use Rattle.gv_heap.specs.declared.entries.Slot.{Slot}
use Rattle.gv_heap.specs.declared.key.MapKey.{MapKey}
use Rattle.gv_heap.specs.declared.object.Object.{Object}
use Rattle.gv_heap.specs.declared.object.Object.TheVariants as object
use Rattle.gv_rows.specs.Values.{elements_in}
use Rattle.gv_equals.specs.declared.stage.Same.{Same}
use Rattle.gv_equals.specs.declared.stage.Same.TheVariants.{Pair, Alone, Leave}

-- elements at the same places
abbrev pub elements : List Value → List Value → List Same → List Same
elements (v ∷ vs) (w ∷ ws) rest = Pair v w ∷ elements vs ws rest
elements vs ws rest = rest

-- each entry of the left map, and the value at its key in the right one
abbrev pub entry : Slot → Option Value → Same
entry slot (Some w) = Pair slot.value w
entry slot None = Alone

abbrev pub entries : List (MapKey × Slot) → List (MapKey × Slot) → List Same → List Same
entries [] right rest = rest
entries (e ∷ es) right rest = entry e.1 (value_at right e.0) ∷ entries es right rest

abbrev pub opened : Option Object → Option Object → List Same → List Same
opened (Some (object.Map left)) (Some (object.Map right)) rest = entries left right rest
opened left right rest = elements (elements_in left) (elements_in right) rest
