-- What is hashed of a value that is entered.
use Rattle.std.specs.Prelude.{pos, List, [], ◌∷◌, Option, Some}
use Rattle.gv_base.specs.declared.value.Value.{Value}
use Rattle.gv_heap.specs.declared.entries.Slot.{Slot}
use Rattle.gv_heap.specs.declared.key.MapKey.{MapKey}
use Rattle.gv_heap.specs.declared.object.Object.{Object}
use Rattle.gv_heap.specs.declared.object.Object.TheVariants as object
use Rattle.gv_rows.specs.Values.{elements_of}
use Rattle.gv_hashes.specs.declared.todo.Todo.{Todo}
use Rattle.gv_hashes.specs.declared.todo.Todo.TheVariants.{Inner, Start, Element, Entry}

-- the elements, from 1 on
abbrev pub elements : List Value → List Todo → List Todo
elements [] rest = rest
elements (v ∷ vs) rest = Inner v ∷ Element ∷ elements vs rest

abbrev pub sequence : List Value → List Todo → List Todo
sequence vs rest = Start (pos 1) ∷ elements vs rest

-- the entries, each with its key as it was put, from 0 on
abbrev pub entries : List (MapKey × Slot) → List Todo → List Todo
entries [] rest = rest
entries (e ∷ es) rest = Inner e.1.shown ∷ Inner e.1.value ∷ Entry ∷ entries es rest

abbrev pub map : List (MapKey × Slot) → List Todo → List Todo
map es rest = Start (pos 0) ∷ entries es rest

abbrev pub opened : Option Object → List Todo → List Todo
opened (Some (object.List vs)) rest = sequence vs rest
opened (Some (object.Range range)) rest = sequence (elements_of range) rest
opened (Some (object.Map es)) rest = map es rest
opened other rest = rest
