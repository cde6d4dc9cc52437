-- What a value has in it to say.
use Rattle.std.specs.Prelude.{ℕ, suc, List, [], ◌∷◌, codes, Option, Some, None}
use Rattle.gv_base.specs.declared.value.Value.{Value}
use Rattle.gv_base.specs.declared.value.Value.TheVariants.{Obj}
use Rattle.gv_heap.specs.declared.entries.Slot.{Slot}
use Rattle.gv_heap.specs.declared.key.MapKey.{MapKey}
use Rattle.gv_heap.specs.declared.object.Object.{Object}
use Rattle.gv_heap.specs.declared.object.Object.TheVariants as object
use Rattle.gv_heap.specs.declared.object.Part.{Part}
use Rattle.gv_heap.specs.declared.object.Part.TheVariants as part
use Rattle.gv_rows.specs.Values.{elements_of}
use Rattle.gv_texts.specs.declared.todo.Mark.{Mark as Sign}
use Rattle.gv_texts.specs.declared.todo.Mark.TheVariants as mark
use Rattle.gv_texts.specs.declared.todo.Todo.{Todo}
use Rattle.gv_texts.specs.declared.todo.Todo.TheVariants.{Mark, Piece, Inner, Lazy, Leave}

abbrev pub mark_text : Sign → List ℕ
mark_text mark.Open = codes "["
mark_text mark.Close = codes "]"
mark_text mark.NoElements = codes "[]"
mark_text mark.NoEntries = codes "[:]"
mark_text mark.Comma = codes ", "
mark_text mark.Colon = codes ":"
mark_text mark.Equals = codes "="

-- Entries lie in entries that are made before them, so an object's number says how deep they can.
abbrev pub level_of : Value → ℕ
level_of (Obj id) = suc id
level_of v = 0

abbrev pub inner : Value → Todo
inner v = Inner (level_of v) v

-- a list's elements, each but the first behind a comma
abbrev pub more_elements : List Value → List Todo → List Todo
more_elements [] rest = Mark mark.Close ∷ rest
more_elements (v ∷ vs) rest = Mark mark.Comma ∷ inner v ∷ more_elements vs rest

abbrev pub elements : List Value → List Todo → List Todo
elements [] rest = Mark mark.NoElements ∷ rest
elements (v ∷ vs) rest = Mark mark.Open ∷ inner v ∷ more_elements vs rest

-- a map's entries, each by its key as it was put
abbrev pub entry : Slot → List Todo → List Todo
entry slot rest = inner slot.shown ∷ Mark mark.Colon ∷ inner slot.value ∷ rest

abbrev pub more_entries : List (MapKey × Slot) → List Todo → List Todo
more_entries [] rest = Mark mark.Close ∷ rest
more_entries (e ∷ es) rest = Mark mark.Comma ∷ entry e.1 (more_entries es rest)

abbrev pub entries : List (MapKey × Slot) → List Todo → List Todo
entries [] rest = Mark mark.NoEntries ∷ rest
entries (e ∷ es) rest = Mark mark.Open ∷ entry e.1 (more_entries es rest)

-- the parts of a string
abbrev pub part_todo : Part → Todo
part_todo (part.Piece text) = Piece text
part_todo (part.Value v) = inner v
part_todo (part.Lazy closure) = Lazy closure

abbrev pub parts : List Part → List Todo → List Todo
parts [] rest = rest
parts (p ∷ ps) rest = part_todo p ∷ parts ps rest

-- what is to say of an object that is entered
abbrev pub opened : Option Object → List Todo → List Todo
opened (Some (object.List vs)) rest = elements vs rest
opened (Some (object.Range range)) rest = elements (elements_of range) rest
opened (Some (object.Map es)) rest = entries es rest
opened (Some (object.GString ps)) rest = parts ps rest
opened other rest = rest
