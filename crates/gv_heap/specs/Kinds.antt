-- The kinds of objects: what a call needs of the object that it is given, and what it finds there.
use Rattle.std.specs.Prelude.{ℕ, ◌<◌, List, [], Option, Some, length}
use Rattle.gv_base.specs.declared.value.Value.{Value}
use Rattle.gv_heap.specs.declared.entries.Slot.{Slot}
use Rattle.gv_heap.specs.declared.key.MapKey.{MapKey}
use Rattle.gv_heap.specs.declared.closure.Bound.{Bound}
use Rattle.gv_heap.specs.declared.closure.Bound.TheVariants.{Curried, CurriedLast, Composed, Method}
use Rattle.gv_heap.specs.declared.object.Object.{Object}
use Rattle.gv_heap.specs.declared.object.Object.TheVariants.{List as ListObject, Map as MapObject, Closure as ClosureObject, Instance as InstanceObject, Text as TextObject, GString as GStringObject}
use Rattle.gv_base.specs.declared.value.Value.TheVariants.{Obj}

-- the object is a list, a map, a closure, a String, a GString, an instance
abbrev pub IsListObject : Option Object → Type 0
IsListObject (Some (ListObject items)) = Unit {0}
IsListObject object = ⊥

abbrev pub IsMapObject : Option Object → Type 0
IsMapObject (Some (MapObject entries)) = Unit {0}
IsMapObject object = ⊥

abbrev pub IsClosureObject : Option Object → Type 0
IsClosureObject (Some (ClosureObject closure)) = Unit {0}
IsClosureObject object = ⊥

abbrev pub IsTextObject : Option Object → Type 0
IsTextObject (Some (TextObject text)) = Unit {0}
IsTextObject object = ⊥

abbrev pub IsGStringObject : Option Object → Type 0
IsGStringObject (Some (GStringObject parts)) = Unit {0}
IsGStringObject object = ⊥

abbrev pub IsInstanceObject : Option Object → Type 0
IsInstanceObject (Some (InstanceObject instance)) = Unit {0}
IsInstanceObject object = ⊥

-- it is a list or a map
abbrev pub IsCollection : Option Object → Type 0
IsCollection (Some (ListObject items)) = Unit {0}
IsCollection (Some (MapObject entries)) = Unit {0}
IsCollection object = ⊥

-- it is an instance with a field of this number
abbrev pub HasField : Option Object → ℕ → Type 0
HasField (Some (InstanceObject instance)) field = field < length instance.fields
HasField object field = ⊥

-- the elements of a list, and the entries of a map
abbrev pub elements_of : Option Object → List Value
elements_of (Some (ListObject items)) = items
elements_of object = []

abbrev pub entries_of : Option Object → List (MapKey × Slot)
entries_of (Some (MapObject entries)) = entries
entries_of object = []

-- what owns a closure that is made of others: the one that was curried, the one that runs first, or the value whose method it is
abbrev pub owner_of : Bound → Value
owner_of (Curried of at args) = Obj of
owner_of (CurriedLast of args) = Obj of
owner_of (Composed first second) = Obj first
owner_of (Method receiver name) = receiver
