-- The groups of elements by keys, in the order in which the keys came.
use Rattle.std.specs.Prelude.{List, [], ◌∷◌, ◌++◌, Option, Some, None}
use Rattle.std.specs.Map.{lookup}
use Rattle.indexmap.specs.IndexMap.{insert_entry}
use Rattle.gv_base.specs.declared.value.Value.{Value}
use Rattle.gv_heap.specs.Keys.{same_key}
use Rattle.gv_heap.specs.declared.key.MapKey.{MapKey}
use Rattle.gv_gathered.specs.declared.groups.Members.{Members}

-- a group with one more element, which is its first one where there was no group
abbrev pub grown : Option Members → Value → Value → Members
grown None shown element = record { shown = shown; elements = element ∷ [] }
grown (Some members) shown element = record members { elements = members.elements ++ element ∷ [] }

-- with an element of a key: at the end of its key's group, or in a new group behind the others
abbrev pub with_member : List (MapKey × Members) → MapKey → Value → Value → List (MapKey × Members)
with_member groups key shown element = insert_entry same_key groups key (grown (lookup (same_key key) groups) shown element)
