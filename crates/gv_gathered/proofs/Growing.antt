-- A group with one more element.
use Rattle.std.proofs.Common.{◌≡◌, List, [], ◌∷◌, ◌++◌, Some, ap, sym, ◌∙◌}
use Rattle.std.specs.Map.{lookup, set_value}
use Rattle.indexmap.specs.IndexMap.{insert_entry}
use Rattle.gv_base.specs.declared.value.Value.{Value}
use Rattle.gv_heap.specs.Keys.{same_key}
use Rattle.gv_heap.specs.declared.key.MapKey.{MapKey}
use Rattle.gv_gathered.specs.Groups.{grown, with_member}
use Rattle.gv_gathered.specs.declared.groups.Members.{Members}
use Rattle.gv_gathered.proofs.Entries.{insert_known}

pub add_known : (groups new : List (MapKey × Members)) (key : MapKey) (shown element : Value) (members : Members) (elements : List Value)
    → lookup (same_key key) groups ≡ Some members → elements ≡ members.elements ++ element ∷ []
    → new ≡ set_value (same_key key) groups (record { shown = members.shown; elements = elements }) → new ≡ with_member groups key shown element
add_known groups new key shown element members elements found more n =
    n ∙ ap (λ es. set_value (same_key key) groups (record { shown = members.shown; elements = es })) more
    ∙ sym (insert_known key (record { shown = members.shown; elements = members.elements ++ element ∷ [] }) groups members found)
    ∙ ap (λ o. insert_entry same_key groups key (grown o shown element)) (sym found)
