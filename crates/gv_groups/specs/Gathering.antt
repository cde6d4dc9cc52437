-- What the answers add to what is gathered.
use Rattle.std.specs.Prelude.{ℕ, Bool, true, false, List, [], ◌∷◌, if◌then◌else◌}
use Rattle.gv_base.specs.declared.value.Value.{Value}
use Rattle.gv_base.specs.declared.value.Value.TheVariants.{Null}
use Rattle.gv_folds.specs.declared.source.Handed.{Handed}
use Rattle.gv_folds.specs.declared.source.Handed.TheVariants.{Element}
use Rattle.gv_gathered.specs.Groups.{with_member}
use Rattle.gv_heap.specs.Entries.{with_entry}
use Rattle.gv_heap.specs.declared.entries.Slot.{Slot}
use Rattle.gv_heap.specs.declared.key.MapKey.{MapKey}
use Rattle.gv_truths.specs.Truths.{walk_inside}
use Rattle.gv_groups.specs.declared.group.Gathering.{Gathering}
use Rattle.gv_groups.specs.declared.group.Gathering.TheVariants.{Groups, Entries, Found}
use Rattle.gv_groups.specs.declared.group.Group.{Group}
use Rattle.gv_groups.specs.declared.group.Pending.{Pending}
use Rattle.gv_groups.specs.declared.group.Pending.TheVariants.{Answer, Key, Truth}

-- how many values around the one that is asked are entered
abbrev pub inside : Pending → ℕ
inside Answer = 0
inside (Key walk shown value) = walk.inside
inside (Truth walk) = walk_inside walk

abbrev pub gathers : Group → Gathering → Group
gathers group gathering = record group { gathering = gathering }

abbrev pub waits : Group → Pending → Group
waits group pending = record group { pending = pending }

-- the element that the last turn was about
abbrev pub element_of : Handed → Value
element_of (Element v) = v
element_of handed = Null

-- with a value at a key: in the key's group, or as its entry
abbrev pub with_value : Gathering → MapKey → Value → Value → Gathering
with_value (Groups groups) key shown value = Groups (with_member groups key shown value)
with_value (Entries entries) key shown value = Entries (with_entry entries key shown value)
with_value (Found kept entries) key shown value = Found kept entries

abbrev pub put_at : Group → MapKey → Value → Value → Group
put_at group key shown value = gathers group (with_value group.gathering key shown value)

-- with other entries, one after another
abbrev pub with_entries : List (MapKey × Slot) → List (MapKey × Slot) → List (MapKey × Slot)
with_entries entries [] = entries
with_entries entries (e ∷ others) = with_entries (with_entry entries e.0 e.1.shown e.1.value) others

abbrev pub put_entries : Gathering → List (MapKey × Slot) → Gathering
put_entries (Entries entries) others = Entries (with_entries entries others)
put_entries gathering others = gathering

-- the entry that was asked about is kept where its answer is true, with its key as it stands in the map
abbrev pub kept_where : List (MapKey × Slot) → MapKey × Slot → Bool → List (MapKey × Slot)
kept_where kept e true = with_entry kept e.0 e.1.shown e.1.value
kept_where kept e false = kept

abbrev pub found : List (MapKey × Slot) → List (MapKey × Slot) → Bool → Gathering
found kept [] holds = Found kept []
found kept (e ∷ entries) holds = Found (kept_where kept e holds) entries

abbrev pub judged : Gathering → Bool → Gathering
judged (Found kept entries) holds = found kept entries holds
judged gathering holds = gathering
