-- The groups with which methods begin.
use Rattle.std.specs.Prelude.{ℕ, Bool, []}
use Rattle.gv_base.specs.declared.value.Value.{Value}
use Rattle.gv_folds.specs.Rows.{shown_entries}
use Rattle.gv_folds.specs.declared.source.Handed.TheVariants.{Nothing}
use Rattle.gv_folds.specs.declared.source.Source.{Source}
use Rattle.gv_folds.specs.declared.source.Source.TheVariants as source
use Rattle.gv_heap.specs.Heap.{HeapState, map_at}
use Rattle.gv_rows.specs.Values.{sequence_at}
use Rattle.gv_groups.specs.declared.group.Gathering.{Gathering}
use Rattle.gv_groups.specs.declared.group.Gathering.TheVariants.{Groups, Entries, Found}
use Rattle.gv_groups.specs.declared.group.Group.{Group}
use Rattle.gv_groups.specs.declared.group.Pending.TheVariants.{Answer}

abbrev pub new_group : Value → Source → Gathering → Group
new_group closure source gathering = record { closure = closure; source = source; gathering = gathering; handed = Nothing; pending = Answer }

abbrev pub map_source : HeapState → ℕ → Bool → Source
map_source heap id takes_two = source.Entries takes_two (shown_entries (map_at heap id))

abbrev pub group_by : HeapState → ℕ → Value → Group
group_by heap id closure = new_group closure (source.Plain (sequence_at heap id)) (Groups [])

abbrev pub collect_entries : HeapState → ℕ → Value → Group
collect_entries heap id closure = new_group closure (source.Plain (sequence_at heap id)) (Entries [])

abbrev pub collect_map_entries : HeapState → ℕ → Bool → Value → Group
collect_map_entries heap id takes_two closure = new_group closure (map_source heap id takes_two) (Entries [])

abbrev pub find_all_entries : HeapState → ℕ → Bool → Value → Group
find_all_entries heap id takes_two closure = new_group closure (map_source heap id takes_two) (Found [] (map_at heap id))
