-- What a method that makes a map of answers does at each turn.
use Rattle.std.specs.Prelude.{◌≡◌, ℕ, ◌+◌, ◌≤◌, ◌<◌, Bool, true, false, List, [], ◌∷◌, ◌++◌, length, codes, Option, Some, None, Result, Ok, Err, if◌then◌else◌}
use Rattle.std.specs.declared.alloc.AllocError.{AllocError}
use Rattle.gv_base.specs.declared.exception.ExceptionKind.{ExceptionKind}
use Rattle.gv_base.specs.declared.exception.ExceptionKind.TheVariants.{IllegalArgumentException, UnsupportedOperationException}
use Rattle.gv_base.specs.declared.value.Value.{Value}
use Rattle.gv_base.specs.declared.value.Value.TheVariants.{Obj}
use Rattle.gv_classes.specs.declared.declared.Declared.{Declared}
use Rattle.gv_folds.specs.Sources.{next}
use Rattle.gv_folds.specs.declared.source.Args.{Args}
use Rattle.gv_folds.specs.declared.source.Args.TheVariants.{One}
use Rattle.gv_folds.specs.declared.source.Handed.TheVariants.{Element}
use Rattle.gv_folds.specs.declared.source.Handing.{Handing}
use Rattle.gv_folds.specs.declared.source.Handing.TheVariants.{NoMore, Hands, Makes}
use Rattle.gv_gathered.specs.Making.{with_all, group_objects, groups_price, map_price}
use Rattle.gv_gathered.specs.declared.groups.Members.{Members}
use Rattle.gv_heap.specs.Heap.{HeapState, object_at, map_at, pay, with_new}
use Rattle.gv_heap.specs.declared.entries.Slot.{Slot}
use Rattle.gv_heap.specs.declared.key.MapKey.{MapKey}
use Rattle.gv_heap.specs.declared.key.MapKey.TheVariants as key
use Rattle.gv_heap.specs.declared.object.Object.{Object}
use Rattle.gv_heap.specs.declared.object.Object.TheVariants as object
use Rattle.gv_rows.specs.Reply.{said}
use Rattle.gv_rows.specs.Values.{class_of, class_text, key_of}
use Rattle.gv_texts.specs.Texts as texts
use Rattle.gv_texts.specs.declared.question.Question.{Question}
use Rattle.gv_texts.specs.declared.walk.TextTurn.{TextTurn}
use Rattle.gv_texts.specs.declared.walk.TextTurn.TheVariants as text
use Rattle.gv_truths.specs.Truths as truths
use Rattle.gv_truths.specs.declared.truth.TruthTurn.{TruthTurn}
use Rattle.gv_truths.specs.declared.truth.TruthTurn.TheVariants as truth
use Rattle.gv_groups.specs.Gathering.{gathers, waits, element_of, judged, put_at, put_entries}
use Rattle.gv_groups.specs.declared.group.Gathering.{Gathering}
use Rattle.gv_groups.specs.declared.group.Gathering.TheVariants.{Groups, Entries, Found}
use Rattle.gv_groups.specs.declared.group.Group.{Group}
use Rattle.gv_groups.specs.declared.group.Pending.{Pending}
use Rattle.gv_groups.specs.declared.group.Pending.TheVariants as pending
use Rattle.gv_groups.specs.declared.keys.Answered.{Answered}
use Rattle.gv_groups.specs.declared.keys.Answered.TheVariants as answered
use Rattle.gv_groups.specs.declared.turn.GroupTurn.{GroupTurn}
use Rattle.gv_groups.specs.declared.turn.GroupTurn.TheVariants as turn

-- ---- what a turn comes to, and the heap that it leaves

-- the closure is called; a value is asked; an entry is made, with which it goes on; a new map of entries, or of groups, is answered;
-- or something is thrown
pub data Outcome : Type 0 where
  Calls : (group : Group) (args : Args) → Outcome
  Asks : (group : Group) (receiver : Value) (question : Question) → Outcome
  MakesEntry : (group : Group) (key : Value) (value : Value) → Outcome
  MakesMap : (entries : List (MapKey × Slot)) → Outcome
  MakesGroups : (groups : List (MapKey × Members)) → Outcome
  Throws : (kind : ExceptionKind) (message : Option (List ℕ)) → Outcome

-- objects are made for a price that is asked as a whole
abbrev pub Made : HeapState → HeapState → ℕ → HeapState → Type 0
Made old grown price new = (price ≤ old.cells) × (new ≡ pay grown price)

abbrev pub Spent : HeapState → ℕ → HeapState → Type 0
Spent old price new = (old.cells < price) × (new ≡ old)

-- what the code gives of it
abbrev pub Turned : HeapState → Outcome → GroupTurn → HeapState → Type 0
Turned old (Calls group args) (turn.Calls g a) new = (g ≡ group) × (a ≡ args) × (new ≡ old)
Turned old (Asks group receiver question) (turn.Asks g r q) new = (g ≡ group) × (r ≡ receiver) × (q ≡ question) × (new ≡ old)
Turned old (MakesEntry group key value) (turn.Calls g a) new =
    (g ≡ record group { handed = Element (Obj (length old.objects)) }) × (a ≡ One (Obj (length old.objects))) × Made old (with_new old (object.Entry key value)) 1 new
Turned old (MakesEntry group key value) turn.CellsSpent new = Spent old 1 new
Turned old (MakesMap entries) (turn.Done v) new = (v ≡ Obj (length old.objects)) × Made old (with_new old (object.Map entries)) (map_price entries) new
Turned old (MakesMap entries) turn.CellsSpent new = Spent old (map_price entries) new
Turned old (MakesGroups groups) (turn.Done v) new = (v ≡ Obj (length old.objects + length groups)) × Made old (with_all old (group_objects (length old.objects) groups)) (groups_price groups) new
Turned old (MakesGroups groups) turn.CellsSpent new = Spent old (groups_price groups) new
Turned old (Throws kind message) (turn.Thrown k m) new = (k ≡ kind) × (m ≡ message) × (new ≡ old)
Turned old outcome result new = ⊥

abbrev pub Turns : HeapState → Outcome → Result GroupTurn AllocError → HeapState → Type 0
Turns old outcome (Ok result) new = Turned old outcome result new
Turns old outcome (Err error) new = Unit {0}

-- ---- the end

abbrev pub ended : Gathering → Outcome
ended (Groups groups) = MakesGroups groups
ended (Entries entries) = MakesMap entries
ended (Found kept entries) = MakesMap kept

-- ---- the next turn

abbrev pub handing : Group → Handing → Outcome
handing group NoMore = ended group.gathering
handing group (Hands handed args source) = Calls (record group { source = source; handed = handed; pending = pending.Answer }) args
handing group (Makes key value source) = MakesEntry (record group { source = source; pending = pending.Answer }) key value

abbrev pub going : Group → Outcome
going group = handing group (next group.source)

-- ---- behind the truth of an answer

abbrev pub judged_group : Group → Bool → Group
judged_group group holds = gathers group (judged group.gathering holds)

abbrev pub judging : Group → TruthTurn → Outcome
judging group (truth.Is holds) = going (judged_group group holds)
judging group (truth.Asks walk receiver question) = Asks (waits group (pending.Truth walk)) receiver question

-- ---- behind a key

-- a string with parts is a key by its text, and shown as itself
abbrev pub is_gstring : Option Object → Bool
is_gstring (Some (object.GString parts)) = true
is_gstring other = false

abbrev pub has_parts : HeapState → Value → Bool
has_parts heap (Obj id) = is_gstring (object_at heap id)
has_parts heap v = false

abbrev pub texted : Group → Value → Value → TextTurn → Outcome
texted group shown value (text.Text t) = going (put_at group (key.GText t) shown value)
texted group shown value (text.Asks walk receiver question) = Asks (waits group (pending.Key walk shown value)) receiver question

-- ---- entries that are answered

-- a map, a list of two, or something else
abbrev pub answered_list : List Value → Answered
answered_list (k ∷ v ∷ []) = answered.Pair k v
answered_list elements = answered.Other

abbrev pub answered_object : ℕ → Option Object → Answered
answered_object id (Some (object.Map entries)) = answered.Map id
answered_object id (Some (object.List elements)) = answered_list elements
answered_object id other = answered.Other

abbrev pub answered_entry : HeapState → Value → Answered
answered_entry heap (Obj id) = answered_object id (object_at heap id)
answered_entry heap v = answered.Other

abbrev pub no_entry : Option (List ℕ)
no_entry = Some (codes "Not an entry")

-- the entries of a map are gathered as they are then, each with its key as it was put
abbrev pub joined : HeapState → Group → ℕ → Group
joined heap group id = gathers group (put_entries group.gathering (map_at heap id))

abbrev pub joining : HeapState → Group → ℕ → Outcome
joining heap group id = going (joined heap group id)

module _ (names : List (List ℕ)) (classes : List Declared) where
  abbrev pub no_key : HeapState → Value → Option (List ℕ)
  no_key heap v = said (codes "Map key of class ") (class_text names classes (class_of heap v))

  abbrev pub keyed : HeapState → Group → Value → Value → Option MapKey → Outcome
  keyed heap group shown value None = Throws UnsupportedOperationException (no_key heap shown)
  keyed heap group shown value (Some k) = going (put_at group k shown value)

  abbrev pub plain_key : HeapState → Group → Value → Value → Outcome
  plain_key heap group shown value = keyed heap group shown value (key_of names classes heap shown)

  abbrev pub keying : HeapState → Group → Value → Value → Outcome
  keying heap group shown value = if has_parts heap shown then texted group shown value (texts.started names classes heap shown) else plain_key heap group shown value

  abbrev pub collected : HeapState → Group → Answered → Outcome
  collected heap group (answered.Map id) = joining heap group id
  collected heap group (answered.Pair k v) = keying heap group k v
  collected heap group answered.Other = Throws IllegalArgumentException no_entry

  abbrev pub collecting : HeapState → Group → Value → Outcome
  collecting heap group answer = collected heap group (answered_entry heap answer)

  -- ---- behind an answer

  abbrev pub answered_by : Gathering → HeapState → Group → Value → Outcome
  answered_by (Groups groups) heap group answer = keying heap group answer (element_of group.handed)
  answered_by (Entries entries) heap group answer = collecting heap group answer
  answered_by (Found kept entries) heap group answer = judging group (truths.started names classes heap answer)

  abbrev pub resumed_by : Pending → HeapState → Group → Value → Outcome
  resumed_by pending.Answer heap group answer = answered_by group.gathering heap group answer
  resumed_by (pending.Key walk shown value) heap group answer = texted group shown value (texts.resumed names classes heap walk answer)
  resumed_by (pending.Truth walk) heap group answer = judging group (truths.resumed names classes heap walk answer)

  abbrev pub resumed : HeapState → Group → Value → Outcome
  resumed heap group answer = resumed_by group.pending heap group answer
