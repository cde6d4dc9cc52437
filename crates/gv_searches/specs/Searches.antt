-- What a search comes to.
use Rattle.std.specs.Prelude.{◌≡◌, ℕ, ◌+◌, ◌-◌, ◌^◌, min, negsuc, Bool, true, false, nat_lt, List, [], ◌∷◌, map, length, remove, Result, Ok, Err, if◌then◌else◌}
use Rattle.std.specs.declared.alloc.AllocError.{AllocError}
use Rattle.gv_base.specs.declared.value.Value.{Value}
use Rattle.gv_base.specs.declared.value.Value.TheVariants.{Bool as Truth, Int}
use Rattle.gv_classes.specs.declared.declared.Declared.{Declared}
use Rattle.gv_equals.specs.Equals as equals
use Rattle.gv_equals.specs.declared.walk.EqualTurn.{EqualTurn}
use Rattle.gv_equals.specs.declared.walk.EqualTurn.TheVariants as equal
use Rattle.gv_heap.specs.Heap.{HeapState, list_at, map_at, with_list}
use Rattle.gv_heap.specs.declared.entries.Slot.{Slot}
use Rattle.gv_heap.specs.declared.key.MapKey.{MapKey}
use Rattle.gv_rows.specs.Values.{integer_of, sequence_at}
use Rattle.gv_searches.specs.declared.search.Judged.{Judged}
use Rattle.gv_searches.specs.declared.search.Judged.TheVariants.{Goes, Ends}
use Rattle.gv_searches.specs.declared.search.Outcome.{Outcome}
use Rattle.gv_searches.specs.declared.search.Outcome.TheVariants.{Asks, Answers, TakesOut}
use Rattle.gv_searches.specs.declared.search.Search.{Search}
use Rattle.gv_searches.specs.declared.search.Seeking.{Seeking}
use Rattle.gv_searches.specs.declared.search.Seeking.TheVariants.{Has, Place, Removes, Counts}
use Rattle.gv_searches.specs.declared.turn.SearchTurn.{SearchTurn}
use Rattle.gv_searches.specs.declared.turn.SearchTurn.TheVariants as turn

-- ---- what a turn comes to, and the heap that it leaves

-- what stands at a place of a list goes out, if anything does
abbrev pub without_at : HeapState → ℕ → ℕ → HeapState
without_at heap id at = if nat_lt at (length (list_at heap id)) then with_list heap id (remove (list_at heap id) at) else heap

-- a value is asked, and the search waits; the method answers; an element is taken out, and the method answers true
abbrev pub Turned : HeapState → Outcome → SearchTurn → HeapState → Type 0
Turned old (Asks search receiver question) (turn.Asks s r q) new = (s ≡ search) × (r ≡ receiver) × (q ≡ question) × (new ≡ old)
Turned old (Answers value) (turn.Done v) new = (v ≡ value) × (new ≡ old)
Turned old (TakesOut id at) (turn.Done v) new = (v ≡ Truth true) × (new ≡ without_at old id at)
Turned old outcome result new = ⊥

abbrev pub Turns : HeapState → Outcome → Result SearchTurn AllocError → HeapState → Type 0
Turns old outcome (Ok result) new = Turned old outcome result new
Turns old outcome (Err error) new = Unit {0}

-- how many values that lie in others a search is in, up to the greatest number
abbrev pub search_inside : Search → ℕ
search_inside search = min (search.walk.inside + equals.stage_inside search.walk.stage) (2 ^ 64 - 1)

-- ---- the end

-- none was equal, or all were counted
abbrev pub ended : Seeking → Outcome
ended Has = Answers (Truth false)
ended Place = Answers (Int (negsuc 0))
ended (Removes id) = Answers (Truth false)
ended (Counts n) = Answers (integer_of n)

-- ---- an element

-- an equal one at a place
abbrev pub found : Seeking → ℕ → Judged
found Has at = Ends (Answers (Truth true))
found Place at = Ends (Answers (integer_of at))
found (Removes id) at = Ends (TakesOut id at)
found (Counts n) at = Goes (Counts (n + 1))

abbrev pub judged : Seeking → ℕ → Bool → Judged
judged seeking at true = found seeking at
judged seeking at false = Goes seeking

-- it ends the search, or the others follow
abbrev pub followed : Judged → (Seeking → Outcome) → Outcome
followed (Ends outcome) go = outcome
followed (Goes seeking) go = go seeking

-- the turn of a comparison, with the elements behind it and what they come to
abbrev pub told : Value → List Value → ℕ → Seeking → (Seeking → Outcome) → EqualTurn → Outcome
told wanted vs at seeking go (equal.Is same) = followed (judged seeking at same) go
told wanted vs at seeking go (equal.Asks walk receiver question) = Asks (record { wanted = wanted; source = vs; at = at; seeking = seeking; walk = walk }) receiver question

module _ (names : List (List ℕ)) (classes : List Declared) (heap : HeapState) where
  -- ---- the elements from a place on, each compared with the wanted value, up to the next question

  abbrev pub until_asked : Value → List Value → ℕ → Seeking → Outcome
  until_asked wanted [] at seeking = ended seeking
  until_asked wanted (v ∷ vs) at seeking = told wanted vs at seeking (until_asked wanted vs (at + 1)) (equals.started names classes heap v wanted)

  -- ---- the turns

  -- the elements of a list or a range
  abbrev pub list_started : ℕ → Value → Seeking → Outcome
  list_started id wanted seeking = until_asked wanted (sequence_at heap id) 0 seeking

  abbrev pub resumed : Search → Value → Outcome
  resumed search answer = told search.wanted search.source search.at search.seeking (until_asked search.wanted search.source (search.at + 1)) (equals.resumed names classes heap search.walk answer)

-- ---- maps

abbrev pub values_of : List (MapKey × Slot) → List Value
values_of entries = map (λ e. e.1.value) entries

abbrev pub values_at : HeapState → ℕ → List Value
values_at heap id = values_of (map_at heap id)

-- `containsValue`
abbrev pub map_started : List (List ℕ) → List Declared → HeapState → ℕ → Value → Outcome
map_started names classes heap id wanted = until_asked names classes heap wanted (values_at heap id) 0 Has
