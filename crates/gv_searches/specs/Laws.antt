-- What the methods answer where no comparison asks.
use Rattle.std.specs.Prelude.{◌≡◌, ℕ, suc, negsuc, Bool, false, ◌||◌, List, [], ◌∷◌, map, Option, Some, None, option_map, if◌then◌else◌}
use Rattle.gv_base.specs.declared.value.Value.{Value}
use Rattle.gv_base.specs.declared.value.Value.TheVariants.{Bool as Truth, Int}
use Rattle.gv_classes.specs.declared.declared.Declared.{Declared}
use Rattle.gv_equals.specs.Equals as equals
use Rattle.gv_equals.specs.declared.walk.EqualTurn.TheVariants.{Is}
use Rattle.gv_heap.specs.Heap.{HeapState}
use Rattle.gv_rows.specs.Values.{integer_of}
use Rattle.gv_searches.specs.Searches.{until_asked}
use Rattle.gv_searches.specs.declared.search.Outcome.{Outcome}
use Rattle.gv_searches.specs.declared.search.Outcome.TheVariants.{Answers, TakesOut}
use Rattle.gv_searches.specs.declared.search.Seeking.{Seeking}
use Rattle.gv_searches.specs.declared.search.Seeking.TheVariants.{Has, Place, Removes, Counts}

-- an element, and whether it equals the wanted value
pub record Told : Type 0 where
  pub element : Value
  pub is_equal : Bool

abbrev pub elements : List Told → List Value
elements ts = map (λ t. t.element) ts

-- whether one is equal
abbrev pub any_equal : List Told → Bool
any_equal [] = false
any_equal (t ∷ ts) = t.is_equal || any_equal ts

-- the place of the first equal one
abbrev pub first_equal : List Told → Option ℕ
first_equal [] = None
first_equal (t ∷ ts) = if t.is_equal then Some 0 else option_map suc (first_equal ts)

-- how many are equal
abbrev pub count_equal : List Told → ℕ
count_equal [] = 0
count_equal (t ∷ ts) = if t.is_equal then suc (count_equal ts) else count_equal ts

-- a place as it is answered
abbrev pub place_answer : Option ℕ → Value
place_answer (Some at) = integer_of at
place_answer None = Int (negsuc 0)

-- an element at a place is taken out of a list, if there is one
abbrev pub taken_out : ℕ → Option ℕ → Outcome
taken_out id (Some at) = TakesOut id at
taken_out id None = Answers (Truth false)

module _ (names : List (List ℕ)) (classes : List Declared) (heap : HeapState) (wanted : Value) where
  -- whether it is equal is known without a question
  abbrev pub IsTold : Told → Type 0
  IsTold t = equals.started names classes heap t.element wanted ≡ Is t.is_equal

  -- what a search for the wanted value comes to
  abbrev pub comes_to : Seeking → List Told → Outcome
  comes_to seeking ts = until_asked names classes heap wanted (elements ts) 0 seeking

  pub record Finds (ts : List Told) : Type 0 where
    pub contains : comes_to Has ts ≡ Answers (Truth (any_equal ts))
    pub index_of : comes_to Place ts ≡ Answers (place_answer (first_equal ts))
    pub count : comes_to (Counts 0) ts ≡ Answers (integer_of (count_equal ts))
    pub remove : (id : ℕ) → comes_to (Removes id) ts ≡ taken_out id (first_equal ts)
