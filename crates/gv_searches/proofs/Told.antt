-- What a search comes to where no comparison asks.
use Rattle.std.proofs.Common.{◌≡◌, ℕ, suc, ◌+◌, Bool, true, false, ◌||◌, List, [], ◌∷◌, All, Option, Some, None, option_map, if◌then◌else◌, refl, ap, ◌∙◌, arith}
use Rattle.std.proofs.lemmas.List.Elements.{All-head, All-tail}
use Rattle.gv_base.specs.declared.value.Value.{Value}
use Rattle.gv_base.specs.declared.value.Value.TheVariants.{Bool as Truth}
use Rattle.gv_classes.specs.declared.declared.Declared.{Declared}
use Rattle.gv_heap.specs.Heap.{HeapState}
use Rattle.gv_rows.specs.Values.{integer_of}
use Rattle.gv_searches.specs.Laws.{Told, elements, any_equal, first_equal, count_equal, place_answer, taken_out, IsTold, Finds}
use Rattle.gv_searches.specs.Searches.{until_asked, followed, judged, told}
use Rattle.gv_searches.specs.declared.search.Outcome.{Outcome}
use Rattle.gv_searches.specs.declared.search.Outcome.TheVariants.{Answers}
use Rattle.gv_searches.specs.declared.search.Seeking.{Seeking}
use Rattle.gv_searches.specs.declared.search.Seeking.TheVariants.{Has, Place, Removes, Counts}

module _ (names : List (List ℕ)) (classes : List Declared) (heap : HeapState) (wanted : Value) where
  abbrev Known : List Told → Type 0
  Known ts = All (IsTold names classes heap wanted) ts

  first_told : (t : Told) (ts : List Told) → Known (t ∷ ts) → IsTold names classes heap wanted t
  first_told t ts k = All-head (IsTold names classes heap wanted) t ts k

  rest_told : (t : Told) (ts : List Told) → Known (t ∷ ts) → Known ts
  rest_told t ts k = All-tail (IsTold names classes heap wanted) t ts k

  abbrev from : ℕ → Seeking → List Told → Outcome
  from at seeking ts = until_asked names classes heap wanted (elements ts) at seeking

  -- an element that is known to be equal or not
  step : (at : ℕ) (seeking : Seeking) (t : Told) (ts : List Told) → Known (t ∷ ts) → from at seeking (t ∷ ts) ≡ followed (judged seeking at t.is_equal) (λ s. from (at + 1) s ts)
  step at seeking t ts k = ap (told wanted (elements ts) at seeking (until_asked names classes heap wanted (elements ts) (at + 1))) (first_told t ts k)

  contains_step : (at : ℕ) (ts : List Told) (b : Bool) → from (at + 1) Has ts ≡ Answers (Truth (any_equal ts)) → followed (judged Has at b) (λ s. from (at + 1) s ts) ≡ Answers (Truth (b || any_equal ts))
  contains_step at ts true rest = refl
  contains_step at ts false rest = rest

  contains_from : (at : ℕ) (ts : List Told) → Known ts → from at Has ts ≡ Answers (Truth (any_equal ts))
  contains_from at [] k = refl
  contains_from at (t ∷ ts) k = step at Has t ts k ∙ contains_step at ts t.is_equal (contains_from (at + 1) ts (rest_told t ts k))

  -- places that are counted from one on
  abbrev placed : ℕ → Option ℕ → Option ℕ
  placed at o = option_map (λ n. at + n) o

  placed_more : (at : ℕ) (o : Option ℕ) → placed (at + 1) o ≡ placed at (option_map suc o)
  placed_more at None = refl
  placed_more at (Some n) = ap Some (omega arith)

  placed_here : (at : ℕ) → Some at ≡ placed at (Some 0)
  placed_here at = ap Some (omega arith)

  placed_none : (o : Option ℕ) → placed 0 o ≡ o
  placed_none None = refl
  placed_none (Some n) = ap Some (omega arith)

  -- a search that a first equal one ends, by its place
  module _ (seeking : Seeking) (answer : Option ℕ → Outcome) (goes : (at : ℕ) (go : Seeking → Outcome) → followed (judged seeking at true) go ≡ answer (Some at)) (ends : (at : ℕ) → until_asked names classes heap wanted [] at seeking ≡ answer None) where
    place_step : (at : ℕ) (ts : List Told) (b : Bool) → from (at + 1) seeking ts ≡ answer (placed (at + 1) (first_equal ts)) → followed (judged seeking at b) (λ s. from (at + 1) s ts) ≡ answer (placed at (if b then Some 0 else option_map suc (first_equal ts)))
    place_step at ts true rest = goes at (λ s. from (at + 1) s ts) ∙ ap answer (placed_here at)
    place_step at ts false rest = rest ∙ ap answer (placed_more at (first_equal ts))

    place_from : (at : ℕ) (ts : List Told) → Known ts → from at seeking ts ≡ answer (placed at (first_equal ts))
    place_from at [] k = ends at
    place_from at (t ∷ ts) k = step at seeking t ts k ∙ place_step at ts t.is_equal (place_from (at + 1) ts (rest_told t ts k))

    place_all : (ts : List Told) → Known ts → from 0 seeking ts ≡ answer (first_equal ts)
    place_all ts k = place_from 0 ts k ∙ ap answer (placed_none (first_equal ts))

  count_step : (at n : ℕ) (ts : List Told) (b : Bool) → ((m : ℕ) → from (at + 1) (Counts m) ts ≡ Answers (integer_of (m + count_equal ts))) → followed (judged (Counts n) at b) (λ s. from (at + 1) s ts) ≡ Answers (integer_of (n + (if b then suc (count_equal ts) else count_equal ts)))
  count_step at n ts true rest =
      let sum : n + 1 + count_equal ts ≡ n + suc (count_equal ts) = omega arith in
      rest (n + 1) ∙ ap (λ m. Answers (integer_of m)) sum
  count_step at n ts false rest = rest n

  count_from : (at n : ℕ) (ts : List Told) → Known ts → from at (Counts n) ts ≡ Answers (integer_of (n + count_equal ts))
  count_from at n [] k = ap (λ m. Answers (integer_of m)) (omega arith)
  count_from at n (t ∷ ts) k = step at (Counts n) t ts k ∙ count_step at n ts t.is_equal (λ m. count_from (at + 1) m ts (rest_told t ts k))

  pub finds : (ts : List Told) → Known ts → Finds names classes heap wanted ts
  finds ts k = record {
    contains = contains_from 0 ts k;
    index_of = place_all Place (λ o. Answers (place_answer o)) (λ at go. refl) (λ at. refl) ts k;
    count = count_from 0 0 ts k ∙ ap (λ m. Answers (integer_of m)) (omega arith);
    remove = λ id. place_all (Removes id) (taken_out id) (λ at go. refl) (λ at. refl) ts k;
  }
