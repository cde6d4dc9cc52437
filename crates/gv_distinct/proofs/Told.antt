-- Where no comparison asks, the elements are gone through at once.
use Rattle.std.proofs.Common.{◌≡◌, ℕ, ◌+◌, Bool, true, false, not, List, [], ◌∷◌, ◌++◌, All, if◌then◌else◌, refl, sym, ap, ◌∙◌}
use Rattle.std.proofs.lemmas.List.{append_assoc, append-nil}
use Rattle.std.proofs.lemmas.List.Elements.{All-nil, All-head, All-tail, All-push}
use Rattle.std.specs.List.{list_any}
use Rattle.gv_base.specs.declared.value.Value.{Value}
use Rattle.gv_classes.specs.declared.declared.Declared.{Declared}
use Rattle.gv_equals.specs.declared.walk.EqualTurn.TheVariants.{Is}
use Rattle.gv_heap.specs.Heap.{HeapState}
use Rattle.gv_rows.specs.Values.{sequence_at}
use Rattle.gv_distinct.specs.Distinct.{others_in, judged, selected, against_all, until_asked}
use Rattle.gv_distinct.specs.Laws.{without, first_ones, MinusFilters, UniqueKeepsFirst, Tells}
use Rattle.gv_distinct.specs.declared.distinct.Dropping.{Dropping}
use Rattle.gv_distinct.specs.declared.distinct.Dropping.TheVariants.{Others, Repeated}
use Rattle.gv_distinct.specs.declared.distinct.Progress.{Progress}
use Rattle.gv_distinct.specs.declared.distinct.Progress.TheVariants.{Ended}
use Rattle.gv_distinct.specs.declared.distinct.Verdict.{Verdict}
use Rattle.gv_distinct.specs.declared.distinct.Verdict.TheVariants.{Drops, Keeps}

-- equal to one of these or to none
abbrev verdict : Bool → Verdict
verdict true = Drops
verdict false = Keeps

judged_told : (test : Value → Bool) (w : Value) (ws : List Value) (b : Bool) (count : ℕ) (rest : Verdict) → test w ≡ b → rest ≡ verdict (list_any test ws) → judged (Is b) count rest ≡ verdict (list_any test (w ∷ ws))
judged_told test w ws true count rest e h = rw e refl
judged_told test w ws false count rest e h = rw e h

module _ (names : List (List ℕ)) (classes : List Declared) (heap : HeapState) (known : Value → Bool) (same : Value → Value → Bool) (tells : Tells names classes heap known same) where
  abbrev Knows : Value → Type 0
  Knows v = known v ≡ true

  minus_against : (others : List Value) (v : Value) (ws : List Value) (count : ℕ) → known v ≡ true → All Knows ws → against_all names classes heap (Others others) v ws count ≡ verdict (list_any (λ w. same v w) ws)
  minus_against others v [] count h g = refl
  minus_against others v (w ∷ ws) count h g =
      ap (λ turn. judged turn (count + 1) (against_all names classes heap (Others others) v ws (count + 1))) (tells v w h (All-head Knows w ws g))
      ∙ judged_told (λ w. same v w) w ws (same v w) (count + 1) (against_all names classes heap (Others others) v ws (count + 1)) refl (minus_against others v ws (count + 1) h (All-tail Knows w ws g))

  unique_against : (id : ℕ) (v : Value) (ws : List Value) (count : ℕ) → known v ≡ true → All Knows ws → against_all names classes heap (Repeated id) v ws count ≡ verdict (list_any (λ w. same w v) ws)
  unique_against id v [] count h g = refl
  unique_against id v (w ∷ ws) count h g =
      ap (λ turn. judged turn (count + 1) (against_all names classes heap (Repeated id) v ws (count + 1))) (tells w v (All-head Knows w ws g) h)
      ∙ judged_told (λ w. same w v) w ws (same w v) (count + 1) (against_all names classes heap (Repeated id) v ws (count + 1)) refl (unique_against id v ws (count + 1) h (All-tail Knows w ws g))

  minus_next : (b : Bool) (dropping : Dropping) (v : Value) (vs kept more : List Value) (go : List Value → Progress) → ((held : List Value) → go held ≡ Ended dropping (held ++ more))
      → (all : List Value) → all ≡ (if not b then v ∷ more else more) → selected (verdict b) v vs dropping kept go ≡ Ended dropping (kept ++ all)
  minus_next true dropping v vs kept more go h all e = h kept ∙ ap (λ rest. Ended dropping (kept ++ rest)) (sym e)
  minus_next false dropping v vs kept more go h all e = h (kept ++ v ∷ []) ∙ ap (Ended dropping) (append_assoc kept (v ∷ []) more) ∙ ap (λ rest. Ended dropping (kept ++ rest)) (sym e)

  minus_from : (others : List Value) (vs kept : List Value) → All Knows others → All Knows vs → until_asked names classes heap (Others others) vs kept ≡ Ended (Others others) (kept ++ without same others vs)
  minus_from others [] kept h g = ap (Ended (Others others)) (sym (append-nil kept))
  minus_from others (v ∷ vs) kept h g =
      ap (λ told. selected told v vs (Others others) kept (until_asked names classes heap (Others others) vs)) (minus_against others v others 0 (All-head Knows v vs g) h)
      ∙ minus_next (list_any (λ w. same v w) others) (Others others) v vs kept (without same others vs) (until_asked names classes heap (Others others) vs) (λ held. minus_from others vs held h (All-tail Knows v vs g)) (without same others (v ∷ vs)) refl

  unique_next : (b : Bool) (dropping : Dropping) (v : Value) (vs kept dropped taken : List Value) (go : List Value → Progress) → go kept ≡ Ended dropping (kept ++ dropped) → go (kept ++ v ∷ []) ≡ Ended dropping ((kept ++ v ∷ []) ++ taken)
      → selected (verdict b) v vs dropping kept go ≡ Ended dropping (kept ++ (if b then dropped else v ∷ taken))
  unique_next true dropping v vs kept dropped taken go h g = h
  unique_next false dropping v vs kept dropped taken go h g = g ∙ ap (Ended dropping) (append_assoc kept (v ∷ []) taken)

  unique_from : (id : ℕ) (vs kept : List Value) → All Knows kept → All Knows vs → until_asked names classes heap (Repeated id) vs kept ≡ Ended (Repeated id) (kept ++ first_ones same kept vs)
  unique_from id [] kept h g = ap (Ended (Repeated id)) (sym (append-nil kept))
  unique_from id (v ∷ vs) kept h g =
      let known_v = All-head Knows v vs g in
      let rest = All-tail Knows v vs g in
      ap (λ told. selected told v vs (Repeated id) kept (until_asked names classes heap (Repeated id) vs)) (unique_against id v kept 0 known_v h)
      ∙ unique_next (list_any (λ w. same w v) kept) (Repeated id) v vs kept (first_ones same kept vs) (first_ones same (kept ++ v ∷ []) vs) (until_asked names classes heap (Repeated id) vs)
      (unique_from id vs kept h rest) (unique_from id vs (kept ++ v ∷ []) (All-push Knows kept v h known_v) rest)

pub minus_filters : (names : List (List ℕ)) (classes : List Declared) (heap : HeapState) (known : Value → Bool) (same : Value → Value → Bool) (id : ℕ) (removed : Value) → MinusFilters names classes heap known same id removed
minus_filters names classes heap known same id removed tells elements others = minus_from names classes heap known same tells (others_in heap removed) (sequence_at heap id) [] others elements

pub unique_keeps_first : (names : List (List ℕ)) (classes : List Declared) (heap : HeapState) (known : Value → Bool) (same : Value → Value → Bool) (id : ℕ) → UniqueKeepsFirst names classes heap known same id
unique_keeps_first names classes heap known same id tells elements = unique_from names classes heap known same tells id (sequence_at heap id) [] (All-nil (λ v. known v ≡ true)) elements
