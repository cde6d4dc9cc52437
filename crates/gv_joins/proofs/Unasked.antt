-- What the methods come to where nothing is asked.
use Rattle.std.proofs.Common.{◌≡◌, ℕ, List, [], ◌∷◌, ◌++◌, None, All, refl, ap, sym, ◌∙◌}
use Rattle.std.proofs.lemmas.List.{append_assoc, append-nil}
use Rattle.std.proofs.lemmas.List.Elements.{All-head, All-tail}
use Rattle.gv_base.specs.declared.value.Value.{Value}
use Rattle.gv_classes.specs.declared.declared.Declared.{Declared}
use Rattle.gv_heap.specs.Heap.{HeapState}
use Rattle.gv_texts.specs.Texts as texts
use Rattle.gv_texts.specs.declared.walk.TextTurn.TheVariants as text
use Rattle.gv_joins.specs.Flat as flat
use Rattle.gv_joins.specs.Laws.{NoneInner, Say, each_behind, separated}
use Rattle.gv_joins.specs.Texts.{all_said, said_by, until_asked}
use Rattle.gv_joins.specs.declared.join.Outcome.{Outcome}
use Rattle.gv_joins.specs.declared.join.Outcome.TheVariants.{MakesList, MakesText}
use mathlib.Core.List.{reverse_aux}

module _ (names : List (List ℕ)) (classes : List Declared) (heap : HeapState) (separator : List ℕ) where
  -- the texts behind what was said
  more_said : (vs : List Value) (ts : List (List ℕ)) (said : List ℕ) → Say names classes heap vs ts
      → until_asked names classes heap separator vs said ≡ MakesText (said ++ each_behind separator ts)
  more_said [] [] said h = ap MakesText (sym (append-nil said))
  more_said (v ∷ vs) (t ∷ ts) said h =
      ap (λ turn. said_by separator vs (until_asked names classes heap separator vs) turn (said ++ separator)) h.0
      ∙ more_said vs ts ((said ++ separator) ++ t) h.1
      ∙ ap MakesText (append_assoc (said ++ separator) t (each_behind separator ts) ∙ append_assoc said separator (t ++ each_behind separator ts))
  more_said [] (t ∷ ts) said h = absurd h
  more_said (v ∷ vs) [] said h = absurd h

  pub texts_said : (vs : List Value) (ts : List (List ℕ)) → Say names classes heap vs ts
      → all_said names classes heap separator vs ≡ MakesText (separated separator ts)
  texts_said [] [] h = refl
  texts_said (v ∷ vs) (t ∷ ts) h =
      ap (λ turn. said_by separator vs (until_asked names classes heap separator vs) turn []) h.0
      ∙ more_said vs ts t h.1
  texts_said [] (t ∷ ts) h = absurd h
  texts_said (v ∷ vs) [] h = absurd h

module _ (heap : HeapState) where
  pub values_taken : (vs values : List Value) (inside : ℕ) → NoneInner heap vs
      → flat.until_asked heap (flat.opened vs []) values inside ≡ MakesList (reverse_aux vs values)
  values_taken [] values inside h = refl
  values_taken (v ∷ vs) values inside h =
      ap (λ o. flat.taken o v (flat.opened vs []) (flat.until_asked heap (flat.opened vs [])) values inside) (All-head (λ v. flat.inner_sequence heap v ≡ None) v vs h)
      ∙ values_taken vs (v ∷ values) inside (All-tail (λ v. flat.inner_sequence heap v ≡ None) v vs h)
