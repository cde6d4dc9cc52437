-- The jumps of all classes, twice as far.
use Rattle.std.proofs.Common.{◌≡◌, ◌∙◌, refl, ap, sym, subst, ℕ, zero, suc, ◌+◌, ◌<◌, Bool, List, [], ◌∷◌, ◌++◌, append_assoc, get_or, Option, Some, None, length, drop, map, arith}
use Rattle.std.specs.Prelude.{◌==◌, slice_get, unwrap_or, slice_index_or}
use Rattle.std.specs.List.{All, range_with_len}
use Rattle.std.specs.Option.{option_map_or}
use Rattle.std.proofs.Math.Seq.{drop-cons}
use Rattle.std.proofs.lemmas.Option.{slice_get-get_or, slice_get_within, get_or_from_slice_get}
use Rattle.std.proofs.lemmas.List.Elements.{All-map}
use Rattle.std.proofs.lemmas.List.FromFn.{length-map-range_with_len, get_or-map-range_with_len, map-range_with_len_more}
use Rattle.std.proofs.lemmas.List.Quantifiers.{position-Some}
use Rattle.std.proofs.lemmas.Simd.{map-map}
use Rattle.gv_classes.specs.Classes.{named, up}
use Rattle.gv_classes.specs.declared.declared.Declared.{Declared}
use Rattle.gv_classes.specs.declared.ids.TheConstants.{OBJECT}
use Rattle.gv_base.specs.declared.refusal.Refusal.{Refusal}
use Rattle.gv_circles.specs.Circles.{far, lowest, doublings, begins_at, class_refused, classes_refused}
use Rattle.gv_circles.specs.Jumps.{jump, jumps, joined, twice, doubled}
use Rattle.gv_circles.specs.declared.jumps.Jump.{Jump}

-- the class of a number, and those behind it
drop-at : (classes : List Declared) (n : ℕ) (d : Declared) → slice_get classes n ≡ Some d → drop n classes ≡ d ∷ drop (suc n) classes
drop-at classes n d h = drop-cons classes n d (slice_get_within classes n d h) ∙ ap (λ k. k ∷ drop (suc n) classes) (get_or_from_slice_get classes n d d h)

-- one step from one class more
pub steps-next : (classes : List Declared) (n above : ℕ) (j : Jump) (before after : List Jump)
    → j.far ≡ above → j.lowest ≡ above → above ≡ up classes n
    → before ≡ map (jump 0 classes) (range_with_len 0 n)
    → after ≡ before ++ j ∷ []
    → after ≡ map (jump 0 classes) (range_with_len 0 (n + 1))
unfolding far lowest
steps-next classes n above j before after f l is before_is pushed =
    let same : j ≡ jump 0 classes n = λ i. record { far = (f ∙ is) i; lowest = (l ∙ is) i } in
    pushed
    ∙ ap (λ js. js ++ j ∷ []) before_is
    ∙ ap (λ k. map (jump 0 classes) (range_with_len 0 n) ++ k ∷ []) same
    ∙ sym (map-range_with_len_more (jump 0 classes) 0 n n (omega arith))

-- one jump more is made twice
pub doubled-next : (all before after : List Jump) (n : ℕ) (j none : Jump) → n < length all
    → All (λ k. k.far < length all) all
    → j ≡ joined (get_or all n none) (get_or all (get_or all n none).far none)
    → after ≡ before ++ j ∷ []
    → before ++ map (twice all) (drop n all) ≡ doubled all
    → after ++ map (twice all) (drop (suc n) all) ≡ doubled all
doubled-next all before after n j none lt within is pushed before_is =
    let k = get_or all n none in
    let same : j ≡ twice all k = is ∙ ap (λ o. joined k (unwrap_or o k)) (sym (slice_get-get_or all k.far none (within n none lt))) in
    ap (λ js. js ++ map (twice all) (drop (suc n) all)) pushed
    ∙ append_assoc before (j ∷ []) (map (twice all) (drop (suc n) all))
    ∙ ap (λ i. before ++ (i ∷ map (twice all) (drop (suc n) all))) same
    ∙ ap (λ left. before ++ map (twice all) left) (sym (drop-cons all n none lt))
    ∙ before_is

pub length-jumps : (classes : List Declared) (r : ℕ) → length (jumps r classes) ≡ length classes
length-jumps classes r = length-map-range_with_len (jump r classes) 0 (length classes)

module _ (classes : List Declared) (some : 0 < length classes) where
  -- going up stays among the classes
  up-within : (c : ℕ) → up classes c < length classes
  up-within c = by (slice_get classes c)
    where
      found : (d : Declared) (o : Option ℕ) → named classes d.above ≡ o → unwrap_or o OBJECT < length classes
      found d None e = some
      found d (Some n) e = (position-Some (λ k. k.name == d.above) classes n d e).0

      by : (o : Option Declared) → unwrap_or (option_map_or (λ d. named classes d.above) o None) OBJECT < length classes
      by None = some
      by (Some d) = found d (named classes d.above) refl

  far-within : (r c : ℕ) → far r classes c < length classes
  unfolding far
  far-within zero c = up-within c
  far-within (suc r) c = far-within r (far r classes c)

  jumps-at : (r c : ℕ) → c < length classes → slice_get (jumps r classes) c ≡ Some (jump r classes c)
  jumps-at r c h =
      let n = length-jumps classes r in
      slice_get-get_or (jumps r classes) c (jump r classes c) (omega arith)
      ∙ ap Some (get_or-map-range_with_len (jump r classes) 0 (length classes) c c (jump r classes c) h (omega arith))

  pub jumps-within : (r : ℕ) → All (λ j. j.far < length (jumps r classes)) (jumps r classes)
  jumps-within r =
      All-map (λ j. j.far < length (jumps r classes)) (jump r classes) (range_with_len 0 (length classes))
      (λ k d h. subst (λ (n : ℕ). far r classes (slice_index_or (range_with_len 0 (length classes)) k d) < n) (sym (length-jumps classes r)) (far-within r (slice_index_or (range_with_len 0 (length classes)) k d)))

  jump-suc : (r c : ℕ) → joined (jump r classes c) (jump r classes (far r classes c)) ≡ jump (suc r) classes c
  unfolding far lowest
  jump-suc r c = refl

  pub jumps-doubled : (r : ℕ) → doubled (jumps r classes) ≡ jumps (suc r) classes
  jumps-doubled r =
      map-map (twice (jumps r classes)) (jump r classes) (range_with_len 0 (length classes))
      ∙ ap (λ (f : ℕ → _). map f (range_with_len 0 (length classes))) (λ i c. one c i)
    where
      one : (c : ℕ) → twice (jumps r classes) (jump r classes c) ≡ jump (suc r) classes c
      one c = ap (λ o. joined (jump r classes c) (unwrap_or o (jump r classes c))) (jumps-at r (far r classes c) (far-within r c)) ∙ jump-suc r c

  -- the classes from the next one on decide as those from this one
  pub classes-next : (file n : ℕ) (d : Declared) (all : List Jump) (none : Jump) (begins : Bool) (before after last : Option Refusal) → n < length classes
      → slice_get classes n ≡ Some d
      → all ≡ jumps doublings classes
      → begins ≡ begins_at n (get_or all n none).lowest
      → after ≡ class_refused begins file d before
      → classes_refused classes file n (drop n classes) before ≡ last
      → classes_refused classes file (suc n) (drop (suc n) classes) after ≡ last
  classes-next file n d all none begins before after last lt here jumped begun refused before_is =
      let j = get_or_from_slice_get all n (jump doublings classes n) none (ap (λ js. slice_get js n) jumped ∙ jumps-at doublings n lt) in
      let b : begins ≡ begins_at n (lowest doublings classes n) = begun ∙ ap (λ (k : Jump). begins_at n k.lowest) j in
      ap (classes_refused classes file (suc n) (drop (suc n) classes)) (refused ∙ ap (λ b. class_refused b file d before) b)
      ∙ ap (λ left. classes_refused classes file n left before) (sym (drop-at classes n d here))
      ∙ before_is
