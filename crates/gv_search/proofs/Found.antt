-- What the definitions of specs/Texts.antt give for a text that was cut.
use Rattle.std.proofs.Common.{◌≡◌, ℕ, suc, ◌+◌, ◌-◌, ◌<◌, ◌≤◌, List, [], ◌++◌, length, drop, Some, None, slice_get, sym, ap, ◌∙◌, IsUtf8, arith, true, length-append}
use Rattle.std.specs.Prelude.{Option, MatchOption, is_some, ◌==◌}
use Rattle.std.proofs.lemmas.Bool.{eqb-true}
use Rattle.std.specs.Str.{chars, encode_utf8_all}
use Rattle.std.proofs.lemmas.Str.{chars-nil, chars-append}
use Rattle.std.proofs.lemmas.List.{nil_from_length}
use Rattle.gv_search.specs.Search.{places}
use Rattle.gv_search.specs.Texts.{contains, first_place, last_place, count_places}
use Rattle.gv_search.specs.Cuts.{IsNowhere, IsCut, IsFirstCut, IsLastCut}
use Rattle.gv_search.proofs.Bytes.{filled_chars, bytes_from_starts, length-chars-le}
use Rattle.gv_search.proofs.Cutting.{first_at, last_at, count_at, none_places, length-places-le, empty_first, empty_last, empty_count}

module _ (text part : List ℕ) (text' : IsUtf8 part) (filled : 0 < length part) where
  pub cut_chars : (before rest : List ℕ) → IsCut text part before rest → chars text ≡ chars before ++ chars rest
  cut_chars before rest cut = ap chars cut.joined ∙ chars-append before rest cut.front

  pub first_found : (before rest : List ℕ) → IsFirstCut text part before rest → first_place text part ≡ Some (length (chars before))
  first_found before rest cut =
      ap (λ l. slice_get (places l (chars part)) 0) (cut_chars before rest cut.0)
      ∙ first_at (chars before) (chars rest) (chars part) (filled_chars part text' filled) cut.0.here cut.1

  pub last_found : (before rest : List ℕ) → IsLastCut text part before rest → last_place text part ≡ Some (length (chars before))
  last_found before rest cut =
      ap (λ l. slice_get (places l (chars part)) (length (places l (chars part)) - 1)) (cut_chars before rest cut.0)
      ∙ last_at (chars before) (chars rest) (chars part) (filled_chars part text' filled) cut.0.here cut.1

  nowhere : IsNowhere text part → places (chars text) (chars part) ≡ []
  nowhere none = none_places (chars text) (chars part) 0 (filled_chars part text' filled) none

  pub first_none : IsNowhere text part → first_place text part ≡ None
  first_none none = ap (λ l. slice_get l 0) (nowhere none)

  pub last_none : IsNowhere text part → last_place text part ≡ None
  last_none none = ap (λ l. slice_get l (length l - 1)) (nowhere none)

  pub count_found : (before rest : List ℕ) → IsFirstCut text part before rest → count_places text part ≡ suc (length (places (drop 1 (chars rest)) (chars part)))
  count_found before rest cut =
      ap (λ l. length (places l (chars part))) (cut_chars before rest cut.0)
      ∙ count_at (chars before) (chars rest) (chars part) (filled_chars part text' filled) cut.0.here cut.1

  pub count_none : IsNowhere text part → count_places text part ≡ 0
  count_none none = ap length (nowhere none)

  -- where a search found nothing, or a cut
  pub contains_found : {X : Type 0} (r : Option X) (before rest : X → List ℕ) → MatchOption r (IsNowhere text part) (λ x. IsFirstCut text part (before x) (rest x)) → is_some r ≡ contains text part
  contains_found None before rest none = sym (ap is_some (first_none none))
  contains_found (Some x) before rest cut = sym (ap is_some (first_found (before x) (rest x) cut))

  pub contains_rest : (before rest : List ℕ) → IsCut text part before rest → 0 < length rest
  contains_rest before rest cut =
      let joined = bytes_from_starts rest part cut.back text' cut.here in
      omega (arith, ap length joined, length-append part (encode_utf8_all (drop (length (chars part)) (chars rest))))

  -- the loops
  pub count_step : (before rest next : List ℕ) (count all : ℕ) → IsFirstCut text part before rest → chars next ≡ drop 1 (chars rest) → count + count_places text part ≡ all → (count + 1) + count_places next part ≡ all
  count_step before rest next count all cut step so_far =
      let one = count_found before rest cut in
      let left : count_places next part ≡ length (places (drop 1 (chars rest)) (chars part)) = ap (λ l. length (places l (chars part))) step in
      omega arith

  pub count_end : (count all : ℕ) → IsNowhere text part → count + count_places text part ≡ all → count ≡ all
  count_end count all none so_far = omega (arith, count_none none)

  pub count_fits : (before rest : List ℕ) → IsFirstCut text part before rest → 0 < count_places text part
  count_fits before rest cut = omega (arith, count_found before rest cut)

  pub count_places-le : IsUtf8 text → count_places text part ≤ length text
  count_places-le text_utf8 =
      omega (arith, length-places-le (chars text) (chars part) 0 (filled_chars part text' filled), length-chars-le text text_utf8)

  pub shorter : (before rest next : List ℕ) → IsCut text part before rest → (0 < length rest → length next < length rest) → length next < length text
  shorter before rest next cut less =
      omega (arith, ap length cut.joined, length-append before rest, less (contains_rest before rest cut))

-- the empty part
module _ (text part : List ℕ) (empty : (length part == 0) ≡ true) where
  pub no_chars : chars part ≡ []
  no_chars = ap chars (nil_from_length part (eqb-true (length part) 0 empty)) ∙ chars-nil

  pub first_empty : first_place text part ≡ Some 0
  first_empty = ap (λ l. slice_get (places (chars text) l) 0) no_chars ∙ empty_first (chars text)

  pub last_empty : last_place text part ≡ Some (length (chars text))
  last_empty = ap (λ l. slice_get (places (chars text) l) (length (places (chars text) l) - 1)) no_chars ∙ empty_last (chars text)

  pub count_empty : count_places text part ≡ length (chars text) + 1
  count_empty = ap (λ l. length (places (chars text) l)) no_chars ∙ empty_count (chars text)

  pub contains_empty : contains text part ≡ true
  contains_empty = ap is_some first_empty
