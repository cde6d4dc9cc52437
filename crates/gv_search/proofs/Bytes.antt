-- A part stands in the bytes of a text where it stands in the characters.
use Rattle.std.proofs.Common.{◌≡◌, ℕ, ◌+◌, ◌-◌, ◌<◌, ◌≤◌, Bool, true, false, List, [], ◌∷◌, ◌++◌, length, take, drop, slice_index, refl, sym, ap, subst, ◌∙◌, arith, le_refl, append_assoc, length-append, take-append-drop, IsUtf8, IsCharBoundary}
use Rattle.std.specs.Str.{chars, encode_utf8_all}
use Rattle.std.specs.Char.{encode_utf8}
use Rattle.std.proofs.lemmas.Bool.{false_from_ne_true}
use Rattle.std.proofs.lemmas.Bool.Decides.{Decides-eqb}
use Rattle.std.proofs.lemmas.List.{append-nil, get_or-append-add, get_or_append_left, length-take-le, take_at, drop_at}
use Rattle.std.proofs.lemmas.Slice.Eq.{starts_is, ends_is}
use Rattle.std.proofs.lemmas.Str.{cons_from_encodes, encodes-append, encodes-chars, length-encode, len_utf8_bounds, length-le-encodes, IsCharBoundary-start, IsCharBoundary-from_take, IsCharBoundary-at_seam, IsUtf8-take, IsUtf8-drop, chars-append, chars_past_char}
use Rattle.memchr.specs.Find.{OccursAt, Nowhere}
use Rattle.memchr.proofs.lemmas.MatchLemmas.{OccursAt-split}
use Rattle.std.specs.Bool.{MatchBool}
use Rattle.std.specs.Prelude.{None}
use Rattle.std.specs.Str.Pattern.{HasPrefixMatch, HasSuffixMatch, FindsTextPrefix, FindsTextSuffix}
use Rattle.std.proofs.lemmas.Str.Pattern.{starts_text, ends_text}
use Rattle.gv_search.specs.Search.{starts, ends}
use Rattle.gv_search.specs.Cuts.{Lacks, IsNowhere, IsCut, IsFirstCut, IsLastCut}

-- what the tests say
pub starts_split : (xs part : List ℕ) → starts xs part ≡ true → xs ≡ part ++ drop (length part) xs
starts_split xs part h = (starts_is Decides-eqb xs part (starts xs part) refl).0 h

pub starts_joined : (xs part rest : List ℕ) → xs ≡ part ++ rest → starts xs part ≡ true
starts_joined xs part rest e = (starts_is Decides-eqb xs part (starts xs part) refl).1 rest e

-- characters whose bytes begin with those of a part begin with the part
front_from_encodes : (part cs rest : List ℕ) → encode_utf8_all cs ≡ encode_utf8_all part ++ rest → (es : List ℕ) × (cs ≡ part ++ es)
front_from_encodes [] cs rest e = (cs, refl)
front_from_encodes (p ∷ part) cs rest e =
    let first = cons_from_encodes cs (encode_utf8_all part ++ rest) p (e ∙ append_assoc (encode_utf8 p) (encode_utf8_all part) rest) in
    let more = front_from_encodes part first.0 rest first.2 in
    (more.0, first.1 ∙ ap (λ l. p ∷ l) more.1)

pub starts_from_bytes : (bs part rest : List ℕ) → IsUtf8 bs → IsUtf8 part → bs ≡ part ++ rest → starts (chars bs) (chars part) ≡ true
starts_from_bytes bs part rest text text' e =
    let found = front_from_encodes (chars part) (chars bs) rest (encodes-chars bs text ∙ e ∙ ap (λ l. l ++ rest) (sym (encodes-chars part text'))) in
    starts_joined (chars bs) (chars part) found.0 found.1

pub bytes_from_starts : (bs part : List ℕ) → IsUtf8 bs → IsUtf8 part → starts (chars bs) (chars part) ≡ true → bs ≡ part ++ encode_utf8_all (drop (length (chars part)) (chars bs))
bytes_from_starts bs part text text' h =
    let rest = drop (length (chars part)) (chars bs) in
    sym (encodes-chars bs text) ∙ ap encode_utf8_all (starts_split (chars bs) (chars part) h) ∙ encodes-append (chars part) rest
    ∙ ap (λ l. l ++ encode_utf8_all rest) (encodes-chars part text')

-- bytes that a needle begins
OccursAt-seam : (bs front rest needle more : List ℕ) → bs ≡ front ++ rest → rest ≡ needle ++ more → OccursAt bs needle (length front)
OccursAt-seam bs front rest needle more e f = record {
  fits = omega (arith, ap length e, length-append front rest, ap length f, length-append needle more);
  reads = λ j l.
      ap (λ xs. slice_index xs (length front + j)) e ∙ get_or-append-add front rest j 0 ∙ ap (λ xs. slice_index xs j) f
      ∙ get_or_append_left needle more 0 j l;
}

filled-encode : (c : ℕ) → 0 < length (encode_utf8 c)
filled-encode c = omega (arith, length-encode c, len_utf8_bounds c)

-- no occurrence in the bytes of `cs` is none in the characters
Lacks_from_bytes : (cs rest part front bs : List ℕ) → bs ≡ front ++ (encode_utf8_all cs ++ encode_utf8_all rest) →
    ((k : ℕ) → length front ≤ k → k < length front + length (encode_utf8_all cs) → ¬ OccursAt bs (encode_utf8_all part) k) → Lacks part cs rest
Lacks_from_bytes [] rest part front bs e h = tt
Lacks_from_bytes (c ∷ cs) rest part front bs e h =
    let more = encode_utf8_all cs ++ encode_utf8_all rest in
    let long = length-append (encode_utf8 c) (encode_utf8_all cs) in
    let one = filled-encode c in
    let step : bs ≡ front ++ (encode_utf8 c ++ more) = e ∙ ap (λ l. front ++ l) (append_assoc (encode_utf8 c) (encode_utf8_all cs) (encode_utf8_all rest)) in
    let spelt : encode_utf8 c ++ more ≡ encode_utf8_all (c ∷ (cs ++ rest)) = ap (λ l. encode_utf8 c ++ l) (sym (encodes-append cs rest)) in (
      false_from_ne_true _ (λ yes.
          h (length front) (le_refl (length front)) (omega arith)
          (OccursAt-seam bs front (encode_utf8 c ++ more) (encode_utf8_all part) (encode_utf8_all (drop (length part) (c ∷ (cs ++ rest)))) step
          (spelt ∙ ap encode_utf8_all (starts_split (c ∷ (cs ++ rest)) part yes) ∙ encodes-append part (drop (length part) (c ∷ (cs ++ rest)))))),
      Lacks_from_bytes cs rest part (front ++ encode_utf8 c) bs (step ∙ sym (append_assoc front (encode_utf8 c) more))
          (λ k low high. h k (omega (arith, length-append front (encode_utf8 c))) (omega (arith, length-append front (encode_utf8 c)))),
    )

module _ (bs part : List ℕ) (text : IsUtf8 bs) (text' : IsUtf8 part) (filled : 0 < length part) where
  -- a text may be cut where a part stands
  pub IsCharBoundary-at_part : (at : ℕ) → OccursAt bs part at → IsCharBoundary bs at
  IsCharBoundary-at_part at h =
      let lead = (IsCharBoundary-start part text').1 filled in
      let place : at ≡ at + 0 = omega arith in
      let same : slice_index bs at ≡ slice_index part 0 = ap (slice_index bs) place ∙ h.reads 0 filled in
      let fits = h.fits in
      (omega arith, λ lt high. omega (arith, lead))

  cut_at : (at : ℕ) → OccursAt bs part at → IsCut bs part (take at bs) (drop at bs)
  cut_at at h =
      let cut = IsCharBoundary-at_part at h in
      let back = IsUtf8-drop bs at text cut in
      record {
        joined = sym (take-append-drop at bs);
        front = IsUtf8-take bs at text cut;
        back = back;
        here = starts_from_bytes (drop at bs) part (drop (at + length part) bs) back text' (OccursAt-split bs part at h);
      }

  pub first_cut : (at : ℕ) → Nowhere (OccursAt bs part) 0 at → OccursAt bs part at → IsFirstCut bs part (take at bs) (drop at bs)
  first_cut at none h =
      let cut = cut_at at h in
      let fits = h.fits in
      let before = encodes-chars (take at bs) cut.front in
      let long : length (encode_utf8_all (chars (take at bs))) ≡ at = ap length before ∙ length-take-le at bs (omega arith) in (
        cut,
        Lacks_from_bytes (chars (take at bs)) (chars (drop at bs)) (chars part) [] bs
            (cut.joined ∙ ap (λ l. l ++ drop at bs) (sym before) ∙ ap (λ l. encode_utf8_all (chars (take at bs)) ++ l) (sym (encodes-chars (drop at bs) cut.back)))
            (λ k low high. subst (λ l. ¬ OccursAt bs l k) (sym (encodes-chars part text')) (none k (omega arith) (omega arith))),
      )

  pub no_cut : Nowhere (OccursAt bs part) 0 (length bs + 1) → IsNowhere bs part
  no_cut none =
      Lacks_from_bytes (chars bs) [] (chars part) [] bs (sym (encodes-chars bs text) ∙ sym (append-nil (encode_utf8_all (chars bs))))
      (λ k low high. subst (λ l. ¬ OccursAt bs l k) (sym (encodes-chars part text')) (none k (omega arith) (omega (arith, ap length (encodes-chars bs text)))))

  behind : (cs : List ℕ) (at : ℕ) → take at bs ++ encode_utf8_all cs ≡ bs → length (take at bs) ≡ at → Nowhere (OccursAt bs part) (at + 1) (length bs + 1) → Lacks (chars part) (drop 1 cs) []
  behind [] at e long none = tt
  behind (c ∷ cs) at e long none =
      let front = take at bs ++ encode_utf8 c in
      let joined : bs ≡ front ++ encode_utf8_all cs = sym e ∙ sym (append_assoc (take at bs) (encode_utf8 c) (encode_utf8_all cs)) in
      Lacks_from_bytes cs [] (chars part) front bs (joined ∙ ap (λ l. front ++ l) (sym (append-nil (encode_utf8_all cs))))
      (λ k low high. subst (λ l. ¬ OccursAt bs l k) (sym (encodes-chars part text')) (none k (omega (arith, filled-encode c, length-append (take at bs) (encode_utf8 c)))
      (omega (arith, ap length joined, length-append front (encode_utf8_all cs)))))

  pub last_cut : (at : ℕ) → Nowhere (OccursAt bs part) (at + 1) (length bs + 1) → OccursAt bs part at → IsLastCut bs part (take at bs) (drop at bs)
  last_cut at none h =
      let cut = cut_at at h in
      let fits = h.fits in
      (cut, behind (chars (drop at bs)) at (ap (λ l. take at bs ++ l) (encodes-chars (drop at bs) cut.back) ∙ sym cut.joined) (length-take-le at bs (omega arith)) none)

same_tests : (a b : Bool) → (a ≡ true → b ≡ true) → (b ≡ true → a ≡ true) → a ≡ b
same_tests true b f g = sym (f refl)
same_tests false true f g = g refl
same_tests false false f g = refl

pub starts-bytes : (bs part : List ℕ) → IsUtf8 bs → IsUtf8 part → starts bs part ≡ starts (chars bs) (chars part)
starts-bytes bs part text text' =
    same_tests _ _
    (λ yes. starts_from_bytes bs part (drop (length part) bs) text text' (starts_split bs part yes))
    (λ yes. starts_joined bs part _ (bytes_from_starts bs part text text' yes))

ends_from_bytes : (bs part front : List ℕ) → IsUtf8 bs → IsUtf8 part → bs ≡ front ++ part → ends (chars bs) (chars part) ≡ true
ends_from_bytes bs part front text text' e =
    let cut = IsUtf8-take bs (length front) text (IsCharBoundary-at_seam bs front part e text') in
    let front' = subst IsUtf8 (ap (take (length front)) e ∙ take_at front part (length front) refl) cut in
    (ends_is Decides-eqb (chars bs) (chars part) (ends (chars bs) (chars part)) refl).1 (chars front) (ap chars e ∙ chars-append front part front')

bytes_from_ends : (bs part : List ℕ) → IsUtf8 bs → IsUtf8 part → ends (chars bs) (chars part) ≡ true → ends bs part ≡ true
bytes_from_ends bs part text text' h =
    let front = take (length (chars bs) - length (chars part)) (chars bs) in
    let joined = (ends_is Decides-eqb (chars bs) (chars part) (ends (chars bs) (chars part)) refl).0 h in
    (ends_is Decides-eqb bs part (ends bs part) refl).1 (encode_utf8_all front)
    (sym (encodes-chars bs text) ∙ ap encode_utf8_all joined ∙ encodes-append front (chars part) ∙ ap (λ l. encode_utf8_all front ++ l) (encodes-chars part text'))

pub ends-bytes : (bs part : List ℕ) → IsUtf8 bs → IsUtf8 part → ends bs part ≡ ends (chars bs) (chars part)
ends-bytes bs part text text' =
    same_tests _ _
    (λ yes. ends_from_bytes bs part (take (length bs - length part) bs) text text' ((ends_is Decides-eqb bs part (ends bs part) refl).0 yes))
    (bytes_from_ends bs part text text')

pub behind_char : (bs rest : List ℕ) (c : ℕ) → IsUtf8 bs → bs ≡ encode_utf8 c ++ rest → chars rest ≡ drop 1 (chars bs)
behind_char bs rest c text e = sym (ap (drop 1) (chars_past_char bs rest c text e))

-- what comes behind a part that begins a text
pub behind_part : (bs part : List ℕ) → IsUtf8 bs → IsUtf8 part → starts (chars bs) (chars part) ≡ true → IsCharBoundary bs (length part) × (chars (drop (length part) bs) ≡ drop (length (chars part)) (chars bs))
behind_part bs part text text' h =
    let rest = encode_utf8_all (drop (length (chars part)) (chars bs)) in
    let joined = bytes_from_starts bs part text text' h in
    let front : take (length part) bs ≡ part = ap (take (length part)) joined ∙ take_at part rest (length part) refl in
    let back : drop (length part) bs ≡ rest = ap (drop (length part)) joined ∙ drop_at part rest (length part) refl in
    let split : chars bs ≡ chars part ++ chars (drop (length part) bs) = ap chars (sym (take-append-drop (length part) bs) ∙ ap (λ l. l ++ drop (length part) bs) front) ∙ chars-append part (drop (length part) bs) text' in (
      IsCharBoundary-from_take bs (length part) text (omega (arith, ap length joined, length-append part rest)) (subst IsUtf8 (sym front) text'),
      sym (ap (drop (length (chars part))) split ∙ drop_at (chars part) (chars (drop (length part) bs)) (length (chars part)) refl),
    )

filled_list : (cs : List ℕ) → 0 < length (encode_utf8_all cs) → 0 < length cs
filled_list [] h = h
filled_list (c ∷ cs) h = omega arith

-- a part that isn't empty has a character
pub filled_chars : (part : List ℕ) → IsUtf8 part → 0 < length part → 0 < length (chars part)
filled_chars part text filled = filled_list (chars part) (subst (λ bs. 0 < length bs) (sym (encodes-chars part text)) filled)

pub length-chars-le : (bs : List ℕ) → IsUtf8 bs → length (chars bs) ≤ length bs
length-chars-le bs text = omega (arith, length-le-encodes (chars bs), ap length (encodes-chars bs text))

-- what the searches of std at both ends answer
pub starts_found : (r : Bool) (bs part : List ℕ) → IsUtf8 bs → IsUtf8 part → MatchBool r (HasPrefixMatch (FindsTextPrefix part) bs) (FindsTextPrefix part bs None) → r ≡ starts (chars bs) (chars part)
starts_found r bs part text text' found = starts_text r part bs found ∙ starts-bytes bs part text text'

pub ends_found : (r : Bool) (bs part : List ℕ) → IsUtf8 bs → IsUtf8 part → MatchBool r (HasSuffixMatch (FindsTextSuffix part) bs) (FindsTextSuffix part bs None) → r ≡ ends (chars bs) (chars part)
ends_found r bs part text text' found = ends_text r part bs found ∙ ends-bytes bs part text text'
