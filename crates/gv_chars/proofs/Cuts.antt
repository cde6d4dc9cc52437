-- The pieces of a list between separators.
use Rattle.std.proofs.Common.{◌≡◌, ℕ, ◌<◌, ◌≤◌, ◌+◌, Bool, true, false, List, [], ◌∷◌, ◌++◌, length, map, cond, sym, ap, ◌∙◌, refl, arith, encode_utf8_all, IsUtf8, inl, inr, append-nil, append_assoc}
use Rattle.std.specs.List.{filter, slice_split, before_first, after_first, position_or_len}
use Rattle.std.proofs.lemmas.List.{drop_all, take_all, map-append}
use Rattle.std.proofs.lemmas.Bool.{cases_lt}
use Rattle.std.proofs.lemmas.List.Sums.{fails_before_first}
use Rattle.std.specs.Str.{chars}
use Rattle.std.proofs.lemmas.Str.{encodes-chars}
use Rattle.std.proofs.lemmas.List.Splits.{slice_split_first, slice_split_none}
use Rattle.gv_chars.specs.Chars.{is_filled, is_among, pieces}

-- the first piece, and those behind it
first_kept : (b : Bool) (xs : List ℕ) (others : List (List ℕ)) → cond b (xs ∷ others) others ≡ cond b (xs ∷ []) [] ++ others
first_kept true xs others = refl
first_kept false xs others = refl

cut_somewhere : (p : ℕ → Bool) (cs : List ℕ) → position_or_len p cs < length cs → filter is_filled (slice_split p cs) ≡ filter is_filled (before_first p cs ∷ []) ++ filter is_filled (slice_split p (after_first p cs))
cut_somewhere p cs within = ap (filter is_filled) (slice_split_first p cs 0 within) ∙ first_kept (is_filled (before_first p cs)) (before_first p cs) (filter is_filled (slice_split p (after_first p cs)))

cut_nowhere : (p : ℕ → Bool) (cs : List ℕ) → length cs ≤ position_or_len p cs → filter is_filled (slice_split p cs) ≡ filter is_filled (before_first p cs ∷ []) ++ filter is_filled (slice_split p (after_first p cs))
cut_nowhere p cs past =
    let whole : before_first p cs ≡ cs = take_all (position_or_len p cs) cs past in
    let nothing : after_first p cs ≡ [] = drop_all (position_or_len p cs + 1) cs (omega arith) in
    ap (filter is_filled) (slice_split_none p cs (λ k d within. fails_before_first p cs k d (omega arith)))
    ∙ (sym (append-nil (filter is_filled (cs ∷ [])))
    ∙ (ap (λ (xs : List ℕ). filter is_filled (xs ∷ []) ++ []) (sym whole) ∙ ap (λ (xs : List ℕ). filter is_filled (before_first p cs ∷ []) ++ filter is_filled (slice_split p xs)) (sym nothing)))

pub pieces_cut : (separators cs : List ℕ) → pieces separators cs ≡ filter is_filled (before_first (is_among separators) cs ∷ []) ++ pieces separators (after_first (is_among separators) cs)
pieces_cut separators cs = elim (cases_lt (position_or_len (is_among separators) cs) (length cs)) [
  | inl within ↦ cut_somewhere (is_among separators) cs within
  | inr past ↦ cut_nowhere (is_among separators) cs past
]

-- what was put behind, and what is left
pub piece_more : (new old begun : List (List ℕ)) (separators left piece after : List ℕ) → new ≡ old ++ map encode_utf8_all (filter is_filled (piece ∷ [])) → piece ≡ before_first (is_among separators) left → after ≡ after_first (is_among separators) left → old ++ map encode_utf8_all (pieces separators left) ≡ begun → new ++ map encode_utf8_all (pieces separators after) ≡ begun
piece_more new old begun separators left piece after e f g h =
    let kept = filter is_filled (piece ∷ []) in
    ap (λ (xs : List (List ℕ)). xs ++ map encode_utf8_all (pieces separators after)) e
    ∙ (append_assoc old (map encode_utf8_all kept) (map encode_utf8_all (pieces separators after))
    ∙ (ap (λ (xs : List (List ℕ)). old ++ xs) (sym (map-append encode_utf8_all kept (pieces separators after))
    ∙ ap (map encode_utf8_all) (ap (λ xs. filter is_filled (xs ∷ []) ++ pieces separators after) f ∙ (ap (λ xs. filter is_filled (before_first (is_among separators) left ∷ []) ++ pieces separators xs) g ∙ sym (pieces_cut separators left))))
    ∙ h))

-- a text put behind others
pub text_pushed : {X : Type 0} (bytes : X → List ℕ) (new old : List X) (x : X) (piece : List ℕ) → IsUtf8 piece → bytes x ≡ piece → new ≡ old ++ x ∷ [] → map bytes new ≡ map bytes old ++ encode_utf8_all (chars piece) ∷ []
text_pushed bytes new old x piece u e f =
    ap (map bytes) f ∙ (map-append bytes old (x ∷ []) ∙ ap (λ (y : List ℕ). map bytes old ++ y ∷ []) (e ∙ sym (encodes-chars piece u)))
