-- What the definitions of specs/Texts.antt give for the bytes that are written.
use Rattle.std.proofs.Common.{◌≡◌, ℕ, ◌+◌, ◌<◌, true, false, List, ◌∷◌, ◌++◌, length, take, drop, refl, sym, ap, ◌∙◌, IsUtf8, arith, append_assoc, drop-drop}
use Rattle.std.specs.Prelude.{◌==◌}
use Rattle.std.specs.Char.{encode_utf8}
use Rattle.std.specs.Str.{chars, encode_utf8_all}
use Rattle.std.proofs.lemmas.Bool.{cond-false, ne_eqb}
use Rattle.std.proofs.lemmas.List.{nil_from_length, take_at, drop_at}
use Rattle.std.proofs.lemmas.Str.{chars-nil, chars_past_char, encodes-append, encodes-chars}
use Rattle.gv_search.specs.Search as search
use Rattle.gv_search.specs.Texts.{spread, replaced, without_first}
use Rattle.gv_search.specs.Cuts.{IsNowhere, IsFirstCut}
use Rattle.gv_search.proofs.Bytes.{filled_chars}
use Rattle.gv_search.proofs.Cutting.{replace_at, none_replaced}
use Rattle.gv_search.proofs.Found.{no_chars, cut_chars, first_found, first_none, first_empty}

regroup : (a b c d : List ℕ) → ((a ++ b) ++ c) ++ d ≡ a ++ (b ++ (c ++ d))
regroup a b c d = simp append_assoc

-- two pieces were written of what is left
pub wrote_two : (new new' new'' a b left next all : List ℕ) → new' ≡ new ++ a → new'' ≡ new' ++ b → left ≡ a ++ (b ++ next) → new ++ left ≡ all → new'' ++ next ≡ all
wrote_two new new' new'' a b left next all first second split so_far =
    ap (λ l. l ++ next) (second ∙ ap (λ l. l ++ b) first) ∙ regroup new a b next ∙ ap (λ l. new ++ l) (sym split) ∙ so_far

-- the last piece was written
pub wrote_last : (new new' a left all : List ℕ) → new' ≡ new ++ a → left ≡ a → new ++ left ≡ all → new' ≡ all
wrote_last new new' a left all last is so_far = last ∙ ap (λ l. new ++ l) (sym is) ∙ so_far

pub spread_one : (text next other : List ℕ) (c : ℕ) → IsUtf8 text → IsUtf8 other → text ≡ encode_utf8 c ++ next → spread text other ≡ other ++ (encode_utf8 c ++ spread next other)
spread_one text next other c text_utf8 with_utf8 e =
    ap (λ l. encode_utf8_all (search.spread l (chars other))) (chars_past_char text next c text_utf8 e)
    ∙ encodes-append (chars other) (c ∷ search.spread (chars next) (chars other))
    ∙ ap (λ l. l ++ (encode_utf8 c ++ spread next other)) (encodes-chars other with_utf8)

pub spread_end : (text other : List ℕ) → length text ≡ 0 → IsUtf8 other → spread text other ≡ other
spread_end text other empty with_utf8 =
    ap (λ l. encode_utf8_all (search.spread l (chars other))) (ap chars (nil_from_length text empty) ∙ chars-nil) ∙ encodes-chars other with_utf8

module _ (text part : List ℕ) (text' : IsUtf8 part) (filled : 0 < length part) where
  not_empty : (length (chars part) == 0) ≡ false
  not_empty = let some = filled_chars part text' filled in ne_eqb (length (chars part)) 0 (λ e. absurd (omega arith))

  replaced_filled : (bs other : List ℕ) → replaced bs part other ≡ encode_utf8_all (search.replaced_from 0 (chars bs) (chars part) (chars other))
  replaced_filled bs other = ap encode_utf8_all (cond-false _ _ _ not_empty)

  pub replaced_one : (before rest next other : List ℕ) → IsUtf8 other → IsFirstCut text part before rest → chars next ≡ drop (length (chars part)) (chars rest) → replaced text part other ≡ before ++ (other ++ replaced next part other)
  replaced_one before rest next other with_utf8 cut behind =
      let left = search.replaced_from 0 (drop (length (chars part)) (chars rest)) (chars part) (chars other) in
      replaced_filled text other
      ∙ ap (λ l. encode_utf8_all (search.replaced_from 0 l (chars part) (chars other))) (cut_chars text part text' filled before rest cut.0)
      ∙ ap encode_utf8_all (replace_at (chars before) (chars rest) (chars part) (chars other) (filled_chars part text' filled) cut.0.here cut.1)
      ∙ encodes-append (chars before) (chars other ++ left)
      ∙ ap (λ l. l ++ encode_utf8_all (chars other ++ left)) (encodes-chars before cut.0.front)
      ∙ ap (λ l. before ++ l) (encodes-append (chars other) left ∙ ap (λ l. l ++ encode_utf8_all left) (encodes-chars other with_utf8)
      ∙ ap (λ l. other ++ l) (ap (λ l. encode_utf8_all (search.replaced_from 0 l (chars part) (chars other))) (sym behind) ∙ sym (replaced_filled next other)))

  pub replaced_none : (other : List ℕ) → IsUtf8 text → IsNowhere text part → replaced text part other ≡ text
  replaced_none other text_utf8 none =
      replaced_filled text other ∙ ap encode_utf8_all (none_replaced (chars text) (chars part) (chars other) none) ∙ encodes-chars text text_utf8

  pub without_found : (before rest next : List ℕ) → IsUtf8 next → IsFirstCut text part before rest → chars next ≡ drop (length (chars part)) (chars rest) → without_first text part ≡ before ++ next
  without_found before rest next next_utf8 cut behind =
      let cs = chars before in
      let ds = chars rest in
      let joined = cut_chars text part text' filled before rest cut.0 in
      let place : length cs + length (chars part) ≡ length (chars part) + length cs = omega arith in
      let back : drop (length cs + length (chars part)) (cs ++ ds) ≡ drop (length (chars part)) ds =
      sym (drop-drop (length (chars part)) (length cs) (cs ++ ds)) ∙ ap (drop (length (chars part))) (drop_at cs ds (length cs) refl) in
      ap (λ o. encode_utf8_all (search.without (chars text) (length (chars part)) o)) (first_found text part text' filled before rest cut)
      ∙ ap (λ l. encode_utf8_all (take (length cs) l ++ drop (length cs + length (chars part)) l)) joined
      ∙ ap encode_utf8_all (ap (λ l. l ++ drop (length cs + length (chars part)) (cs ++ ds)) (take_at cs ds (length cs) refl) ∙ ap (λ l. cs ++ l) (back ∙ sym behind))
      ∙ encodes-append cs (chars next) ∙ ap (λ l. l ++ encode_utf8_all (chars next)) (encodes-chars before cut.0.front)
      ∙ ap (λ l. before ++ l) (encodes-chars next next_utf8)

  pub without_none : IsUtf8 text → IsNowhere text part → without_first text part ≡ text
  without_none text_utf8 none =
      ap (λ o. encode_utf8_all (search.without (chars text) (length (chars part)) o)) (first_none text part text' filled none) ∙ encodes-chars text text_utf8

module _ (text part : List ℕ) (empty : (length part == 0) ≡ true) where
  pub replaced_empty : (other : List ℕ) → replaced text part other ≡ spread text other
  replaced_empty other = ap (λ l. encode_utf8_all (search.replaced (chars text) l (chars other))) (no_chars text part empty)

  pub without_empty : IsUtf8 text → without_first text part ≡ text
  without_empty text_utf8 =
      ap (λ o. encode_utf8_all (search.without (chars text) (length (chars part)) o)) (first_empty text part empty)
      ∙ ap (λ l. encode_utf8_all (take 0 (chars text) ++ drop (0 + length l) (chars text))) (no_chars text part empty) ∙ encodes-chars text text_utf8
