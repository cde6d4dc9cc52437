-- The words of a path.
use Rattle.std.proofs.Common.{◌≡◌, ℕ, ◌<◌, suc, Bool, true, false, List, [], ◌∷◌, length, take, drop, cond, arith, refl, ap, sym, ◌∙◌}
use Rattle.std.specs.Prelude.{◌==◌}
use Rattle.std.proofs.lemmas.List.{nil_from_length}
use Rattle.gv_base.specs.declared.refusal.Place.{Place}
use Rattle.gv_spelling.specs.Table.{Text}
use Rattle.gv_spelling.specs.declared.kinds.Symbol.TheVariants as symbol
use Rattle.gv_lex.specs.Lexing.{words_of, with_first, path_tokens, path_word, spelled}
use Rattle.gv_lex.specs.Places.{past, next_column}
use Rattle.gv_lex.specs.Steps.{word_len}
use Rattle.gv_lex.specs.Tokens as what

-- the words of what stands behind the first word
abbrev words_behind : Text → List Text
words_behind [] = []
words_behind (c ∷ s) = words_of s

words-first : (s : Text) → words_of s ≡ take (word_len s) s ∷ words_behind (drop (word_len s) s)
words-first [] = refl
words-first (c ∷ s) = by (c == 46) (words-first s)
  where
    by : (b : Bool) → words_of s ≡ take (word_len s) s ∷ words_behind (drop (word_len s) s)
        → cond b ([] ∷ words_of s) (with_first c (words_of s)) ≡ take (cond b 0 (suc (word_len s))) (c ∷ s) ∷ words_behind (drop (cond b 0 (suc (word_len s))) (c ∷ s))
    by true h = refl
    by false h = rw h refl

path-dot : (place : Place) (w s : Text) → path_tokens place (w ∷ words_of s) ≡ path_word place w ∷ spelled (past place w) (what.symbol symbol.Dot) ∷ path_tokens (next_column (past place w)) (words_of s)
path-dot place w s = rw (words-first s) refl

words-behind : (b : Text) → 0 < length b → words_behind b ≡ words_of (drop 1 b)
words-behind [] h = absurd (omega arith)
words-behind (c ∷ s) h = refl

-- a path, of which w is the first word and b what stands behind it
module _ (place : Place) (s w b : Text) (n : ℕ) (n_is : n ≡ word_len s) (w_is : w ≡ take n s) (b_is : b ≡ drop n s) where
  first-word : words_of s ≡ w ∷ words_behind b
  first-word = words-first s ∙ ap (λ k. take k s ∷ words_behind (drop k s)) (sym n_is) ∙ rw (w_is, b_is) refl

  pub path-one : length b ≡ 0 → path_tokens place (words_of s) ≡ path_word place w ∷ []
  path-one h = ap (path_tokens place) first-word ∙ ap (λ t. path_tokens place (w ∷ words_behind t)) (nil_from_length b h)

  pub path-more : 0 < length b → path_tokens place (words_of s) ≡ path_word place w ∷ spelled (past place w) (what.symbol symbol.Dot) ∷ path_tokens (next_column (past place w)) (words_of (drop 1 b))
  path-more h = ap (path_tokens place) first-word ∙ ap (λ ws. path_tokens place (w ∷ ws)) (words-behind b h) ∙ path-dot place w (drop 1 b)
