-- The order of ranks is one in which any two compare.
use Rattle.std.proofs.Common.{◌≡◌, ℕ, ℤ, pos, negsuc, Bool, true, false, cond, List, [], ◌∷◌, nat_lt, ◌==◌, nat_cmp, int_cmp, refl, sym, subst, ◌∙◌, arith}
use Rattle.std.proofs.lemmas.Bool.Decides.{nat_tests}
use Rattle.std.proofs.lemmas.List.Sorted.{ranks_by}
use Rattle.std.specs.Cmp.{IsTotalOrder, IsStrictWeakOrder, int_cmp_total, nat_cmp_total, bool_cmp_total, on_total, then_total}
use Rattle.std.specs.Cmp.Lexicographic.{slice_cmp, nat_list_cmp_total}
use Rattle.std.specs.Ordering.{ordering_then, then_cmp, bool_cmp, on}
use Rattle.std.specs.Str.{chars}
use Rattle.std.specs.declared.cmp.Ordering.{Ordering}
use Rattle.std.specs.declared.cmp.Ordering.TheVariants.{Less, Equal, Greater}
use Rattle.gv_chars.specs.Chars as char
use Rattle.gv_ranks.specs.Ranks.{place, compared}
use Rattle.gv_ranks.specs.Sorted.{is_before}
use Rattle.gv_ranks.specs.declared.rank.Rank.{Rank}
use Rattle.gv_ranks.specs.declared.rank.Rank.TheVariants.{Null, Number, Text, Truth}
use Rattle.gv_ranks.specs.declared.ranking.Ranked.{Ranked}

-- the first character that isn't the same decides
chars_by : (c d : ℕ) (rest : ℤ) (then : Ordering) (a b e : Bool) → nat_lt c d ≡ a → nat_lt d c ≡ b → (c == d) ≡ e → int_cmp rest (pos 0) ≡ then
    → int_cmp (cond a (negsuc 0) (cond b (pos 1) rest)) (pos 0) ≡ ordering_then (cond a Less (cond e Equal Greater)) then
chars_by c d rest then true b e p q r h = refl
chars_by c d rest then false true true p q r h = absurd (grind (arith, nat_tests))
chars_by c d rest then false true false p q r h = refl
chars_by c d rest then false false true p q r h = h
chars_by c d rest then false false false p q r h = absurd (grind (arith, nat_tests))

chars_compared : (cs ds : List ℕ) → int_cmp (char.compared cs ds) (pos 0) ≡ slice_cmp nat_cmp cs ds
chars_compared [] [] = refl
chars_compared [] (d ∷ ds) = refl
chars_compared (c ∷ cs) [] = refl
chars_compared (c ∷ cs) (d ∷ ds) = chars_by c d (char.compared cs ds) (slice_cmp nat_cmp cs ds) (nat_lt c d) (nat_lt d c) (c == d) refl refl refl (chars_compared cs ds)

-- ---- by the kind, then by what ranks of the kind have

number_of : Rank → ℤ
number_of (Number n) = n
number_of rank = pos 0

text_of : Rank → List ℕ
text_of (Text t) = chars t
text_of rank = []

truth_of : Rank → Bool
truth_of (Truth b) = b
truth_of rank = false

by_parts : Rank → Rank → Ordering
by_parts = then_cmp (on place nat_cmp) (then_cmp (on number_of int_cmp) (then_cmp (on text_of (slice_cmp nat_cmp)) (on truth_of bool_cmp)))

by_parts-total : IsTotalOrder by_parts
unfolding by_parts
by_parts-total = then_total (on_total place nat_cmp_total) (then_total (on_total number_of int_cmp_total) (then_total (on_total text_of nat_list_cmp_total) (on_total truth_of bool_cmp_total)))

then-Equal : (o : Ordering) → ordering_then o Equal ≡ o
then-Equal Less = refl
then-Equal Equal = refl
then-Equal Greater = refl

compared-by_parts : (r s : Rank) → by_parts r s ≡ compared r s
unfolding by_parts number_of text_of truth_of
compared-by_parts Null Null = refl
compared-by_parts Null (Number n) = refl
compared-by_parts Null (Text t) = refl
compared-by_parts Null (Truth b) = refl
compared-by_parts (Number m) Null = refl
compared-by_parts (Number m) (Number n) = then-Equal (int_cmp m n)
compared-by_parts (Number m) (Text t) = refl
compared-by_parts (Number m) (Truth b) = refl
compared-by_parts (Text t) Null = refl
compared-by_parts (Text t) (Number n) = refl
compared-by_parts (Text t) (Text u) = then-Equal (slice_cmp nat_cmp (chars t) (chars u)) ∙ sym (chars_compared (chars t) (chars u))
compared-by_parts (Text t) (Truth b) = refl
compared-by_parts (Truth b) Null = refl
compared-by_parts (Truth b) (Number n) = refl
compared-by_parts (Truth b) (Text t) = refl
compared-by_parts (Truth b) (Truth c) = refl

compared-total : IsTotalOrder compared
compared-total = subst IsTotalOrder (λ i r s. compared-by_parts r s i) by_parts-total

pub is_before-order : IsStrictWeakOrder is_before
is_before-order = ranks_by compared-total (λ (r : Ranked). r.rank)
