-- Numbers.
use Rattle.std.proofs.Common.{◌≡◌, ℕ, zero, suc, ◌+◌, ◌<◌, ◌≤◌, ◌==◌, Bool, true, false, not, ◌&&◌, List, [], ◌∷◌, ◌++◌, take, drop, length, refl, sym, ap, ◌∙◌, arith, subst}
use Rattle.std.specs.Prelude.{slice_index}
use Rattle.std.specs.Char.{is_ascii_digit}
use Rattle.std.specs.List.{list_all, prefix_len}
use Rattle.std.proofs.lemmas.Bool.Decides.{nat_tests}
use Rattle.gv_spelling.specs.Longest.{IsLongest}
use Rattle.gv_spelling.specs.Table.{Text, front_of, is_in, is_fraction, digits, judge}
use Rattle.gv_spelling.specs.declared.classes.Class.TheVariants as class
use Rattle.gv_spelling.specs.declared.classes.Front.TheVariants as front
use Rattle.gv_spelling.proofs.Longest.{between_longest, minus_number}
use Rattle.gv_spelling.proofs.Digits.{at_drop, digit_is_name, number_longest}
use Rattle.gv_lexed_pieces.specs.Read.{IsRead, none_first, is_number, number_ends}
use Rattle.gv_lexed_pieces.proofs.Rows.{both, not_true, take_all}
use Rattle.gv_lexed_pieces.proofs.Runs.{none_prefix, prefix_all}

drop_all : (text rest : Text) → drop (length text) (text ++ rest) ≡ rest
drop_all [] rest = refl
drop_all (c ∷ text) rest = drop_all text rest

at_behind : (text rest : Text) (i : ℕ) → slice_index (text ++ rest) (length text + i) ≡ slice_index rest i
at_behind text rest i = sym (at_drop (length text) i (text ++ rest)) ∙ ap (λ t. slice_index t i) (drop_all text rest)

no_fraction : (text rest : Text) → not (slice_index rest 0 == 46 && is_ascii_digit (slice_index rest 1)) ≡ true → is_fraction (length text) (text ++ rest) ≡ false
no_fraction text rest e =
    let none : length text ≡ length text + 0 = omega arith in
    let first : slice_index (text ++ rest) (length text) ≡ slice_index rest 0 = ap (λ k. slice_index (text ++ rest) k) none ∙ at_behind text rest 0 in
    rw (first, at_behind text rest 1, not_true _ e) refl

digit_front : (c : ℕ) → is_ascii_digit c ≡ true → is_in class.Start c ≡ false
unfolding is_in
digit_front c e = grind (arith, nat_tests)

front_digit : (c : ℕ) → is_ascii_digit c ≡ true → front.Digit ≡ front_of c
unfolding front_of
front_digit c e = rw (digit_front c e, e) refl

number_run : (c : ℕ) (text rest : Text) → is_ascii_digit c ≡ true → list_all (is_in class.Name) text ≡ true → none_first class.Name rest ≡ true → suc (length text) ≡ prefix_len (is_in class.Name) (c ∷ text ++ rest)
number_run c text rest digit all none =
    let whole : list_all (is_in class.Name) (c ∷ text) ≡ true = rw (digit_is_name c digit) all in
    sym (prefix_all (is_in class.Name) (c ∷ text) rest whole (none_prefix class.Name rest none))

pub number_is_read : (operand : Bool) (text rest : Text) → is_number text ≡ true → number_ends rest ≡ true → IsRead operand text rest (judge false text)
number_is_read operand [] rest w e = absurd (cc)
number_is_read operand (c ∷ text) rest w e =
    let parts = both (is_ascii_digit c) (list_all (is_in class.Name) text) w in
    let ends = both (none_first class.Name rest) (not (slice_index rest 0 == 46 && is_ascii_digit (slice_index rest 1))) e in
    let n : ℕ = suc (length text) in
    let s : Text = c ∷ text ++ rest in
    let found : IsLongest (digits false) s (judge false (take n s)) (0 + n) =
    number_longest false s 0 n (number_run c text rest parts.0 parts.1 ends.0) (omega arith) (omega arith) (no_fraction (c ∷ text) rest ends.1) in
    let count : 0 + n ≡ n = omega arith in
    let long : IsLongest (digits false) s (judge false (take n s)) n = subst (λ m. IsLongest (digits false) s (judge false (take n s)) m) count found in
    between_longest operand front.Digit s (judge false (c ∷ text)) n (front_digit c parts.0)
    (subst (λ t. IsLongest (digits false) s (judge false t) n) (take_all (c ∷ text) rest) long)

minus_front : front.Minus ≡ front_of 45
unfolding front_of is_in
minus_front = refl

pub signed_is_read : (text rest : Text) → is_number text ≡ true → number_ends rest ≡ true → IsRead false (45 ∷ text) rest (judge true text)
signed_is_read [] rest w e = absurd (cc)
signed_is_read (c ∷ text) rest w e =
    let parts = both (is_ascii_digit c) (list_all (is_in class.Name) text) w in
    let ends = both (none_first class.Name rest) (not (slice_index rest 0 == 46 && is_ascii_digit (slice_index rest 1))) e in
    let n : ℕ = suc (length text) in
    let s : Text = 45 ∷ c ∷ text ++ rest in
    let found : IsLongest (λ t. digits true (drop 1 t)) s (judge true (take n (c ∷ text ++ rest))) (1 + n) =
    number_longest true s 1 n (number_run c text rest parts.0 parts.1 ends.0) (omega arith) (omega arith) (no_fraction (c ∷ text) rest ends.1) in
    let count : 1 + n ≡ suc n = omega arith in
    let long : IsLongest (λ t. digits true (drop 1 t)) s (judge true (take n (c ∷ text ++ rest))) (suc n) = subst (λ m. IsLongest (λ t. digits true (drop 1 t)) s (judge true (take n (c ∷ text ++ rest))) m) count found in
    between_longest false front.Minus s (judge true (c ∷ text)) (suc n) minus_front
    (minus_number false s (judge true (c ∷ text)) (suc n) refl parts.0 (omega arith)
    (subst (λ t. IsLongest (λ u. digits true (drop 1 u)) s (judge true t) (suc n)) (take_all (c ∷ text) rest) long))
