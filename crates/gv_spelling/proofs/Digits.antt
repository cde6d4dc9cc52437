-- Why a number is the longest.
use Rattle.std.proofs.Common.{◌≡◌, ℕ, zero, suc, ◌^◌, ◌+◌, ◌-◌, ◌*◌, ◌<◌, ◌≤◌, min, Bool, true, false, cond, [], ◌∷◌, take, drop, length, Some, None, refl, ap, ◌∙◌, arith, length-drop, mul-le-mul_left, add-zero}
use Rattle.std.specs.Prelude.{nat_le, slice_index, ◌==◌}
use Rattle.std.specs.Char.{is_ascii_digit, digit_value}
use Rattle.std.specs.List.{prefix_len}
use Rattle.std.proofs.lemmas.Bool.Decides.{nat_tests}
use Rattle.std.proofs.lemmas.Option.{cond_some}
use Rattle.std.proofs.lemmas.List.{length-take-le, get_or-drop}
use Rattle.std.proofs.lemmas.List.Sums.{prefix_len-le-length}
use Rattle.gv_spelling.specs.declared.classes.Class.TheVariants as class
use Rattle.gv_spelling.specs.Table.{Text, is_in, digits, digits_to, judge, is_fraction, bad_number, value, are_digits, sized, judge_digits}
use Rattle.gv_spelling.specs.Longest.{IsLongest}
use Rattle.gv_spelling.proofs.Longest.{drop-take-sub, at_front}

min_suc : (m n : ℕ) → suc (min m n) ≡ min (suc m) (1 + n)
min_suc m n = omega arith

prefix_len_take_step : (p : ℕ → Bool) (m c : ℕ) (s : Text) (b : Bool) → p c ≡ b → prefix_len p (take m s) ≡ min m (prefix_len p s)
    → cond b (1 + prefix_len p (take m s)) 0 ≡ min (suc m) (cond b (1 + prefix_len p s) 0)
prefix_len_take_step p m c s true e ih = omega (arith, ih)
prefix_len_take_step p m c s false e ih = omega arith

prefix_len_take : (p : ℕ → Bool) (m : ℕ) (s : Text) → prefix_len p (take m s) ≡ min m (prefix_len p s)
prefix_len_take p zero s = omega arith
prefix_len_take p (suc m) [] = omega arith
prefix_len_take p (suc m) (c ∷ s) = prefix_len_take_step p m c s (p c) refl (prefix_len_take p m s)

to_at : (signed : Bool) (n k m : ℕ) (s : Text) → n ≡ k → digits_to signed n m s ≡ digits_to signed k m s
to_at signed n k m s e = rw e refl

on_take : (signed : Bool) (s : Text) (m : ℕ) → m ≤ length s
    → digits signed (take m s) ≡ digits_to signed (min m (prefix_len (is_in class.Name) s)) m (take m s)
on_take signed s m w = rw (prefix_len_take (is_in class.Name) m s, length-take-le m s w) refl

to_all : (signed : Bool) (n m : ℕ) (s : Text) → n ≡ m → digits_to signed n m s ≡ Some (judge signed s)
to_all signed n m s e = grind (arith, nat_tests)

to_none : (signed : Bool) (n m : ℕ) (s : Text) → n < m → (m ≡ n + 2 → is_fraction n s ≡ false) → digits_to signed n m s ≡ None
to_none signed n m s h f = grind (arith, nat_tests)

to_fraction : (signed : Bool) (n m : ℕ) (s : Text) → m ≡ n + 2 → is_fraction n s ≡ true → digits_to signed n m s ≡ Some (bad_number signed)
to_fraction signed n m s e f = grind (arith, nat_tests)

fraction_on_take : (n m : ℕ) (s : Text) → n + 1 < m → is_fraction n (take m s) ≡ is_fraction n s
fraction_on_take n m s h = rw (at_front m n s (omega arith), at_front m (n + 1) s h, at_front m (n - 1) s (omega arith)) refl

-- ---- a number's characters

pub digit_is_name : (c : ℕ) → is_ascii_digit c ≡ true → is_in class.Name c ≡ true
unfolding is_in
digit_is_name c h = grind (arith, nat_tests)

pub run_some : (p : ℕ → Bool) (s : Text) → 0 < length s → p (slice_index s 0) ≡ true → 0 < prefix_len p s
run_some p [] h e = absurd (omega arith)
run_some p (c ∷ s) h e = rw e (omega arith)

pub at_drop : (from i : ℕ) (s : Text) → slice_index (drop from s) i ≡ slice_index s (from + i)
at_drop from i s = get_or-drop from s i 0

pub number_some : (s : Text) (from : ℕ) → from < length s → is_ascii_digit (slice_index s from) ≡ true → 0 < prefix_len (is_in class.Name) (drop from s)
number_some s from w d =
    let e : slice_index (drop from s) 0 ≡ slice_index s from = at_drop from 0 s ∙ ap (λ i. slice_index s i) (add-zero from) in
    run_some (is_in class.Name) (drop from s) (omega (arith, length-drop from s)) (rw e (digit_is_name (slice_index s from) d))

pub number_short : (s : Text) (from : ℕ) → prefix_len (is_in class.Name) (drop from s) ≤ length (drop from s)
number_short s from = prefix_len-le-length (is_in class.Name) (drop from s)

pub fraction_at : (from n : ℕ) (s : Text) → 0 < n → is_fraction n (drop from s) ≡ is_fraction (from + n) s
fraction_at from n s h =
    let e : from + (n - 1) ≡ from + n - 1 = omega arith in
    let f : from + (n + 1) ≡ from + n + 1 = omega arith in
    rw (at_drop from n s, at_drop from (n + 1) s, at_drop from (n - 1) s, e, f) refl

-- the number's first n characters, from a place on
pub number_longest : (signed : Bool) (s : Text) (from n : ℕ) → n ≡ prefix_len (is_in class.Name) (drop from s) → 0 < n → from ≤ length s → is_fraction n (drop from s) ≡ false
    → IsLongest (λ t. digits signed (drop from t)) s (judge signed (take n (drop from s))) (from + n)
number_longest signed s from n is some w other =
    let d = drop from s in
    let short : n ≤ length d = omega (arith, is, prefix_len-le-length (is_in class.Name) d) in
    let room : length d + from ≡ length s = omega (arith, length-drop from s) in
    let same : from + n - from ≡ n = omega arith in
    record {
      some = omega arith;
      within = omega arith;
      spelled = rw (drop-take-sub from (from + n) s (omega arith), same) (on_take signed d n short ∙ to_all signed _ n (take n d) (omega arith));
      longest = λ m over within. rw (drop-take-sub from m s (omega arith))
          (on_take signed d (m - from) (omega arith) ∙ to_at signed _ n (m - from) (take (m - from) d) (omega arith)
          ∙ to_none signed n (m - from) (take (m - from) d) (omega arith) (λ e. fraction_on_take n (m - from) d (omega arith) ∙ other));
    }

pub fraction_longest : (signed : Bool) (s : Text) (from n : ℕ) → n ≡ prefix_len (is_in class.Name) (drop from s) → from + n + 2 ≤ length s → is_fraction n (drop from s) ≡ true
    → IsLongest (λ t. digits signed (drop from t)) s (bad_number signed) (from + n + 2)
fraction_longest signed s from n is w found =
    let d = drop from s in
    let room : length d + from ≡ length s = omega (arith, length-drop from s) in
    let same : from + n + 2 - from ≡ n + 2 = omega arith in
    record {
      some = omega arith;
      within = w;
      spelled = rw (drop-take-sub from (from + n + 2) s (omega arith), same)
          (on_take signed d (n + 2) (omega arith) ∙ to_at signed _ n (n + 2) (take (n + 2) d) (omega arith)
          ∙ to_fraction signed n (n + 2) (take (n + 2) d) refl (fraction_on_take n (n + 2) d (omega arith) ∙ found));
      longest = λ m over within. rw (drop-take-sub from m s (omega arith))
          (on_take signed d (m - from) (omega arith) ∙ to_at signed _ n (m - from) (take (m - from) d) (omega arith)
          ∙ to_none signed n (m - from) (take (m - from) d) (omega arith) (λ e. absurd (omega arith)));
    }

-- ---- values

le-value_by : (radix n d : ℕ) (b : Bool) → 1 ≤ radix → n ≤ cond b n (n * radix + d)
le-value_by radix n d true h = omega arith
le-value_by radix n d false h = omega (arith, mul-le-mul_left n h)

le-value_step : (radix n c : ℕ) → 1 ≤ radix → n ≤ cond (c == 95) n (n * radix + digit_value c)
le-value_step radix n c h = le-value_by radix n (digit_value c) (c == 95) h

pub le-value : (radix n : ℕ) (s : Text) → 1 ≤ radix → n ≤ value radix n s
le-value radix n [] h = omega arith
le-value radix n (c ∷ s) h = omega (arith, le-value_step radix n c h, le-value radix (cond (c == 95) n (n * radix + digit_value c)) s h)

-- ---- judging

pub sized_digits : (signed : Bool) (suffix radix : ℕ) (s : Text) (n : ℕ) → are_digits radix s ≡ true
    → cond (nat_le (value radix 0 s) (2 ^ 63)) (Some (value radix 0 s)) None ≡ Some n → sized signed suffix n ≡ judge_digits signed suffix radix s
sized_digits signed suffix radix s n d e =
    let h = cond_some (nat_le (value radix 0 s) (2 ^ 63)) (value radix 0 s) n e in rw (d, h.0, h.1) refl
