-- Why a unit of a string is the longest.
use Rattle.std.proofs.Common.{◌≡◌, ℕ, ◌<◌, ◌≤◌, Bool, true, false, not, ◌||◌, List, [], ◌∷◌, take, length, Option, Some, None, refl, ap, sym, ◌∙◌, arith, rules, subst}
use Rattle.std.specs.Prelude.{slice_index, ◌==◌, nat_lt, bytes_eq}
use Rattle.std.specs.List.{list_all}
use Rattle.std.specs.Option.{option_or}
use Rattle.std.proofs.Math.Bool.{and-false}
use Rattle.std.proofs.lemmas.Slice.Eq.{bytes_eq-Decides}
use Rattle.std.proofs.lemmas.Bool.{eqb-true, and_parts}
use Rattle.std.proofs.lemmas.Bool.Decides.{nat_tests}
use Rattle.std.proofs.lemmas.List.{length-take-le}
use Rattle.gv_spelling.specs.declared.kinds.Unit.{Unit}
use Rattle.gv_spelling.specs.declared.kinds.Unit.TheVariants as unit
use Rattle.gv_spelling.specs.declared.kinds.Quote.{Quote}
use Rattle.gv_spelling.specs.declared.kinds.Quote.TheVariants as quote
use Rattle.gv_spelling.specs.Table.{Text, units, unicode, unicode_char, any, inside, path, lookup}
use Rattle.gv_spelling.specs.Longest.{IsLongest}
use Rattle.gv_spelling.proofs.Longest.{at_front, fixed_long, units_short}

eqb-not : (a b : ℕ) → (a == b) ≡ false → a ≡ b → ⊥
eqb-not a b f e = grind (arith, nat_tests)

or_none : (a b : Option Unit) → a ≡ None → b ≡ None → option_or a b ≡ None
or_none a b e f = rw (e, f) refl

or_first : (a b : Option Unit) (w : Unit) → a ≡ Some w → option_or a b ≡ Some w
or_first a b w e = rw e refl

or_second : (a b : Option Unit) → a ≡ None → option_or a b ≡ b
or_second a b e = rw e refl

pub or_left : (f g : Text → Option Unit) (s : Text) (what : Unit) (len : ℕ) → IsLongest f s what len
    → ((n : ℕ) → len < n → n ≤ length s → g (take n s) ≡ None) → IsLongest (λ t. option_or (f t) (g t)) s what len
or_left f g s what len h none = record {
  some = h.some;
  within = h.within;
  spelled = or_first (f (take len s)) (g (take len s)) what h.spelled;
  longest = λ n over within. or_none (f (take n s)) (g (take n s)) (h.longest n over within) (none n over within);
}

pub or_right : (f g : Text → Option Unit) (s : Text) (what : Unit) (len : ℕ)
    → ((n : ℕ) → 0 < n → n ≤ length s → f (take n s) ≡ None) → IsLongest g s what len → IsLongest (λ t. option_or (f t) (g t)) s what len
or_right f g s what len none h = record {
  some = h.some;
  within = h.within;
  spelled = or_second (f (take len s)) (g (take len s)) (none len h.some h.within) ∙ h.spelled;
  longest = λ n over within. or_none (f (take n s)) (g (take n s)) (none n (omega (arith, h.some)) within) (h.longest n over within);
}

other_number : (n k : ℕ) → (n ≡ k → ⊥) → (n == k) ≡ false
other_number n k h = grind (arith, nat_tests)

unicode_len : (s : Text) → (length s ≡ 6 → ⊥) → unicode s ≡ None
unfolding unicode_char
unicode_len s h = rw (other_number (length s) 6 h) refl

any_long : (s : Text) → 1 < length s → any s ≡ None
any_long s h = grind (arith, nat_tests)

any_one : (s : Text) → length s ≡ 1 → any s ≡ Some (unit.Char (slice_index s 0))
any_one s h = grind (arith, nat_tests)

unicode_some : (s : Text) (c : ℕ) → unicode_char s ≡ Some c → unicode s ≡ Some (unit.Char c)
unicode_some s c e = rw e refl

unicode_none : (s : Text) → unicode_char s ≡ None → unicode s ≡ None
unicode_none s e = rw e refl

no_unicode_by : (s : Text) → (6 ≤ length s → unicode_char (take 6 s) ≡ None) → (n : ℕ) → n ≤ length s → (b : Bool) → (n == 6) ≡ b → unicode (take n s) ≡ None
no_unicode_by s e n w true six =
    let is : n ≡ 6 = eqb-true n 6 six in
    let P : ℕ → Type 0 = λ k. unicode (take k s) ≡ None in
    subst P (sym is) (unicode_none (take 6 s) (e (omega arith)))
no_unicode_by s e n w false other =
    let not_six : n ≡ 6 → ⊥ = λ is. eqb-not n 6 other is in
    unicode_len (take n s) (λ six. not_six (sym (length-take-le n s w) ∙ six))

-- no front of the text is `\u` and four digits
no_unicode : (s : Text) → (6 ≤ length s → unicode_char (take 6 s) ≡ None) → (n : ℕ) → n ≤ length s → unicode (take n s) ≡ None
no_unicode s e n w = no_unicode_by s e n w (n == 6) refl

-- no row that begins with `$` is longer than two
dollar_short : (q : Quote) → list_all (λ k. not (slice_index k.0 0 == 36) || nat_lt (length k.0) 3) (units q) ≡ true
unfolding units
dollar_short quote.Single = refl
dollar_short quote.SingleTriple = refl
dollar_short quote.Double = refl
dollar_short quote.DoubleTriple = refl

wrong : (front len : ℕ) → front ≡ 36 → 3 ≤ len → (not (front == 36) || nat_lt len 3) ≡ true → ⊥
wrong front len e w t = grind (arith, nat_tests)

same_bytes : (a b : Text) → bytes_eq a b ≡ true → a ≡ b
same_bytes a b e = search (rules, bytes_eq-Decides)

row_fails : (k s : Text) (b : Bool) → bytes_eq k s ≡ b → (not (slice_index k 0 == 36) || nat_lt (length k) 3) ≡ true → slice_index s 0 ≡ 36 → 3 ≤ length s → b ≡ false
row_fails k s false e test f w = refl
row_fails k s true e test f w =
    let same = same_bytes k s e in
    let front : slice_index k 0 ≡ 36 = ap (λ t. slice_index t 0) same ∙ f in
    let long : 3 ≤ length k = rw same w in
    absurd (wrong (slice_index k 0) (length k) front long test)

lookup_dollar : (ks : List (Text × Unit)) (s : Text) → list_all (λ k. not (slice_index k.0 0 == 36) || nat_lt (length k.0) 3) ks ≡ true → slice_index s 0 ≡ 36 → 3 ≤ length s → lookup ks s ≡ None
lookup_dollar [] s test f w = refl
lookup_dollar (k ∷ ks) s test f w =
    let h = and_parts (not (slice_index k.0 0 == 36) || nat_lt (length k.0) 3) (list_all (λ x. not (slice_index x.0 0 == 36) || nat_lt (length x.0) 3) ks) test in
    rw (row_fails k.0 s (bytes_eq k.0 s) refl h.0 f w) (lookup_dollar ks s h.1 f w)

fixed_dollar : (q : Quote) (s : Text) → slice_index s 0 ≡ 36 → 3 ≤ length s → lookup (units q) s ≡ None
fixed_dollar q s f w = lookup_dollar (units q) s (dollar_short q) f w

unicode_dollar : (s : Text) → slice_index s 0 ≡ 36 → unicode s ≡ None
unfolding unicode_char
unicode_dollar s f = rw (f, and-false (length s == 6)) refl

pub path_first : (q : Quote) (s : Text) (e : ℕ) → slice_index s 0 ≡ 36 → 2 ≤ e → IsLongest (path q) s unit.Path e → IsLongest (inside q) s unit.Path e
unfolding inside
path_first q s e f two h = or_left (path q) (λ t. option_or (unicode t) (option_or (lookup (units q) t) (any t))) s unit.Path e h
    (λ n over within.
    let front = at_front n 0 s (omega arith) ∙ f in
    let len = length-take-le n s within in
    or_none (unicode (take n s)) (option_or (lookup (units q) (take n s)) (any (take n s))) (unicode_dollar (take n s) front)
    (or_none (lookup (units q) (take n s)) (any (take n s)) (fixed_dollar q (take n s) front (omega arith)) (any_long (take n s) (omega arith))))

behind_path : (q : Quote) (s : Text) (what : Unit) (len : ℕ) → ((n : ℕ) → n ≤ length s → path q (take n s) ≡ None)
    → IsLongest (λ t. option_or (unicode t) (option_or (lookup (units q) t) (any t))) s what len → IsLongest (inside q) s what len
unfolding inside
behind_path q s what len other h = or_right (path q) (λ t. option_or (unicode t) (option_or (lookup (units q) t) (any t))) s what len (λ n some within. other n within) h

pub unicode_longest : (q : Quote) (s : Text) (c : ℕ) → ((n : ℕ) → n ≤ length s → path q (take n s) ≡ None) → 6 ≤ length s → unicode_char (take 6 s) ≡ Some c → IsLongest (inside q) s (unit.Char c) 6
unicode_longest q s c other w e = behind_path q s (unit.Char c) 6 other (or_left unicode (λ t. option_or (lookup (units q) t) (any t)) s (unit.Char c) 6
    (record {
      some = omega arith;
      within = w;
      spelled = unicode_some (take 6 s) c e;
      longest = λ n over within. unicode_len (take n s) (λ six. absurd (omega (arith, length-take-le n s within)));
    })
    (λ n over within. or_none (lookup (units q) (take n s)) (any (take n s)) (fixed_long (units q) n s (units_short q) (omega arith) within)
    (any_long (take n s) (omega (arith, length-take-le n s within)))))

pub fixed_longest : (q : Quote) (s : Text) (what : Unit) (len : ℕ) → ((n : ℕ) → n ≤ length s → path q (take n s) ≡ None) → (6 ≤ length s → unicode_char (take 6 s) ≡ None) → IsLongest (lookup (units q)) s what len → IsLongest (inside q) s what len
fixed_longest q s what len other e h = behind_path q s what len other (
    or_right unicode (λ t. option_or (lookup (units q) t) (any t)) s what len (λ n some within. no_unicode s e n within)
    (or_left (lookup (units q)) any s what len h (λ n over within. any_long (take n s) (omega (arith, h.some, length-take-le n s within)))))

pub any_longest : (q : Quote) (s : Text) (c : ℕ) → ((n : ℕ) → n ≤ length s → path q (take n s) ≡ None) → 0 < length s → c ≡ slice_index s 0 → (6 ≤ length s → unicode_char (take 6 s) ≡ None)
    → ((n : ℕ) → 0 < n → n ≤ length s → lookup (units q) (take n s) ≡ None) → IsLongest (inside q) s (unit.Char c) 1
any_longest q s c other w is e none = behind_path q s (unit.Char c) 1 other (
    or_right unicode (λ t. option_or (lookup (units q) t) (any t)) s (unit.Char c) 1 (λ n some within. no_unicode s e n within)
    (or_right (lookup (units q)) any s (unit.Char c) 1 none (record {
      some = omega arith;
      within = w;
      spelled = any_one (take 1 s) (length-take-le 1 s w) ∙ ap (λ x. Some (unit.Char x)) (at_front 1 0 s (omega arith) ∙ sym is);
      longest = λ n over within. any_long (take n s) (omega (arith, length-take-le n s within));
    })))
