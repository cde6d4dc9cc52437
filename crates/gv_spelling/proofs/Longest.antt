-- What makes a spelling the longest.
use Rattle.std.proofs.Common.{◌≡◌, ℕ, zero, suc, ◌+◌, ◌-◌, ◌<◌, ◌≤◌, Bool, true, false, not, ◌&&◌, cond, List, [], ◌∷◌, take, drop, length, Option, Some, None, refl, sym, ◌∙◌, arith, rules, subst, length-drop}
use Rattle.std.specs.Prelude.{nat_eq, nat_le, slice_index, ◌==◌}
use Rattle.std.specs.Char.{is_ascii_digit}
use Rattle.std.specs.List.{prefix_len, list_all}
use Rattle.std.specs.Str.{bytes_eq}
use Rattle.std.proofs.Math.Bool.{and-false}
use Rattle.std.proofs.lemmas.Bool.Decides.{nat_tests}
use Rattle.std.proofs.lemmas.List.{length-take-le, drop-take, get_or-take}
use Rattle.std.proofs.lemmas.List.Sums.{prefix_len-le-length}
use Rattle.gv_spelling.specs.declared.kinds.Lexeme.{Lexeme}
use Rattle.gv_spelling.specs.declared.kinds.Lexeme.TheVariants as lexeme
use Rattle.gv_spelling.specs.declared.classes.Class.TheVariants as class
use Rattle.gv_spelling.specs.declared.kinds.Fault.TheVariants as fault
use Rattle.gv_spelling.specs.declared.kinds.Quote.{Quote}
use Rattle.gv_spelling.specs.declared.kinds.Quote.TheVariants as quote
use Rattle.gv_spelling.specs.declared.classes.Front.{Front}
use Rattle.gv_spelling.specs.Table.{Text, lookup, symbols, units, are_short, front_of, by_front, between, is_in, closing, comment, slash, minus, digits, symbol, name, is_dollar_slash, word_of}
use Rattle.gv_spelling.specs.Longest.{IsLongest}

-- ---- tables

not_spelled : (k s : Text) → length k < length s → bytes_eq k s ≡ false
not_spelled [] [] h = absurd (omega arith)
not_spelled [] (c ∷ s) h = refl
not_spelled (b ∷ k) [] h = absurd (omega arith)
not_spelled (b ∷ k) (c ∷ s) h = rw (not_spelled k s (omega arith)) (and-false (nat_eq b c))

both : (a b : Bool) → (a && b) ≡ true → (a ≡ true) × (b ≡ true)
both true b h = (refl, h)
both false b h = absurd (cc)

nat_le-true : (a b : ℕ) → nat_le a b ≡ true → a ≤ b
nat_le-true a b h = search rules

lookup_long : {A : Type 0} (n : ℕ) (ks : List (Text × A)) (s : Text) → list_all (λ k. nat_le (length k.0) n) ks ≡ true → n < length s → lookup ks s ≡ None
lookup_long n [] s short long = refl
lookup_long n (k ∷ ks) s short long =
    let h = both (nat_le (length k.0) n) (list_all (λ x. nat_le (length x.0) n) ks) short in
    let le : length k.0 ≤ n = nat_le-true (length k.0) n h.0 in
    rw (not_spelled k.0 s (omega arith)) (lookup_long n ks s h.1 long)

pub symbols_short : are_short symbols ≡ true
unfolding symbols
symbols_short = refl

pub units_short : (q : Quote) → are_short (units q) ≡ true
unfolding units
units_short quote.Single = refl
units_short quote.SingleTriple = refl
units_short quote.Double = refl
units_short quote.DoubleTriple = refl

pub fixed_long : {A : Type 0} (ks : List (Text × A)) (n : ℕ) (s : Text) → are_short ks ≡ true → 4 < n → n ≤ length s → lookup ks (take n s) ≡ None
fixed_long ks n s short long within = lookup_long 4 ks (take n s) short (rw (length-take-le n s within) long)

-- ---- runs

pub one_more : (n : ℕ) → 1 + n ≡ suc n
one_more n = omega arith

run_all_step : (p : ℕ → Bool) (c : ℕ) (s : Text) (b : Bool) → p c ≡ b → list_all p (take (prefix_len p s) s) ≡ true
    → list_all p (take (cond b (1 + prefix_len p s) 0) (c ∷ s)) ≡ true
run_all_step p c s true e ih = rw (one_more (prefix_len p s), e) ih
run_all_step p c s false e ih = refl

run_all : (p : ℕ → Bool) (s : Text) → list_all p (take (prefix_len p s) s) ≡ true
run_all p [] = refl
run_all p (c ∷ s) = run_all_step p c s (p c) refl (run_all p s)

run_over_step : (p : ℕ → Bool) (n : ℕ) (c : ℕ) (s : Text) (b : Bool) → p c ≡ b → (prefix_len p s < n → list_all p (take n s) ≡ false)
    → cond b (1 + prefix_len p s) 0 < suc n → (p c && list_all p (take n s)) ≡ false
run_over_step p n c s true e ih h = rw e (ih (omega arith))
run_over_step p n c s false e ih h = rw e refl

run_over : (p : ℕ → Bool) (n : ℕ) (s : Text) → prefix_len p s < n → n ≤ length s → list_all p (take n s) ≡ false
run_over p zero s h w = absurd (omega arith)
run_over p (suc n) [] h w = absurd (omega arith)
run_over p (suc n) (c ∷ s) h w = run_over_step p n c s (p c) refl (λ l. run_over p n s l (omega arith)) h

pub drop-take-sub : (k n : ℕ) (s : Text) → k ≤ n → drop k (take n s) ≡ take (n - k) (drop k s)
drop-take-sub k n s h =
    let e : n ≡ k + (n - k) = omega arith in
    let P : ℕ → Type 0 = λ m. drop k (take m s) ≡ take (n - k) (drop k s) in
    subst P (sym e) (drop-take k (n - k) s)

-- a spelling whose characters from the kth on are of a class
pub run_longest : {A : Type 0} (p : ℕ → Bool) (what : Text → A) (k : ℕ) (s : Text) → 0 < k → k ≤ length s
    → IsLongest (λ t. cond (list_all p (drop k t)) (Some (what t)) None) s (what (take (k + prefix_len p (drop k s)) s)) (k + prefix_len p (drop k s))
run_longest p what k s h w = record {
  some = omega arith;
  within = omega (arith, prefix_len-le-length p (drop k s), length-drop k s);
  spelled = rw (drop-take k (prefix_len p (drop k s)) s, run_all p (drop k s)) refl;
  longest = λ n over within. rw (drop-take-sub k n s (omega arith), run_over p (n - k) (drop k s) (omega arith) (omega (arith, length-drop k s))) refl;
}

-- ---- what spelling a text begins with tells which class it is of

pub lift : {A : Type 0} (f g : Text → Option A) (s : Text) (what : A) (len : ℕ)
    → ((n : ℕ) → len ≤ n → n ≤ length s → g (take n s) ≡ f (take n s)) → IsLongest f s what len → IsLongest g s what len
lift f g s what len same h = record {
  some = h.some;
  within = h.within;
  spelled = same len (omega arith) h.within ∙ h.spelled;
  longest = λ n over within. same n (omega arith) within ∙ h.longest n over within;
}

other_length : (n : ℕ) → 2 < n → (n == 2) ≡ false
other_length n h = grind (arith, nat_tests)

pub at_front : (n i : ℕ) (s : Text) → i < n → slice_index (take n s) i ≡ slice_index s i
at_front n i s h = get_or-take n s i 0 h

pub between_longest : (operand : Bool) (k : Front) (s : Text) (what : Lexeme) (len : ℕ)
    → k ≡ front_of (slice_index s 0) → IsLongest (by_front k operand) s what len → IsLongest (between operand) s what len
unfolding between
between_longest operand k s what len e h =
    lift (by_front k operand) (between operand) s what len (λ n le within. let pos : 0 < n = omega (arith, h.some) in rw (at_front n 0 s pos, ← e) refl) h

-- ---- comments

some_same : (a b : ℕ) → Some a ≡ Some b → a ≡ b
some_same a b e = cc

closing_low_step : (at n : ℕ) (s : Text) (b : Bool) → (closing (at + 1) s ≡ Some n → at + 1 + 2 ≤ n) → cond b (Some (at + 2)) (closing (at + 1) s) ≡ Some n → at + 2 ≤ n
closing_low_step at n s true ih e = omega (arith, some_same (at + 2) n e)
closing_low_step at n s false ih e = omega (arith, ih e)

closing_low : (at n : ℕ) (s : Text) → closing at s ≡ Some n → at + 2 ≤ n
closing_low at n [] e = absurd (cc)
closing_low at n (c ∷ s) e = closing_low_step at n s (c == 42 && slice_index s 0 == 47) (closing_low (at + 1) n s) e

closing_take_step : (at n : ℕ) (s t : Text) (b : Bool) → (closing (at + 1) s ≡ Some n → closing (at + 1) t ≡ Some n)
    → cond b (Some (at + 2)) (closing (at + 1) s) ≡ Some n → cond b (Some (at + 2)) (closing (at + 1) t) ≡ Some n
closing_take_step at n s t true ih e = e
closing_take_step at n s t false ih e = ih e

closing_take : (at n m : ℕ) (s : Text) → closing at s ≡ Some n → n ≤ at + m → closing at (take m s) ≡ Some n
closing_take at n zero s e h = absurd (omega (arith, closing_low at n s e))
closing_take at n (suc m) [] e h = e
closing_take at n (suc m) (c ∷ s) e h =
    let low : at + 2 ≤ n = closing_low at n (c ∷ s) e in
    rw (at_front m 0 s (omega arith))
    (closing_take_step at n s (take m s) (c == 42 && slice_index s 0 == 47) (λ f. closing_take (at + 1) n m s f (omega arith)) e)

closed_by : (n len : ℕ) → n ≡ len → comment (Some n) len ≡ Some lexeme.Space
closed_by n len e = grind (arith, nat_tests)

not_closed_by : (n len : ℕ) → n < len → comment (Some n) len ≡ None
not_closed_by n len h = grind (arith, nat_tests)

closed_at : (s : Text) (n m : ℕ) → closing 2 (drop 2 s) ≡ Some n → n ≤ m → m ≤ length s
    → comment (closing 2 (drop 2 (take m s))) (length (take m s)) ≡ comment (Some n) m
closed_at s n m e h w =
    let low : 2 + 2 ≤ n = closing_low 2 n (drop 2 s) e in
    rw (length-take-le m s w, drop-take-sub 2 m s (omega arith), closing_take 2 n (m - 2) (drop 2 s) e (omega arith)) refl

pub comment_longest : (s : Text) (n : ℕ) → closing 2 (drop 2 s) ≡ Some n → n ≤ length s
    → IsLongest (λ t. comment (closing 2 (drop 2 t)) (length t)) s lexeme.Space n
comment_longest s n e w = record {
  some = omega (arith, closing_low 2 n (drop 2 s) e);
  within = w;
  spelled = closed_at s n n e (omega arith) w ∙ closed_by n n refl;
  longest = λ m over within. closed_at s n m e (omega arith) within ∙ not_closed_by n m over;
}

pub line_comment_longest : (operand : Bool) (s : Text) → 2 ≤ length s → slice_index s 1 ≡ 47
    → IsLongest (slash operand) s lexeme.Space (2 + prefix_len (is_in class.NotLine) (drop 2 s))
line_comment_longest operand s w e =
    lift (λ t. cond (list_all (is_in class.NotLine) (drop 2 t)) (Some lexeme.Space) None) (slash operand) s _ _
    (λ n le within. let two : 1 < n = omega arith in rw (at_front n 1 s two, e) refl)
    (run_longest (is_in class.NotLine) (λ _. lexeme.Space) 2 s (omega arith) w)

pub comment_is_longest : (operand : Bool) (s : Text) (what : Lexeme) (len : ℕ) → 2 ≤ length s → slice_index s 1 ≡ 42
    → IsLongest (λ t. comment (closing 2 (drop 2 t)) (length t)) s what len → 2 ≤ len → IsLongest (slash operand) s what len
comment_is_longest operand s what len w e h two =
    lift (λ t. comment (closing 2 (drop 2 t)) (length t)) (slash operand) s what len
    (λ n le within. let one : 1 < n = omega arith in rw (at_front n 1 s one, e) refl) h

-- ---- names

pub dollar_slash_longest : (s : Text) → slice_index s 0 ≡ 36 → slice_index s 1 ≡ 47 → 1 < length s → IsLongest name s (lexeme.Fault fault.Slashy) 2
dollar_slash_longest s dollar slash w =
    let two : 2 ≤ length s = omega arith in
    record {
      some = omega arith;
      within = two;
      spelled = rw (at_front 2 0 s (omega arith), at_front 2 1 s (omega arith), dollar, slash, length-take-le 2 s two) refl;
      longest = λ n over within.
          let zero_in : 0 < n = omega arith in
          let one_in : 1 < n = omega arith in
          rw (at_front n 0 s zero_in, at_front n 1 s one_in, dollar, slash, length-take-le n s within, other_length n over) refl;
    }

no_dollar_slash : (s : Text) (n : ℕ) → is_dollar_slash s ≡ false → is_dollar_slash (take n s) ≡ false
no_dollar_slash s zero e = refl
no_dollar_slash [] (suc zero) e = refl
no_dollar_slash (c ∷ s) (suc zero) e = and-false (c == 36)
no_dollar_slash s (suc (suc n)) e = rw (at_front (suc (suc n)) 0 s (omega arith), at_front (suc (suc n)) 1 s (omega arith)) e

pub name_longest : (s : Text) → 0 < length s → is_dollar_slash s ≡ false
    → IsLongest name s (word_of (take (1 + prefix_len (is_in class.Name) (drop 1 s)) s)) (1 + prefix_len (is_in class.Name) (drop 1 s))
name_longest s w e =
    lift (λ t. cond (list_all (is_in class.Name) (drop 1 t)) (Some (word_of t)) None) name s _ _
    (λ n le within. rw (no_dollar_slash s n e) refl)
    (run_longest (is_in class.Name) word_of 1 s (omega arith) (omega arith))

-- ---- minus

minus_symbol_at : (operand : Bool) (s : Text) (n : ℕ) → (not operand && is_ascii_digit (slice_index s 1)) ≡ false → minus operand (take n s) ≡ symbol (take n s)
minus_symbol_at operand s zero e = rw (and-false (not operand)) refl
minus_symbol_at operand [] (suc zero) e = rw (and-false (not operand)) refl
minus_symbol_at operand (c ∷ s) (suc zero) e = rw (and-false (not operand)) refl
minus_symbol_at operand s (suc (suc n)) e = rw (at_front (suc (suc n)) 1 s (omega arith), e) refl

pub minus_symbol : (operand : Bool) (s : Text) (what : Lexeme) (len : ℕ) → (not operand && is_ascii_digit (slice_index s 1)) ≡ false
    → IsLongest symbol s what len → IsLongest (minus operand) s what len
minus_symbol operand s what len e h =
    lift symbol (minus operand) s what len (λ n le within. minus_symbol_at operand s n e) h

pub minus_number : (operand : Bool) (s : Text) (what : Lexeme) (len : ℕ) → operand ≡ false → is_ascii_digit (slice_index s 1) ≡ true → 2 ≤ len
    → IsLongest (λ t. digits true (drop 1 t)) s what len → IsLongest (minus operand) s what len
minus_number operand s what len e d two h =
    lift (λ t. digits true (drop 1 t)) (minus operand) s what len (λ n le within. let one : 1 < n = omega arith in rw (at_front n 1 s one, e, d) refl) h
