-- Numbers that texts write.
use Rattle.std.proofs.Common.{◌≡◌, ℕ, zero, suc, ◌<◌, ◌≤◌, ◌-◌, ◌^◌, ℤ, pos, negsuc, neg_ℤ, ◌≤ℤ◌, Bool, true, false, List, [], ◌∷◌, ◌++◌, length, get_or, encode_utf8, encode_utf8_all, IsUtf8, Option, Some, None, option_map, Result, Ok, Err, ◌⊎◌, inl, inr, ◌≢◌, ◌==◌, ◌&&◌, if◌then◌else◌, sym, ap, ◌∙◌, refl, arith, rules}
use Rattle.std.specs.Int.{w64}
use Rattle.std.specs.Prelude.{FitsSigned}
use Rattle.std.specs.Char.{is_ascii_digit}
use Rattle.std.specs.List.{list_all}
use Rattle.std.specs.Option.{option_and_then}
use Rattle.std.specs.Result.{result_ok, OkIff}
use Rattle.std.specs.Str.{chars}
use Rattle.std.specs.Str.Parse.{digits_value, ParsesSigned}
use Rattle.std.proofs.lemmas.Bool.{cases_lt, and_parts}
use Rattle.std.proofs.lemmas.List.{length-append}
use Rattle.std.proofs.lemmas.Bool.Decides.{nat_tests}
use Rattle.std.proofs.lemmas.Int.{ints}
use Rattle.std.proofs.lemmas.Str.{encode_ascii, encodes-chars, char_from_byte, length-encode, len_utf8_bounds}
use Rattle.std.proofs.lemmas.Str.Parse.{IsNumeralModel, numerals_by_value, parse_signed_plain, parse_signed_plus, parse_signed_minus}
use Rattle.gv_chars.specs.Chars.{number_of, signed_number, long_of, within, as_long, trimmed, integer_in}

-- ---- what is within

within_long : (least greatest z : ℤ) → negsuc (2 ^ 63 - 1) ≤ℤ least → greatest ≤ℤ pos (2 ^ 63 - 1) → option_and_then (within least greatest) (as_long z) ≡ within least greatest z
within_long least greatest z low high = grind (arith, nat_tests, ints)

pub within_longs : (least greatest : ℤ) (o : Option ℤ) → negsuc (2 ^ 63 - 1) ≤ℤ least → greatest ≤ℤ pos (2 ^ 63 - 1) → option_and_then (within least greatest) (option_and_then as_long o) ≡ option_and_then (within least greatest) o
within_longs least greatest None low high = refl
within_longs least greatest (Some z) low high = within_long least greatest z low high

within_plus : (n : ℕ) → n < 2 ^ 63 → as_long (pos n) ≡ Some (pos n)
within_plus n h = grind (arith, nat_tests, ints)

past_plus : (n : ℕ) → 2 ^ 63 ≤ n → as_long (pos n) ≡ None
past_plus n h = grind (arith, nat_tests, ints)

within_minus : (n : ℕ) → n ≤ 2 ^ 63 → as_long (neg_ℤ (pos n)) ≡ Some (neg_ℤ (pos n))
within_minus zero h = refl
within_minus (suc n) h = grind (arith, nat_tests, ints)

past_minus : (n : ℕ) → 2 ^ 63 < n → as_long (neg_ℤ (pos n)) ≡ None
past_minus zero h = absurd (omega arith)
past_minus (suc n) h = grind (arith, nat_tests, ints)

-- ---- what is read

digits : IsNumeralModel (λ ds. list_all is_ascii_digit ds ≡ true) (digits_value 10)
digits = numerals_by_value _ (search rules)

number_none : (ds : List ℕ) → list_all is_ascii_digit ds ≡ false → number_of ds ≡ None
number_none ds h = grind (arith, nat_tests)

number_some : (ds : List ℕ) → list_all is_ascii_digit ds ≡ true → 0 < length ds → number_of ds ≡ Some (digits_value 10 ds)
number_some [] h some = absurd (omega arith)
number_some (d ∷ ds) h some = grind (arith, nat_tests)

numeral_by : (b : Bool) (ds : List ℕ) → list_all is_ascii_digit ds ≡ b → (number_of ds ≡ None) ⊎ ((list_all is_ascii_digit ds ≡ true) × (0 < length ds))
numeral_by true [] h = inl refl
numeral_by true (d ∷ ds) h = inr (h, omega arith)
numeral_by false ds h = inl (number_none ds h)

numeral : (ds : List ℕ) → (number_of ds ≡ None) ⊎ ((list_all is_ascii_digit ds ≡ true) × (0 < length ds))
numeral ds = numeral_by (list_all is_ascii_digit ds) ds refl

-- the answer of `parse` behind no sign or a plus, and behind a minus
plus_read : {E : Type 0} (ds : List ℕ) (r : Result ℤ E) → OkIff r ((list_all is_ascii_digit ds ≡ true) × (0 < length ds) × (digits_value 10 ds < 2 ^ 63)) (pos (digits_value 10 ds)) → result_ok r ≡ option_and_then as_long (option_map pos (number_of ds))
plus_read ds (Ok x) h =
    ap Some h.1 ∙ sym (ap (λ o. option_and_then as_long (option_map pos o)) (number_some ds h.0.0 h.0.1) ∙ within_plus (digits_value 10 ds) h.0.2)
plus_read ds (Err e) h = elim (numeral ds) [
  | inl none ↦ sym (ap (λ o. option_and_then as_long (option_map pos o)) none)
  | inr some ↦ elim (cases_lt (digits_value 10 ds) (2 ^ 63)) [
    | inl small ↦ absurd (h (some.0, some.1, small))
    | inr past ↦ sym (ap (λ o. option_and_then as_long (option_map pos o)) (number_some ds some.0 some.1) ∙ past_plus (digits_value 10 ds) past)
  ]
]

minus_read : {E : Type 0} (ds : List ℕ) (r : Result ℤ E) → OkIff r ((list_all is_ascii_digit ds ≡ true) × (0 < length ds) × (digits_value 10 ds ≤ 2 ^ 63)) (neg_ℤ (pos (digits_value 10 ds))) → result_ok r ≡ option_and_then as_long (option_map (λ n. neg_ℤ (pos n)) (number_of ds))
minus_read ds (Ok x) h =
    ap Some h.1 ∙ sym (ap (λ o. option_and_then as_long (option_map (λ n. neg_ℤ (pos n)) o)) (number_some ds h.0.0 h.0.1) ∙ within_minus (digits_value 10 ds) h.0.2)
minus_read ds (Err e) h = elim (numeral ds) [
  | inl none ↦ sym (ap (λ o. option_and_then as_long (option_map (λ n. neg_ℤ (pos n)) o)) none)
  | inr some ↦ elim (cases_lt (2 ^ 63) (digits_value 10 ds)) [
    | inl past ↦ sym (ap (λ o. option_and_then as_long (option_map (λ n. neg_ℤ (pos n)) o)) (number_some ds some.0 some.1) ∙ past_minus (digits_value 10 ds) past)
    | inr small ↦ absurd (h (some.0, some.1, small))
  ]
]

-- by the first character: what stands behind it, and the whole
abbrev signed_by : ℕ → Option ℕ → Option ℕ → Option ℤ
signed_by c behind whole = if c == 45 then option_map (λ n. neg_ℤ (pos n)) behind else if c == 43 then option_map pos behind else option_map pos whole

by_minus : (c : ℕ) (behind whole : Option ℕ) → (c == 45) ≡ true → signed_by c behind whole ≡ option_map (λ n. neg_ℤ (pos n)) behind
by_minus c behind whole m = rw m refl

by_plus : (c : ℕ) (behind whole : Option ℕ) → (c == 45) ≡ false → (c == 43) ≡ true → signed_by c behind whole ≡ option_map pos behind
by_plus c behind whole m p = rw (m, p) refl

by_none : (c : ℕ) (behind whole : Option ℕ) → (c == 45) ≡ false → (c == 43) ≡ false → signed_by c behind whole ≡ option_map pos whole
by_none c behind whole m p = rw (m, p) refl

read_by : {E : Type 0} (minus plus : Bool) (c : ℕ) (cs : List ℕ) (r : Result ℤ E) → ParsesSigned w64 10 (c ∷ cs) r → (c == 45) ≡ minus → (c == 43) ≡ plus → result_ok r ≡ long_of (c ∷ cs)
read_by true plus c cs r h m p =
    let is : c ≡ 45 = grind (arith, nat_tests) in
    minus_read cs r (parse_signed_minus digits w64 (c ∷ cs) r h is) ∙ ap (option_and_then as_long) (sym (by_minus c (number_of cs) (number_of (c ∷ cs)) m))
read_by false true c cs r h m p =
    let is : c ≡ 43 = grind (arith, nat_tests) in
    plus_read cs r (parse_signed_plus digits w64 (c ∷ cs) r h is) ∙ ap (option_and_then as_long) (sym (by_plus c (number_of cs) (number_of (c ∷ cs)) m p))
read_by false false c cs r h m p =
    let not_minus : c ≢ 45 = grind (arith, nat_tests) in
    let not_plus : c ≢ 43 = grind (arith, nat_tests) in
    plus_read (c ∷ cs) r (parse_signed_plain digits w64 (c ∷ cs) r h not_plus not_minus) ∙ ap (option_and_then as_long) (sym (by_none c (number_of cs) (number_of (c ∷ cs)) m p))

pub parsed_is : {E : Type 0} (bs : List ℕ) (r : Result ℤ E) → ParsesSigned w64 10 bs r → result_ok r ≡ long_of bs
parsed_is [] (Ok x) h = absurd (let some = h.0.0.0 in omega arith)
parsed_is [] (Err e) h = refl
parsed_is (c ∷ cs) r h = read_by (c == 45) (c == 43) c cs r h refl refl

-- ---- digits among characters and among bytes

digits_same : (cs : List ℕ) → list_all is_ascii_digit cs ≡ true → encode_utf8_all cs ≡ cs
digits_same [] h = refl
digits_same (c ∷ cs) h =
    let parts = and_parts (is_ascii_digit c) (list_all is_ascii_digit cs) h in
    let low : c < 128 = grind (arith, nat_tests, parts.0) in
    ap (λ (xs : List ℕ). xs ++ encode_utf8_all cs) (encode_ascii c low) ∙ ap (λ (xs : List ℕ). c ∷ xs) (digits_same cs parts.1)

-- a list that begins with a number past ASCII
high_all : (bs : List ℕ) → 0 < length bs → 128 ≤ get_or bs 0 0 → list_all is_ascii_digit bs ≡ false
high_all [] some high = absurd (omega arith)
high_all (b ∷ bs) some high = grind (arith, nat_tests)

high_signed : (bs : List ℕ) → 0 < length bs → 128 ≤ get_or bs 0 0 → signed_number bs ≡ None
high_signed [] some high = absurd (omega arith)
high_signed (b ∷ bs) some high =
    let none = number_none (b ∷ bs) (high_all (b ∷ bs) some high) in
    let not_minus : (b == 45) ≡ false = grind (arith, nat_tests) in
    let not_plus : (b == 43) ≡ false = grind (arith, nat_tests) in
    by_none b (number_of bs) (number_of (b ∷ bs)) not_minus not_plus ∙ ap (option_map pos) none

-- the bytes of a character past ASCII begin so
high_encode : (c : ℕ) (rest : List ℕ) → 128 ≤ c → (0 < length (encode_utf8 c ++ rest)) × (128 ≤ get_or (encode_utf8 c ++ rest) 0 0)
high_encode c rest high =
    let some : 0 < length (encode_utf8 c ++ rest) = omega (arith, length-append (encode_utf8 c) rest, length-encode c, (len_utf8_bounds c).0) in (
      some,
      elim (cases_lt (get_or (encode_utf8 c ++ rest) 0 0) 128) [
        | inl low ↦ absurd (let same = char_from_byte (encode_utf8 c ++ rest) rest c refl low some in omega arith)
        | inr past ↦ past
      ],
    )

all_encodes : (cs : List ℕ) → list_all is_ascii_digit (encode_utf8_all cs) ≡ list_all is_ascii_digit cs
all_encodes [] = refl
all_encodes (c ∷ cs) = elim (cases_lt c 128) [
  | inl low ↦ ap (λ (xs : List ℕ). list_all is_ascii_digit (xs ++ encode_utf8_all cs)) (encode_ascii c low) ∙ ap (λ b. is_ascii_digit c && b) (all_encodes cs)
  | inr high ↦ (let h = high_encode c (encode_utf8_all cs) high in high_all (encode_utf8 c ++ encode_utf8_all cs) h.0 h.1 ∙ sym (high_all (c ∷ cs) (omega arith) high))
]

number_by : (b : Bool) (cs : List ℕ) → list_all is_ascii_digit cs ≡ b → number_of (encode_utf8_all cs) ≡ number_of cs
number_by true cs h = ap number_of (digits_same cs h)
number_by false cs h = number_none (encode_utf8_all cs) (all_encodes cs ∙ h) ∙ sym (number_none cs h)

number_encodes : (cs : List ℕ) → number_of (encode_utf8_all cs) ≡ number_of cs
number_encodes cs = number_by (list_all is_ascii_digit cs) cs refl

signed_encodes : (cs : List ℕ) → signed_number (encode_utf8_all cs) ≡ signed_number cs
signed_encodes [] = refl
signed_encodes (c ∷ cs) = elim (cases_lt c 128) [
  | inl low ↦ (let ascii : encode_utf8 c ++ encode_utf8_all cs ≡ c ∷ encode_utf8_all cs = ap (λ (xs : List ℕ). xs ++ encode_utf8_all cs) (encode_ascii c low) in
      ap signed_number ascii
      ∙ (ap (λ o. signed_by c o (number_of (c ∷ encode_utf8_all cs))) (number_encodes cs)
      ∙ ap (λ o. signed_by c (number_of cs) o) (ap number_of (sym ascii) ∙ number_encodes (c ∷ cs))))
  | inr high ↦ (let h = high_encode c (encode_utf8_all cs) high in high_signed (encode_utf8 c ++ encode_utf8_all cs) h.0 h.1 ∙ sym (high_signed (c ∷ cs) (omega arith) high))
]

pub long_of_text : (bs : List ℕ) → IsUtf8 bs → long_of bs ≡ long_of (chars bs)
long_of_text bs u = ap (option_and_then as_long) (ap signed_number (sym (encodes-chars bs u)) ∙ signed_encodes (chars bs))

-- the number that a trimmed text writes, and the bounds
pub integer_by : (least greatest z : ℤ) (cs trim : List ℕ) → FitsSigned w64 least → FitsSigned w64 greatest → Some z ≡ long_of trim → trim ≡ trimmed cs → within least greatest z ≡ integer_in least greatest cs
integer_by least greatest z cs trim low high e f =
    ap (option_and_then (within least greatest)) e
    ∙ (within_longs least greatest (signed_number trim) (omega (arith, ints)) (omega (arith, ints))
    ∙ ap (λ xs. option_and_then (within least greatest) (signed_number xs)) f)
