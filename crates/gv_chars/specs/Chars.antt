-- What is done with a text, as the list of its characters.
use Rattle.std.specs.Prelude.{ℕ, suc, zero, ℤ, pos, negsuc, neg_ℤ, int_le, ◌-◌, ◌^◌, Bool, true, false, ◌&&◌, ◌==◌, nat_le, nat_lt, List, [], ◌∷◌, ◌++◌, length, take, drop, map, filter, reverse, slice_index, Option, Some, None, option_map, option_and_then, if◌then◌else◌}
use Rattle.std.specs.Char.{is_ascii_digit}
use Rattle.std.specs.List.{list_all, list_any, slice_split}
use Rattle.std.specs.Str.Parse.{digits_value}

-- ---- parts

-- the characters from a place on, up to before another
abbrev pub part : ℕ → ℕ → List ℕ → List ℕ
part from to cs = take (to - from) (drop from cs)

-- the characters at these places
abbrev pub picked : List ℕ → List ℕ → List ℕ
picked places cs = map (λ place. slice_index cs place) places

-- each character alone
abbrev pub singles : List ℕ → List (List ℕ)
singles cs = map (λ c. c ∷ []) cs

-- ---- ends

-- space, and the control characters below it
abbrev pub is_blank : ℕ → Bool
is_blank c = nat_le c 32

-- without the blanks in front
abbrev pub after_blanks : List ℕ → List ℕ
after_blanks [] = []
after_blanks (c ∷ cs) = if is_blank c then after_blanks cs else c ∷ cs

-- without the blanks at both ends
abbrev pub trimmed : List ℕ → List ℕ
trimmed cs = reverse (after_blanks (reverse (after_blanks cs)))

-- ---- longer texts

-- so many copies, one behind the other
abbrev pub repeated : ℕ → List ℕ → List ℕ
repeated zero cs = []
repeated (suc n) cs = cs ++ repeated n cs

-- the first so many characters of the endless repetition of `unit`
abbrev pub filling : ℕ → List ℕ → List ℕ
filling n unit = take n (repeated n unit)

-- made so long in front
abbrev pub padded_left : ℕ → List ℕ → List ℕ → List ℕ
padded_left size unit cs = filling (size - length cs) unit ++ cs

-- made so long behind
abbrev pub padded_right : ℕ → List ℕ → List ℕ → List ℕ
padded_right size unit cs = cs ++ filling (size - length cs) unit

-- ---- pieces

-- whether a character is one of these
abbrev pub is_among : List ℕ → ℕ → Bool
is_among set c = list_any (λ d. d == c) set

-- whether there is a character
abbrev pub is_filled : List ℕ → Bool
is_filled [] = false
is_filled (c ∷ cs) = true

-- what stands between separators, where it isn't empty
abbrev pub pieces : List ℕ → List ℕ → List (List ℕ)
pieces separators cs = filter is_filled (slice_split (is_among separators) cs)

-- ---- order

-- -1, 0 or 1, as the first text comes before the second, is the same or comes after it
abbrev pub compared : List ℕ → List ℕ → ℤ
compared [] [] = pos 0
compared [] (d ∷ ds) = negsuc 0
compared (c ∷ cs) [] = pos 1
compared (c ∷ cs) (d ∷ ds) = if nat_lt c d then negsuc 0 else if nat_lt d c then pos 1 else compared cs ds

-- ---- numbers

-- the number of one ASCII digit or more
abbrev pub number_of : List ℕ → Option ℕ
number_of cs = if list_all is_ascii_digit cs && is_filled cs then Some (digits_value 10 cs) else None

-- the same, behind a sign or none
abbrev pub signed_number : List ℕ → Option ℤ
signed_number [] = None
signed_number (c ∷ cs) =
    if c == 45 then option_map (λ n. neg_ℤ (pos n)) (number_of cs)
    else if c == 43 then option_map pos (number_of cs)
    else option_map pos (number_of (c ∷ cs))

-- the number, where it is within these
abbrev pub within : ℤ → ℤ → ℤ → Option ℤ
within least greatest z = if int_le least z && int_le z greatest then Some z else None

-- the number within these that the text writes between its blanks
abbrev pub integer_in : ℤ → ℤ → List ℕ → Option ℤ
integer_in least greatest cs = option_and_then (within least greatest) (signed_number (trimmed cs))

-- the number, where 64 bits with a sign hold it
abbrev pub as_long : ℤ → Option ℤ
as_long z = within (negsuc (2 ^ 63 - 1)) (pos (2 ^ 63 - 1)) z

-- the number of 64 bits that the text writes
abbrev pub long_of : List ℕ → Option ℤ
long_of cs = option_and_then as_long (signed_number cs)
