-- What each whole spelling stands for, between strings and inside them, and nothing for what is no spelling.
-- The codes: 9 tab, 10 LF, 12 form feed, 13 CR, 32 space, 36 `$`, 42 `*`, 45 `-`, 46 `.`, 47 `/`, 48 `0`, 73 `I`, 76 `L`,
-- 92 `\`, 95 `_`, 98 `b`, 105 `i`, 108 `l`, 117 `u`, 120 `x`.
use Rattle.std.specs.Prelude.{ℕ, ◌+◌, ◌-◌, ◌*◌, ◌^◌, Bool, true, false, not, ◌&&◌, ◌||◌, if◌then◌else◌, ◌==◌, nat_lt, nat_le, List, [], ◌∷◌, take, drop, length, map, slice_index, Option, Some, None, unwrap_or, option_map, ℤ, pos, neg_ℤ}
use Rattle.std.specs.Char.{digit_value, is_digit, is_ascii_digit, is_ascii_hexdigit, is_ascii_alphabetic, is_ascii_alphanumeric}
use Rattle.std.specs.List.{prefix_len, list_all}
use Rattle.std.specs.Option.{option_or}
use Rattle.std.specs.Str.{bytes_eq}
use Rattle.unicode_ident.specs.Ident.{is_xid_start, is_xid_continue}
use Rattle.gv_spelling.specs.declared.classes.Class.{Class}
use Rattle.gv_spelling.specs.declared.classes.Class.TheVariants as class
use Rattle.gv_spelling.specs.declared.classes.Front.{Front}
use Rattle.gv_spelling.specs.declared.classes.Front.TheVariants as front
use Rattle.gv_spelling.specs.declared.kinds.Lexeme.{Lexeme}
use Rattle.gv_spelling.specs.declared.kinds.Lexeme.TheVariants as lexeme
use Rattle.gv_spelling.specs.declared.kinds.Fault.TheVariants as fault
use Rattle.gv_spelling.specs.declared.kinds.Quote.{Quote}
use Rattle.gv_spelling.specs.declared.kinds.Quote.TheVariants as quote
use Rattle.gv_spelling.specs.declared.kinds.Unit.{Unit}
use Rattle.gv_spelling.specs.declared.kinds.Unit.TheVariants as unit
use Rattle.gv_spelling.specs.declared.table.TheConstants.{SYMBOLS, WORDS, SINGLE, SINGLE_TRIPLE, DOUBLE, DOUBLE_TRIPLE}

-- a list of Unicode scalar values
abbrev pub Text : Type 0
Text = List ℕ

-- ---- characters

unfoldable pub is_in : Class → ℕ → Bool
is_in class.Start c = if nat_lt c 128 then is_ascii_alphabetic c || c == 36 || c == 95 else is_xid_start c
is_in class.Name c = if nat_lt c 128 then is_ascii_alphanumeric c || c == 36 || c == 95 else is_xid_continue c
is_in class.Blank c = c == 32 || c == 9 || c == 12
is_in class.NotLine c = not (c == 10 || c == 13)

-- ---- spellings that are always the same

-- what the row of this word stands for
abbrev pub lookup : {A : Type 0} → List (Text × A) → Text → Option A
lookup [] word = None
lookup (k ∷ ks) word = if bytes_eq k.0 word then Some k.1 else lookup ks word

-- no row is longer than four characters
abbrev pub are_short : {A : Type 0} → List (Text × A) → Bool
are_short ks = list_all (λ k. nat_le (length k.0) 4) ks

-- symbols, line ends and opening quotes
unfoldable pub symbols : List (Text × Lexeme)
symbols = map (λ k. (k.0.now, k.1)) SYMBOLS

-- closing quotes, line ends, escapes and `$`
unfoldable pub units : Quote → List (Text × Unit)
units quote.Single = map (λ k. (k.0.now, k.1)) SINGLE
units quote.SingleTriple = map (λ k. (k.0.now, k.1)) SINGLE_TRIPLE
units quote.Double = map (λ k. (k.0.now, k.1)) DOUBLE
units quote.DoubleTriple = map (λ k. (k.0.now, k.1)) DOUBLE_TRIPLE

-- a keyword, a refused word or a name
unfoldable pub word_of : Text → Lexeme
word_of s = unwrap_or (lookup (map (λ k. (k.0.now, k.1)) WORDS) s) lexeme.Name

-- ---- between strings

-- which spellings begin with this character
unfoldable pub front_of : ℕ → Front
front_of c =
    if is_in class.Start c then front.Start
    else if is_ascii_digit c then front.Digit
    else if is_in class.Blank c then front.Blank
    else if c == 47 then front.Slash
    else if c == 45 then front.Minus
    else front.Other

-- the characters from the nth on are of the class
abbrev pub all_in : Class → ℕ → Text → Bool
all_in c n s = list_all (is_in c) (drop n s)

-- a single character that is at fault
abbrev pub stray : Lexeme → Text → Option Lexeme
stray what s = if length s == 1 then Some what else None

-- a symbol, a line end or an opening quote; any other character is at fault
abbrev pub symbol : Text → Option Lexeme
symbol s = option_or (lookup symbols s) (stray (lexeme.Fault fault.Stray) s)

-- `$/` stands here
abbrev pub is_dollar_slash : Text → Bool
is_dollar_slash s = slice_index s 0 == 36 && slice_index s 1 == 47

-- A word is one spelling. So is `$/` where it begins one, and it is at fault.
abbrev pub name : Text → Option Lexeme
name s =
    if is_dollar_slash s then (if length s == 2 then Some (lexeme.Fault fault.Slashy) else None)
    else if all_in class.Name 1 s then Some (word_of s)
    else None

-- the length up to and with the first `*/`, where at characters stand before the text
abbrev pub closing : ℕ → Text → Option ℕ
closing at [] = None
closing at (c ∷ s) = if c == 42 && slice_index s 0 == 47 then Some (at + 2) else closing (at + 1) s

-- a comment ends at its first `*/`, and one without it is at fault
abbrev pub comment : Option ℕ → ℕ → Option Lexeme
comment None len = Some (lexeme.Fault fault.Comment)
comment (Some n) len = if n == len then Some lexeme.Space else None

-- a comment, or a symbol behind an operand, or the start of a slashy string
abbrev pub slash : Bool → Text → Option Lexeme
slash operand s =
    if slice_index s 1 == 47 then (if all_in class.NotLine 2 s then Some lexeme.Space else None)
    else if slice_index s 1 == 42 then comment (closing 2 (drop 2 s)) (length s)
    else if operand then symbol s
    else stray (lexeme.Fault fault.Slashy) s

-- ---- numbers

abbrev pub bad_number : Bool → Lexeme
bad_number signed = if signed then lexeme.Fault fault.SignedNumber else lexeme.Fault fault.Number

-- `L`, `l`, `I` or `i`
abbrev pub is_suffix : ℕ → Bool
is_suffix c = c == 76 || c == 108 || c == 73 || c == 105

abbrev pub last : Text → ℕ
last s = slice_index s (length s - 1)

-- the radix that a number's front names
abbrev pub radix_of : Text → ℕ
radix_of s =
    if not (slice_index s 0 == 48) then 10
    else if slice_index s 1 == 120 then 16
    else if slice_index s 1 == 98 then 2
    else 8

abbrev pub is_digit_or_bar : ℕ → ℕ → Bool
is_digit_or_bar radix c = c == 95 || is_digit c radix

-- digits with `_` between them
abbrev pub are_digits : ℕ → Text → Bool
are_digits radix s = ((nat_lt 0 (length s) && is_digit (slice_index s 0) radix) && is_digit (last s) radix) && list_all (is_digit_or_bar radix) s

-- the number that digits write behind the number n
abbrev pub value : ℕ → ℕ → Text → ℕ
value radix n [] = n
value radix n (c ∷ s) = value radix (if c == 95 then n else n * radix + digit_value c) s

abbrev pub with_sign : Bool → ℕ → ℤ
with_sign signed n = if signed then neg_ℤ (pos n) else pos n

-- the number fits a sign and this many bits
abbrev pub fits : ℕ → Bool → ℕ → Bool
fits bits signed n = nat_lt n (2 ^ bits) || (signed && n == 2 ^ bits)

-- the literal with this last character and value
abbrev pub sized : Bool → ℕ → ℕ → Lexeme
sized signed suffix n =
    if fits 31 signed n && not (suffix == 76 || suffix == 108) then lexeme.Int (with_sign signed n)
    else if fits 63 signed n && not (suffix == 73 || suffix == 105) then lexeme.Long (with_sign signed n)
    else lexeme.Fault fault.Past

abbrev pub without_suffix : Text → Text
without_suffix s = if is_suffix (last s) then take (length s - 1) s else s

-- the digits behind the `0x` or `0b` of a number
abbrev pub digits_of : Text → Text
digits_of s = if (radix_of s == 16 || radix_of s == 2) && nat_le 2 (length s) then drop 2 s else s

abbrev pub judge_digits : Bool → ℕ → ℕ → Text → Lexeme
judge_digits signed suffix radix s =
    if not (are_digits radix s) then bad_number signed
    else if nat_le (value radix 0 s) (2 ^ 63) then sized signed suffix (value radix 0 s)
    else lexeme.Fault fault.Past

-- what the digits and letters of a number stand for
unfoldable pub judge : Bool → Text → Lexeme
judge signed s = judge_digits signed (last s) (radix_of (without_suffix s)) (digits_of (without_suffix s))

-- a dot and a digit stand at this place, and no suffix before it
abbrev pub is_fraction : ℕ → Text → Bool
is_fraction n s = (slice_index s n == 46 && is_ascii_digit (slice_index s (n + 1))) && not (is_suffix (slice_index s (n - 1)))

-- Digits and the letters behind them are one spelling. So are digits, a dot and a digit, which is at fault.
abbrev pub digits_to : Bool → ℕ → ℕ → Text → Option Lexeme
digits_to signed n len s =
    if n == len then Some (judge signed s)
    else if len == n + 2 && is_fraction n s then Some (bad_number signed)
    else None

-- a number without its sign, of which the flag tells
abbrev pub digits : Bool → Text → Option Lexeme
digits signed s = digits_to signed (prefix_len (is_in class.Name) s) (length s) s

-- a `-` before a digit belongs to the number unless an operand ends before it
abbrev pub minus : Bool → Text → Option Lexeme
minus operand s = if not operand && is_ascii_digit (slice_index s 1) then digits true (drop 1 s) else symbol s

abbrev pub by_front : Front → Bool → Text → Option Lexeme
by_front front.Start operand s = name s
by_front front.Digit operand s = digits false s
by_front front.Blank operand s = if all_in class.Blank 1 s then Some lexeme.Space else None
by_front front.Slash operand s = slash operand s
by_front front.Minus operand s = minus operand s
by_front front.Other operand s = symbol s

-- What a spelling between strings stands for: the table's first half. The flag says whether an operand ends before it.
unfoldable pub between : Bool → Text → Option Lexeme
between operand s = by_front (front_of (slice_index s 0)) operand s

-- ---- inside strings

abbrev pub is_hex : ℕ → Bool
is_hex c = is_ascii_hexdigit c

-- the character with this code, unless it is a surrogate or past the last one
abbrev pub char_of : Option ℕ → Option ℕ
char_of None = None
char_of (Some c) = if nat_lt c 0xd800 || (nat_le 0xe000 c && nat_lt c 0x11_0000) then Some c else None

-- the number that digits write, if it is at most 2 ^ 63
abbrev pub small_value : ℕ → Text → Option ℕ
small_value radix s = if nat_le (value radix 0 s) (2 ^ 63) then Some (value radix 0 s) else None

-- `\u` and four hexadecimal digits
abbrev pub is_unicode : Text → Bool
is_unicode s = ((length s == 6 && slice_index s 0 == 92) && slice_index s 1 == 117) && list_all is_hex (drop 2 s)

-- the character that `\u` and four digits stand for
unfoldable pub unicode_char : Text → Option ℕ
unicode_char s = if is_unicode s then char_of (small_value 16 (drop 2 s)) else None

abbrev pub unicode : Text → Option Unit
unicode s = option_map unit.Char (unicode_char s)

abbrev pub any : Text → Option Unit
any s = if length s == 1 then Some (unit.Char (slice_index s 0)) else None

-- ---- `$a.b`: names without `$`, with dots between

abbrev pub part_start : ℕ → Bool
part_start c = is_in class.Start c && not (c == 36)

abbrev pub part_goes : ℕ → Bool
part_goes c = is_in class.Name c && not (c == 36)

-- a name is to begin here, or one goes on
abbrev pub path_from : Bool → Text → Bool
path_from fresh [] = not fresh
path_from true (c ∷ s) = part_start c && path_from false s
path_from false (c ∷ s) = if c == 46 then path_from true s else part_goes c && path_from false s

abbrev pub is_double : Quote → Bool
is_double quote.Double = true
is_double quote.DoubleTriple = true
is_double _ = false

-- `$a.b` in an interpolated string
abbrev pub path : Quote → Text → Option Unit
path q s = if (is_double q && slice_index s 0 == 36) && path_from true (drop 1 s) then Some unit.Path else None

-- where the longest path ends, after `at` characters, of which `best` are one
abbrev pub path_end : Bool → ℕ → ℕ → Text → ℕ
path_end fresh at best [] = best
path_end true at best (c ∷ s) = if part_start c then path_end false (at + 1) (at + 1) s else best
path_end false at best (c ∷ s) =
    if c == 46 then path_end true (at + 1) best s else if part_goes c then path_end false (at + 1) (at + 1) s else best

-- What a spelling stands for in a string that this quote opened: the table's second half. A path goes first, then `\u`,
-- then the rows, then any character.
unfoldable pub inside : Quote → Text → Option Unit
inside q s = option_or (path q s) (option_or (unicode s) (option_or (lookup (units q) s) (any s)))
