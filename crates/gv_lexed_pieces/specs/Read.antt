-- What it means that a spelling is read, and what may stand behind it so that it ends there.
use Rattle.std.specs.Prelude.{ℕ, Bool, true, false, not, ◌&&◌, ◌||◌, ◌==◌, nat_lt, List, [], ◌∷◌, ◌++◌, codes, length, take, slice_index, Option}
use Rattle.std.specs.Char.{is_ascii_digit}
use Rattle.std.specs.List.{list_all}
use Rattle.std.specs.Str.{bytes_eq}
use Rattle.gv_spelling.specs.Longest.{IsLongest}
use Rattle.gv_spelling.specs.Table.{Text, between, is_in, symbols}
use Rattle.gv_spelling.specs.declared.classes.Class.{Class}
use Rattle.gv_spelling.specs.declared.classes.Class.TheVariants as class
use Rattle.gv_spelling.specs.declared.kinds.Lexeme.{Lexeme}
use Rattle.gv_spelling.specs.declared.kinds.Quote.{Quote}
use Rattle.gv_spelling.specs.declared.kinds.Quote.TheVariants as quote
use Rattle.gv_spelling.specs.declared.kinds.Symbol.{Symbol}
use Rattle.gv_spelling.specs.declared.kinds.Symbol.TheVariants as symbol
use Rattle.gv_print.specs.declared.strings.Quotes.{Quotes}
use Rattle.gv_print.specs.declared.strings.Quotes.TheVariants as quotes
use Rattle.gv_pieces.specs.Pieces.{symbol_text}

-- Between strings, where rest stands behind text, the longest spelling is this text, and it stands for what. The flag says whether an
-- operand ends before it.
abbrev pub IsRead : Bool → Text → Text → Lexeme → Type 0
IsRead operand text rest what = IsLongest (between operand) (text ++ rest) what (length text)

-- no character of the class stands first in what follows
abbrev pub none_first : Class → Text → Bool
none_first k [] = true
none_first k (c ∷ rest) = not (is_in k c)

-- the text and what follows it begin with no row of the table that is longer than the text
abbrev pub no_longer_row : Text → Text → Bool
no_longer_row text rest = list_all (λ k. not (nat_lt (length text) (length k.0) && bytes_eq k.0 (take (length k.0) (text ++ rest)))) symbols

-- A `-` before a digit is read with it unless an operand ends before it. A `/` isn't printed.
abbrev pub symbol_ends : Bool → Symbol → Text → Bool
symbol_ends operand symbol.Minus rest = not (not operand && is_ascii_digit (slice_index rest 0)) && no_longer_row (codes "-") rest
symbol_ends operand symbol.Slash rest = false
symbol_ends operand symbol.SlashAssign rest = false
symbol_ends operand s rest = no_longer_row (symbol_text s) rest

-- what the quotes of the printer are for the lexer
abbrev pub quote_of : Quotes → Quote
quote_of quotes.Single = quote.Single
quote_of quotes.Double = quote.Double

-- a word: a character that begins one, and characters of words behind it
abbrev pub is_word : Text → Bool
is_word [] = false
is_word (c ∷ text) = is_in class.Start c && list_all (is_in class.Name) text

-- no character of a word follows it, and no `/`, which with a `$` before it would be a spelling of its own
abbrev pub word_ends : Text → Bool
word_ends rest = none_first class.Name rest && not (slice_index rest 0 == 47)

-- a digit, and digits or a suffix behind it
abbrev pub is_number : Text → Bool
is_number [] = false
is_number (c ∷ text) = is_ascii_digit c && list_all (is_in class.Name) text

-- no character of a word follows it, and no dot with a digit behind it
abbrev pub number_ends : Text → Bool
number_ends rest = none_first class.Name rest && not (slice_index rest 0 == 46 && is_ascii_digit (slice_index rest 1))
