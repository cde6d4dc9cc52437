-- The rows of the table: symbols, line ends and opening quotes.
use Rattle.std.proofs.Common.{◌≡◌, ℕ, zero, suc, ◌+◌, ◌<◌, ◌≤◌, ◌==◌, nat_lt, Bool, true, false, not, ◌&&◌, List, [], ◌∷◌, ◌++◌, codes, take, length, Option, Some, None, refl, sym, ap, ◌∙◌, arith, subst, length-append}
use Rattle.std.specs.Prelude.{nat_eq, slice_index}
use Rattle.std.specs.Char.{is_ascii_digit}
use Rattle.std.specs.List.{list_all}
use Rattle.std.specs.Str.{bytes_eq}
use Rattle.std.proofs.Math.Bool.{and-false}
use Rattle.std.proofs.lemmas.Bool.Decides.{nat_tests}
use Rattle.std.proofs.lemmas.List.{length-take-le}
use Rattle.gv_spelling.specs.Longest.{IsLongest}
use Rattle.gv_spelling.specs.Table.{Text, lookup, symbols, symbol as symbol_of, front_of, is_in, between}
use Rattle.gv_spelling.specs.declared.classes.Front.TheVariants as front
use Rattle.gv_spelling.specs.declared.kinds.Lexeme.{Lexeme}
use Rattle.gv_spelling.specs.declared.kinds.Lexeme.TheVariants as lexeme
use Rattle.gv_spelling.specs.declared.kinds.Symbol.{Symbol}
use Rattle.gv_spelling.specs.declared.kinds.Symbol.TheVariants as symbol
use Rattle.gv_spelling.proofs.Longest.{between_longest, minus_symbol}
use Rattle.gv_print.specs.declared.strings.Quotes.{Quotes}
use Rattle.gv_print.specs.declared.strings.Quotes.TheVariants as quotes
use Rattle.gv_pieces.specs.Pieces.{symbol_text, quote_text}
use Rattle.gv_lexed_pieces.specs.Read.{IsRead, no_longer_row, symbol_ends, quote_of}

pub both : (a b : Bool) → (a && b) ≡ true → (a ≡ true) × (b ≡ true)
both true b h = (refl, h)
both false b h = absurd (cc)

pub not_true : (b : Bool) → not b ≡ true → b ≡ false
not_true true h = absurd (cc)
not_true false h = refl

pub take_all : (text rest : Text) → take (length text) (text ++ rest) ≡ text
take_all [] rest = refl
take_all (c ∷ text) rest = ap (λ l. c ∷ l) (take_all text rest)

same_length : (a b : Text) → bytes_eq a b ≡ true → length a ≡ length b
same_length [] [] e = refl
same_length [] (d ∷ b) e = absurd (cc)
same_length (c ∷ a) [] e = absurd (cc)
same_length (c ∷ a) (d ∷ b) e = ap suc (same_length a b (both (nat_eq c d) (bytes_eq a b) e).1)

less_true : (a b : ℕ) → a < b → nat_lt a b ≡ true
less_true a b h = grind (arith, nat_tests)

abbrev Row : Type 0
Row = Text × Lexeme

-- a row that isn't longer, or with which the text doesn't begin
abbrev leaves : ℕ → Text → Row → Bool
leaves len s k = not (nat_lt len (length k.0) && bytes_eq k.0 (take (length k.0) s))

row_leaves : (len n : ℕ) (s : Text) (k : Row) → leaves len s k ≡ true → len < n → n ≤ length s → (b : Bool) → bytes_eq k.0 (take n s) ≡ b → b ≡ false
row_leaves len n s k leave over within false e = refl
row_leaves len n s k leave over within true e =
    let same : length k.0 ≡ n = same_length k.0 (take n s) e ∙ length-take-le n s within in
    let spelled : bytes_eq k.0 (take (length k.0) s) ≡ true = subst (λ m. bytes_eq k.0 (take m s) ≡ true) (sym same) e in
    let longer : nat_lt len (length k.0) ≡ true = less_true len (length k.0) (omega arith) in
    let held : not (nat_lt len (length k.0) && bytes_eq k.0 (take (length k.0) s)) ≡ false = rw (longer, spelled) refl in
    absurd (cc)

none_longer : (ks : List Row) (len n : ℕ) (s : Text) → list_all (leaves len s) ks ≡ true → len < n → n ≤ length s → lookup ks (take n s) ≡ None
none_longer [] len n s leave over within = refl
none_longer (k ∷ ks) len n s leave over within =
    let h = both (leaves len s k) (list_all (leaves len s) ks) leave in
    rw (row_leaves len n s k h.0 over within (bytes_eq k.0 (take n s)) refl) (none_longer ks len n s h.1 over within)

more_than_one : (n : ℕ) → 1 < n → (n == 1) ≡ false
more_than_one n h = grind (arith, nat_tests)

row_longest : (text rest : Text) (what : Lexeme) → 0 < length text → lookup symbols text ≡ Some what → no_longer_row text rest ≡ true → IsLongest symbol_of (text ++ rest) what (length text)
row_longest text rest what pos row none = record {
  some = pos;
  within = omega (arith, length-append text rest);
  spelled = rw (take_all text rest, row) refl;
  longest = λ n over within.
      let many : 1 < n = omega arith in
      rw (none_longer symbols (length text) n (text ++ rest) none over within, length-take-le n (text ++ rest) within, more_than_one n many) refl;
}

other_read : (operand : Bool) (text rest : Text) (what : Lexeme) → lookup symbols text ≡ Some what → nat_lt 0 (length text) ≡ true → front_of (slice_index (text ++ rest) 0) ≡ front.Other → no_longer_row text rest ≡ true → IsRead operand text rest what
other_read operand text rest what row some fronted none =
    let pos : 0 < length text = grind (arith, nat_tests) in
    between_longest operand front.Other (text ++ rest) what (length text) (sym fronted) (row_longest text rest what pos row none)

minus_read : (operand : Bool) (more rest : Text) (what : Lexeme) → lookup symbols (45 ∷ more) ≡ Some what → front_of 45 ≡ front.Minus → no_longer_row (45 ∷ more) rest ≡ true
    → (not operand && is_ascii_digit (slice_index (more ++ rest) 0)) ≡ false → IsRead operand (45 ∷ more) rest what
minus_read operand more rest what row fronted none apart =
    let pos : 0 < length (45 ∷ more) = omega arith in
    between_longest operand front.Minus (45 ∷ more ++ rest) what (length (45 ∷ more)) (sym fronted)
    (minus_symbol operand (45 ∷ more ++ rest) what (length (45 ∷ more)) apart (row_longest (45 ∷ more) rest what pos row none))

pub line_end_read : (operand : Bool) (rest : Text) → IsRead operand (codes "\n") rest lexeme.LineEnd
unfolding symbols front_of is_in
line_end_read operand rest = other_read operand (codes "\n") rest lexeme.LineEnd refl refl refl refl

pub quote_read : (operand : Bool) (q : Quotes) (rest : Text) → no_longer_row (quote_text q) rest ≡ true → IsRead operand (quote_text q) rest (lexeme.Open (quote_of q))
unfolding symbols front_of is_in
quote_read operand quotes.Single rest e = other_read operand (codes "'") rest (lexeme.Open (quote_of quotes.Single)) refl refl refl e
quote_read operand quotes.Double rest e = other_read operand (codes "\"") rest (lexeme.Open (quote_of quotes.Double)) refl refl refl e

pub symbol_read : (operand : Bool) (s : Symbol) (rest : Text) → symbol_ends operand s rest ≡ true → IsRead operand (symbol_text s) rest (lexeme.Symbol s)
unfolding symbols front_of is_in
symbol_read operand symbol.LeftParen rest e = other_read operand (codes "(") rest (lexeme.Symbol symbol.LeftParen) refl refl refl e
symbol_read operand symbol.RightParen rest e = other_read operand (codes ")") rest (lexeme.Symbol symbol.RightParen) refl refl refl e
symbol_read operand symbol.LeftBracket rest e = other_read operand (codes "[") rest (lexeme.Symbol symbol.LeftBracket) refl refl refl e
symbol_read operand symbol.RightBracket rest e = other_read operand (codes "]") rest (lexeme.Symbol symbol.RightBracket) refl refl refl e
symbol_read operand symbol.LeftBrace rest e = other_read operand (codes "{") rest (lexeme.Symbol symbol.LeftBrace) refl refl refl e
symbol_read operand symbol.RightBrace rest e = other_read operand (codes "}") rest (lexeme.Symbol symbol.RightBrace) refl refl refl e
symbol_read operand symbol.Comma rest e = other_read operand (codes ",") rest (lexeme.Symbol symbol.Comma) refl refl refl e
symbol_read operand symbol.Semicolon rest e = other_read operand (codes ";") rest (lexeme.Symbol symbol.Semicolon) refl refl refl e
symbol_read operand symbol.Colon rest e = other_read operand (codes ":") rest (lexeme.Symbol symbol.Colon) refl refl refl e
symbol_read operand symbol.Dot rest e = other_read operand (codes ".") rest (lexeme.Symbol symbol.Dot) refl refl refl e
symbol_read operand symbol.SafeDot rest e = other_read operand (codes "?.") rest (lexeme.Symbol symbol.SafeDot) refl refl refl e
symbol_read operand symbol.SpreadDot rest e = other_read operand (codes "*.") rest (lexeme.Symbol symbol.SpreadDot) refl refl refl e
symbol_read operand symbol.MethodPointer rest e = other_read operand (codes ".&") rest (lexeme.Symbol symbol.MethodPointer) refl refl refl e
symbol_read operand symbol.FieldDot rest e = other_read operand (codes ".@") rest (lexeme.Symbol symbol.FieldDot) refl refl refl e
symbol_read operand symbol.DotStar rest e = other_read operand (codes ".*") rest (lexeme.Symbol symbol.DotStar) refl refl refl e
symbol_read operand symbol.Range rest e = other_read operand (codes "..") rest (lexeme.Symbol symbol.Range) refl refl refl e
symbol_read operand symbol.HalfOpenRange rest e = other_read operand (codes "..<") rest (lexeme.Symbol symbol.HalfOpenRange) refl refl refl e
symbol_read operand symbol.Ellipsis rest e = other_read operand (codes "...") rest (lexeme.Symbol symbol.Ellipsis) refl refl refl e
symbol_read operand symbol.Arrow rest e = minus_read operand (codes ">") rest (lexeme.Symbol symbol.Arrow) refl refl e (and-false (not operand))
symbol_read operand symbol.Question rest e = other_read operand (codes "?") rest (lexeme.Symbol symbol.Question) refl refl refl e
symbol_read operand symbol.Elvis rest e = other_read operand (codes "?:") rest (lexeme.Symbol symbol.Elvis) refl refl refl e
symbol_read operand symbol.Not rest e = other_read operand (codes "!") rest (lexeme.Symbol symbol.Not) refl refl refl e
symbol_read operand symbol.Plus rest e = other_read operand (codes "+") rest (lexeme.Symbol symbol.Plus) refl refl refl e
symbol_read operand symbol.Minus rest e = minus_read operand [] rest (lexeme.Symbol symbol.Minus) refl refl (both _ _ e).1 (not_true _ (both _ _ e).0)
symbol_read operand symbol.Star rest e = other_read operand (codes "*") rest (lexeme.Symbol symbol.Star) refl refl refl e
symbol_read operand symbol.Percent rest e = other_read operand (codes "%") rest (lexeme.Symbol symbol.Percent) refl refl refl e
symbol_read operand symbol.Increment rest e = other_read operand (codes "++") rest (lexeme.Symbol symbol.Increment) refl refl refl e
symbol_read operand symbol.Decrement rest e = minus_read operand (codes "-") rest (lexeme.Symbol symbol.Decrement) refl refl e (and-false (not operand))
symbol_read operand symbol.ShiftLeft rest e = other_read operand (codes "<<") rest (lexeme.Symbol symbol.ShiftLeft) refl refl refl e
symbol_read operand symbol.ShiftRight rest e = other_read operand (codes ">>") rest (lexeme.Symbol symbol.ShiftRight) refl refl refl e
symbol_read operand symbol.ShiftRightUnsigned rest e = other_read operand (codes ">>>") rest (lexeme.Symbol symbol.ShiftRightUnsigned) refl refl refl e
symbol_read operand symbol.Less rest e = other_read operand (codes "<") rest (lexeme.Symbol symbol.Less) refl refl refl e
symbol_read operand symbol.LessEqual rest e = other_read operand (codes "<=") rest (lexeme.Symbol symbol.LessEqual) refl refl refl e
symbol_read operand symbol.Greater rest e = other_read operand (codes ">") rest (lexeme.Symbol symbol.Greater) refl refl refl e
symbol_read operand symbol.GreaterEqual rest e = other_read operand (codes ">=") rest (lexeme.Symbol symbol.GreaterEqual) refl refl refl e
symbol_read operand symbol.Spaceship rest e = other_read operand (codes "<=>") rest (lexeme.Symbol symbol.Spaceship) refl refl refl e
symbol_read operand symbol.Equal rest e = other_read operand (codes "==") rest (lexeme.Symbol symbol.Equal) refl refl refl e
symbol_read operand symbol.NotEqual rest e = other_read operand (codes "!=") rest (lexeme.Symbol symbol.NotEqual) refl refl refl e
symbol_read operand symbol.Ampersand rest e = other_read operand (codes "&") rest (lexeme.Symbol symbol.Ampersand) refl refl refl e
symbol_read operand symbol.Bar rest e = other_read operand (codes "|") rest (lexeme.Symbol symbol.Bar) refl refl refl e
symbol_read operand symbol.Caret rest e = other_read operand (codes "^") rest (lexeme.Symbol symbol.Caret) refl refl refl e
symbol_read operand symbol.And rest e = other_read operand (codes "&&") rest (lexeme.Symbol symbol.And) refl refl refl e
symbol_read operand symbol.Or rest e = other_read operand (codes "||") rest (lexeme.Symbol symbol.Or) refl refl refl e
symbol_read operand symbol.Assign rest e = other_read operand (codes "=") rest (lexeme.Symbol symbol.Assign) refl refl refl e
symbol_read operand symbol.PlusAssign rest e = other_read operand (codes "+=") rest (lexeme.Symbol symbol.PlusAssign) refl refl refl e
symbol_read operand symbol.MinusAssign rest e = minus_read operand (codes "=") rest (lexeme.Symbol symbol.MinusAssign) refl refl e (and-false (not operand))
symbol_read operand symbol.StarAssign rest e = other_read operand (codes "*=") rest (lexeme.Symbol symbol.StarAssign) refl refl refl e
symbol_read operand symbol.PercentAssign rest e = other_read operand (codes "%=") rest (lexeme.Symbol symbol.PercentAssign) refl refl refl e
symbol_read operand symbol.ShiftLeftAssign rest e = other_read operand (codes "<<=") rest (lexeme.Symbol symbol.ShiftLeftAssign) refl refl refl e
symbol_read operand symbol.ShiftRightAssign rest e = other_read operand (codes ">>=") rest (lexeme.Symbol symbol.ShiftRightAssign) refl refl refl e
symbol_read operand symbol.ShiftRightUnsignedAssign rest e = other_read operand (codes ">>>=") rest (lexeme.Symbol symbol.ShiftRightUnsignedAssign) refl refl refl e
symbol_read operand symbol.AmpersandAssign rest e = other_read operand (codes "&=") rest (lexeme.Symbol symbol.AmpersandAssign) refl refl refl e
symbol_read operand symbol.BarAssign rest e = other_read operand (codes "|=") rest (lexeme.Symbol symbol.BarAssign) refl refl refl e
symbol_read operand symbol.CaretAssign rest e = other_read operand (codes "^=") rest (lexeme.Symbol symbol.CaretAssign) refl refl refl e
symbol_read operand symbol.At rest e = other_read operand (codes "@") rest (lexeme.Symbol symbol.At) refl refl refl e
symbol_read operand symbol.SpreadColon rest e = other_read operand (codes "*:") rest (lexeme.Symbol symbol.SpreadColon) refl refl refl e
symbol_read operand symbol.Slash rest e = absurd (cc)
symbol_read operand symbol.SlashAssign rest e = absurd (cc)
symbol_read operand symbol.Power rest e = other_read operand (codes "**") rest (lexeme.Symbol symbol.Power) refl refl refl e
symbol_read operand symbol.PowerAssign rest e = other_read operand (codes "**=") rest (lexeme.Symbol symbol.PowerAssign) refl refl refl e
symbol_read operand symbol.Tilde rest e = other_read operand (codes "~") rest (lexeme.Symbol symbol.Tilde) refl refl refl e
symbol_read operand symbol.Find rest e = other_read operand (codes "=~") rest (lexeme.Symbol symbol.Find) refl refl refl e
symbol_read operand symbol.Match rest e = other_read operand (codes "==~") rest (lexeme.Symbol symbol.Match) refl refl refl e
symbol_read operand symbol.Identical rest e = other_read operand (codes "===") rest (lexeme.Symbol symbol.Identical) refl refl refl e
