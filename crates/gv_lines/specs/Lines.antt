-- Line ends: which of those of a token list count.
use Rattle.std.specs.Prelude.{Bool, true, false, ◌||◌, ◌&&◌, List, [], ◌∷◌, ◌++◌, Option, Some, None, if◌then◌else◌}
use Rattle.std.specs.Option.{option_to_list}
use Rattle.gv_spelling.specs.declared.kinds.Keyword.{Keyword}
use Rattle.gv_spelling.specs.declared.kinds.Keyword.TheVariants as keyword
use Rattle.gv_spelling.specs.declared.kinds.Symbol.{Symbol}
use Rattle.gv_spelling.specs.declared.kinds.Symbol.TheVariants as symbol
use Rattle.gv_lex.specs.declared.token.Piece.TheVariants as piece
use Rattle.gv_lex.specs.declared.token.Token.{Token}
use Rattle.gv_lex.specs.declared.token.TokenKind.{TokenKind}
use Rattle.gv_lex.specs.declared.token.TokenKind.TheVariants as kind
use Rattle.gv_lex.specs.declared.token.Word.TheVariants as word
use Rattle.gv_lines.specs.declared.lines.Level.{Level}
use Rattle.gv_lines.specs.declared.lines.Level.TheVariants.{Parens, Brackets, Braces, Part}

-- ---- what is open around a place, the innermost first

-- in parentheses and brackets no line end counts
abbrev pub counts_in : List Level → Bool
counts_in (Parens ∷ levels) = false
counts_in (Brackets ∷ levels) = false
counts_in levels = true

-- a closing bracket takes away the innermost bracket of its own list of tokens
abbrev pub behind_bracket : List Level → List Level
behind_bracket [] = []
behind_bracket (Part ∷ levels) = Part ∷ levels
behind_bracket (l ∷ levels) = levels

-- the end of a part takes away the part and what is open in it
abbrev pub behind_part : List Level → List Level
behind_part [] = []
behind_part (Part ∷ levels) = levels
behind_part (l ∷ levels) = behind_part levels

-- what is open behind a token
abbrev pub levels_behind : List Level → TokenKind → List Level
levels_behind levels (kind.Symbol symbol.LeftParen) = Parens ∷ levels
levels_behind levels (kind.Symbol symbol.LeftBracket) = Brackets ∷ levels
levels_behind levels (kind.Symbol symbol.LeftBrace) = Braces ∷ levels
levels_behind levels (kind.Symbol symbol.RightParen) = behind_bracket levels
levels_behind levels (kind.Symbol symbol.RightBracket) = behind_bracket levels
levels_behind levels (kind.Symbol symbol.RightBrace) = behind_bracket levels
levels_behind levels (kind.Text (piece.Head p) n) = Part ∷ levels
levels_behind levels (kind.Text (piece.Middle p) n) = Part ∷ levels
levels_behind levels kind.End = behind_part levels
levels_behind levels other = levels

-- ---- what stands before a line end

-- a symbol behind which a line end may count
abbrev pub symbol_may_end : Symbol → Bool
symbol_may_end symbol.RightParen = true
symbol_may_end symbol.RightBracket = true
symbol_may_end symbol.RightBrace = true
symbol_may_end symbol.Increment = true
symbol_may_end symbol.Decrement = true
symbol_may_end symbol.DotStar = true
symbol_may_end s = false

abbrev pub keyword_may_end : Keyword → Bool
keyword_may_end keyword.Else = false
keyword_may_end keyword.Try = false
keyword_may_end keyword.Finally = false
keyword_may_end keyword.In = false
keyword_may_end keyword.InstanceOf = false
keyword_may_end keyword.As = false
keyword_may_end keyword.Extends = false
keyword_may_end keyword.Implements = false
keyword_may_end k = true

-- the token before names a member with the word that follows it
abbrev pub names_member : TokenKind → Bool
names_member (kind.Symbol symbol.Dot) = true
names_member (kind.Symbol symbol.SafeDot) = true
names_member (kind.Symbol symbol.SpreadDot) = true
names_member (kind.Symbol symbol.MethodPointer) = true
names_member other = false

-- A line end may count behind a token. A keyword that is a member's name is as any name.
abbrev pub may_end : TokenKind → TokenKind → Bool
may_end before (kind.Symbol s) = symbol_may_end s
may_end before (kind.Word (word.Keyword k) n) = names_member before || keyword_may_end k
may_end before (kind.Text (piece.Head p) n) = false
may_end before (kind.Text (piece.Middle p) n) = false
may_end before other = true

-- ---- what stands behind a line end

abbrev pub keyword_may_begin : Keyword → Bool
keyword_may_begin keyword.Else = false
keyword_may_begin keyword.Catch = false
keyword_may_begin keyword.Finally = false
keyword_may_begin k = true

-- a line end may count before a token
abbrev pub may_begin : TokenKind → Bool
may_begin (kind.Symbol symbol.Dot) = false
may_begin (kind.Symbol symbol.SafeDot) = false
may_begin (kind.Symbol symbol.SpreadDot) = false
may_begin (kind.Symbol symbol.MethodPointer) = false
may_begin (kind.Symbol symbol.FieldDot) = false
may_begin (kind.Symbol symbol.RightBrace) = false
may_begin (kind.Word (word.Keyword k) n) = keyword_may_begin k
may_begin kind.End = false
may_begin other = true

-- ---- the line ends that count

-- what is known at a place: what is open, the last two tokens that aren't line ends, and the first line end since them
pub record Line : Type 0 where
  pub levels : List Level
  pub before : TokenKind
  pub last : Option TokenKind
  pub waiting : Option Token

abbrev pub last_may_end : TokenKind → Option TokenKind → Bool
last_may_end before None = false
last_may_end before (Some last) = may_end before last

-- the line end that waits, where it counts before a token
abbrev pub counted : Line → TokenKind → Option Token
counted l k = if counts_in l.levels && last_may_end l.before l.last && may_begin k then l.waiting else None

abbrev pub kind_or_end : Option TokenKind → TokenKind
kind_or_end None = kind.End
kind_or_end (Some k) = k

abbrev pub line_behind : Line → TokenKind → Line
line_behind l k = record { levels = levels_behind l.levels k; before = kind_or_end l.last; last = Some k; waiting = None }

abbrev pub first_waiting : Option Token → Token → Token
first_waiting None t = t
first_waiting (Some first) t = first

abbrev pub with_waiting : Line → Token → Line
with_waiting l t = record l { waiting = Some (first_waiting l.waiting t) }

abbrev pub is_line_end : TokenKind → Bool
is_line_end kind.LineEnd = true
is_line_end other = false

-- tokens without the line ends that don't count; of several in a row the first stands for all
abbrev pub kept_from : Line → List Token → List Token
kept_from l [] = []
kept_from l (t ∷ ts) = if is_line_end t.kind then kept_from (with_waiting l t) ts else option_to_list (counted l t.kind) ++ t ∷ kept_from (line_behind l t.kind) ts

abbrev pub start : Line
start = record { levels = []; before = kind.End; last = None; waiting = None }

abbrev pub kept : List Token → List Token
kept ts = kept_from start ts
