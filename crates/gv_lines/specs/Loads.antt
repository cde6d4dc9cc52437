-- Loads: how much is open and waits at a token, and the first token where that is too much. Line ends that don't count are gone here.
use Rattle.std.specs.Prelude.{ℕ, suc, ◌+◌, Bool, true, false, not, nat_lt, List, [], ◌∷◌, Option, Some, None, if◌then◌else◌}
use Rattle.std.specs.List.{sum_by}
use Rattle.gv_spelling.specs.declared.kinds.Keyword.{Keyword}
use Rattle.gv_spelling.specs.declared.kinds.Keyword.TheVariants as keyword
use Rattle.gv_spelling.specs.declared.kinds.Symbol.{Symbol}
use Rattle.gv_spelling.specs.declared.kinds.Symbol.TheVariants as symbol
use Rattle.gv_lex.specs.declared.token.Piece.TheVariants as piece
use Rattle.gv_lex.specs.declared.token.Token.{Token}
use Rattle.gv_lex.specs.declared.token.TokenKind.{TokenKind}
use Rattle.gv_lex.specs.declared.token.TokenKind.TheVariants as kind
use Rattle.gv_lex.specs.declared.token.Word.TheVariants as word
use Rattle.gv_lines.specs.declared.loads.Before.{Before}
use Rattle.gv_lines.specs.declared.loads.Before.TheVariants.{Operand, HeadEnd, HeadWord, Dot, Other}
use Rattle.gv_lines.specs.declared.loads.Level.{Level}
use Rattle.gv_lines.specs.declared.loads.TheConstants.{MOST_LOAD}

-- the load of a token that stands in the first of these levels (`Level` is of loads.rt)
abbrev pub load_of : List Level → ℕ
load_of levels = sum_by (λ (l : Level). l.base + l.count) levels

-- ---- what counts

abbrev pub follows_operand : Before → Bool
follows_operand Operand = true
follows_operand HeadEnd = true
follows_operand before = false

abbrev pub symbol_counts : Symbol → Bool
symbol_counts symbol.Comma = false
symbol_counts symbol.Semicolon = false
symbol_counts symbol.RightParen = false
symbol_counts symbol.RightBracket = false
symbol_counts symbol.RightBrace = false
symbol_counts s = true

-- a name, a literal and a string count behind an operand alone
abbrev pub counts : Before → TokenKind → Bool
counts before (kind.Word word.Name n) = follows_operand before
counts before (kind.Word word.TypeName n) = follows_operand before
counts before (kind.Word w n) = true
counts before (kind.Int z) = follows_operand before
counts before (kind.Long z) = follows_operand before
counts before (kind.Symbol s) = symbol_counts s
counts before (kind.Text piece.Whole n) = follows_operand before
counts before (kind.Text (piece.Head p) n) = follows_operand before
counts before (kind.Text p n) = false
counts before kind.LineEnd = false
counts before kind.End = false

-- a line end between the head of a loop or an `if` and its body begins nothing anew
abbrev pub line_resets : Before → Bool
line_resets HeadEnd = false
line_resets before = true

-- a comma begins the count anew in a list alone
abbrev pub resets : Level → TokenKind → Bool
resets l (kind.Symbol symbol.Comma) = l.list
resets l (kind.Symbol symbol.Semicolon) = true
resets l kind.LineEnd = line_resets l.before
resets l k = false

abbrev pub of_keyword : Before → Keyword → Before
of_keyword Dot k = Other
of_keyword before keyword.If = HeadWord
of_keyword before keyword.While = HeadWord
of_keyword before keyword.For = HeadWord
of_keyword before k = Other

abbrev pub of_symbol : Symbol → Before
of_symbol symbol.RightParen = Operand
of_symbol symbol.RightBracket = Operand
of_symbol symbol.RightBrace = Operand
of_symbol symbol.Dot = Dot
of_symbol symbol.SafeDot = Dot
of_symbol symbol.SpreadDot = Dot
of_symbol symbol.MethodPointer = Dot
of_symbol s = Other

abbrev pub before_behind : Before → TokenKind → Before
before_behind before (kind.Word word.Name n) = Operand
before_behind before (kind.Word word.TypeName n) = Operand
before_behind before (kind.Word (word.Keyword k) n) = of_keyword before k
before_behind before (kind.Word w n) = Other
before_behind before (kind.Int z) = Operand
before_behind before (kind.Long z) = Operand
before_behind before (kind.Symbol s) = of_symbol s
before_behind before (kind.Text p n) = Operand
before_behind before kind.LineEnd = Other
before_behind before kind.End = Other

-- the level behind a token that stands in it
abbrev pub counted : Level → TokenKind → Level
counted l k = record l {
  count = if resets l k then 0 else if counts l.before k then suc l.count else l.count;
  before = before_behind l.before k;
}

-- ---- levels

abbrev pub new_level : Level
new_level = record { base = 0; count = 0; before = Other; list = false; head = false; part = false }

abbrev pub list_level : Bool → Level
list_level head = record new_level { list = not head; head = head }

abbrev pub part_level : Level
part_level = record new_level { base = 1; part = true }

abbrev pub is_head_word : Before → Bool
is_head_word HeadWord = true
is_head_word before = false

-- the level around a bracket that closes, behind it
abbrev pub behind_close : Bool → List Level → List Level
behind_close head [] = []
behind_close head (l ∷ levels) = record l { before = if head then HeadEnd else Operand } ∷ levels

-- A closing bracket takes away the innermost level of its own list, of whatever form; where it has none it stands for itself.
abbrev pub closed : Level → List Level → List Level
closed l [] = record l { before = Operand } ∷ []
closed l (m ∷ levels) = if l.part then record l { before = Operand } ∷ m ∷ levels else behind_close l.head (m ∷ levels)

-- the end of a part takes away the part and what is open in it
abbrev pub part_ended : List Level → List Level
part_ended [] = []
part_ended (l ∷ []) = l ∷ []
part_ended (l ∷ m ∷ levels) = if l.part then m ∷ levels else part_ended (m ∷ levels)

-- the levels around the next token, where this one, counted already, stands in the first of these
abbrev pub levels_behind : Before → Level → List Level → TokenKind → List Level
levels_behind before l levels (kind.Symbol symbol.LeftParen) = list_level (is_head_word before) ∷ l ∷ levels
levels_behind before l levels (kind.Symbol symbol.LeftBracket) = list_level false ∷ l ∷ levels
levels_behind before l levels (kind.Symbol symbol.LeftBrace) = new_level ∷ l ∷ levels
levels_behind before l levels (kind.Symbol symbol.RightParen) = closed l levels
levels_behind before l levels (kind.Symbol symbol.RightBracket) = closed l levels
levels_behind before l levels (kind.Symbol symbol.RightBrace) = closed l levels
levels_behind before l levels (kind.Text (piece.Head p) n) = part_level ∷ l ∷ levels
levels_behind before l levels (kind.Text (piece.Middle p) n) = part_level ∷ l ∷ levels
levels_behind before l levels kind.End = part_ended (l ∷ levels)
levels_behind before l levels k = l ∷ levels

-- the first token whose load is too much
abbrev pub too_deep_from : List Level → List Token → Option Token
too_deep_from levels [] = None
too_deep_from [] (t ∷ ts) = None
too_deep_from (l ∷ levels) (t ∷ ts) =
    if nat_lt MOST_LOAD (load_of (counted l t.kind ∷ levels)) then Some t
    else too_deep_from (levels_behind l.before (counted l t.kind) levels t.kind) ts

abbrev pub start : List Level
start = new_level ∷ []

abbrev pub too_deep : List Token → Option Token
too_deep ts = too_deep_from start ts
