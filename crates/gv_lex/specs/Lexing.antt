-- How a text is spelled in tokens, or its first refusal.
-- The codes: 10 LF, 13 CR, 33 `!`, 35 `#`, 46 `.`, 0xFEFF the byte order mark.
use Rattle.std.specs.Prelude.{ℕ, zero, suc, ◌-◌, ◌==◌, ◌&&◌, Bool, true, false, List, [], ◌∷◌, ◌++◌, length, take, drop, slice_index, encode_utf8, Option, Some, None, unwrap_or, Result, Ok, Err, if◌then◌else◌}
use Rattle.std.specs.Char.{is_ascii_uppercase}
use Rattle.std.specs.List.{flat_map, prefix_len}
use Rattle.std.specs.Option.{option_map_or}
use Rattle.std.specs.Str.{chars, is_utf8}
use Rattle.std.specs.Str.Lossy.{utf8_valid_len}
use Rattle.gv_base.specs.declared.refusal.Place.{Place}
use Rattle.gv_base.specs.declared.refusal.Refusal.{Refusal}
use Rattle.gv_base.specs.declared.refusal.RefusalKind.{RefusalKind}
use Rattle.gv_base.specs.declared.refusal.RefusalKind.TheVariants as refused
use Rattle.gv_spelling.specs.Table.{Text, is_in, word_of, between, inside}
use Rattle.gv_spelling.specs.declared.classes.Class.TheVariants as class
use Rattle.gv_spelling.specs.declared.kinds.Fault.{Fault}
use Rattle.gv_spelling.specs.declared.kinds.Fault.TheVariants as fault
use Rattle.gv_spelling.specs.declared.kinds.Keyword.TheVariants as keyword
use Rattle.gv_spelling.specs.declared.kinds.Lexeme.{Lexeme}
use Rattle.gv_spelling.specs.declared.kinds.Lexeme.TheVariants as lexeme
use Rattle.gv_spelling.specs.declared.kinds.Quote.{Quote}
use Rattle.gv_spelling.specs.declared.kinds.Symbol.{Symbol}
use Rattle.gv_spelling.specs.declared.kinds.Symbol.TheVariants as symbol
use Rattle.gv_spelling.specs.declared.kinds.Unit.{Unit}
use Rattle.gv_spelling.specs.declared.kinds.Unit.TheVariants as unit
use Rattle.gv_lex.specs.declared.open.Here.{Here}
use Rattle.gv_lex.specs.declared.open.Here.TheVariants.{Between, Inside}
use Rattle.gv_lex.specs.declared.open.Open.{Open}
use Rattle.gv_lex.specs.declared.open.Open.TheVariants as opened
use Rattle.gv_lex.specs.declared.open.OpenPart.{OpenPart}
use Rattle.gv_lex.specs.declared.open.OpenText.{OpenText}
use Rattle.gv_lex.specs.declared.token.Part.{Part}
use Rattle.gv_lex.specs.declared.token.Part.TheVariants.{Braces, Path}
use Rattle.gv_lex.specs.declared.token.Piece.{Piece}
use Rattle.gv_lex.specs.declared.token.Piece.TheVariants as piece
use Rattle.gv_lex.specs.declared.token.Word.{Word}
use Rattle.gv_lex.specs.declared.token.Word.TheVariants as word
use Rattle.gv_lex.specs.Places.{file_start, next_column, past, first_of}
use Rattle.gv_lex.specs.Tokens.{What, Spelled}
use Rattle.gv_lex.specs.Tokens as what

-- ---- what is known at a place

pub record State : Type 0 where
  -- the braces and parts of strings around the place, the innermost first
  pub around : List Open
  pub here : Here
  -- the open string's text since its last part, in UTF-8
  pub so_far : List ℕ
  -- whether the token before ends an operand
  pub operand : Bool
  pub place : Place

-- what a spelling does: its tokens, what is refused of it, and what is known behind it
pub record Act : Type 0 where
  pub tokens : List Spelled
  pub refused : Option Refusal
  pub state : State

-- a spelling that is passed over
abbrev pub skips : State → Act
skips s = record { tokens = []; refused = None; state = s }

abbrev pub refuses : State → Refusal → Act
refuses s r = record { tokens = []; refused = Some r; state = s }

abbrev pub spelled : Place → What → Spelled
spelled place what = record { what = what; place = place }

-- a token, and whether it ends an operand
abbrev pub puts : State → What → Bool → Act
puts s what operand = record { tokens = spelled s.place what ∷ []; refused = None; state = record s { operand = operand } }

-- ---- words

abbrev pub utf8 : Text → List ℕ
utf8 text = flat_map encode_utf8 text

-- which word a spelling is, from what the table of spellings has for it
abbrev pub as_word : Text → Lexeme → Word
as_word text (lexeme.Keyword k) = word.Keyword k
as_word text (lexeme.RefusedWord r) = word.Refused r
as_word text other = if is_ascii_uppercase (slice_index text 0) then word.TypeName else word.Name

abbrev pub ends_operand : Word → Bool
ends_operand (word.Keyword keyword.This) = true
ends_operand (word.Keyword keyword.Super) = true
ends_operand (word.Keyword keyword.Null) = true
ends_operand (word.Keyword keyword.True) = true
ends_operand (word.Keyword keyword.False) = true
ends_operand (word.Keyword k) = false
ends_operand (word.Refused r) = false
ends_operand other = true

abbrev pub puts_word : State → Text → Word → Act
puts_word s text w = puts s (what.word w (utf8 text)) (ends_operand w)

-- ---- symbols

abbrev pub symbol_ends_operand : Symbol → Bool
symbol_ends_operand symbol.RightParen = true
symbol_ends_operand symbol.RightBracket = true
symbol_ends_operand symbol.RightBrace = true
symbol_ends_operand symbol.Increment = true
symbol_ends_operand symbol.Decrement = true
symbol_ends_operand s = false

abbrev pub puts_symbol : State → Symbol → Act
puts_symbol s x = puts s (what.symbol x) (symbol_ends_operand x)

-- a string goes on behind its part
abbrev pub ends_part : State → OpenPart → Act
ends_part s p = record {
  tokens = spelled s.place what.end ∷ [];
  refused = None;
  state = record s { here = Inside (record { quote = p.quote; start = p.start; behind = Some (next_column s.place) }) };
}

-- a `}` closes the innermost `{`, or ends a part of a string where none is open in it
abbrev pub closes : State → List Open → Act
closes s [] = puts_symbol s symbol.RightBrace
closes s (opened.Brace ∷ around) = puts_symbol (record s { around = around }) symbol.RightBrace
closes s (opened.Part p ∷ around) = ends_part (record s { around = around }) p

abbrev pub act_symbol : State → Symbol → Act
act_symbol s symbol.LeftBrace = puts_symbol (record s { around = opened.Brace ∷ s.around }) symbol.LeftBrace
act_symbol s symbol.RightBrace = closes s s.around
act_symbol s x = puts_symbol s x

-- ---- between strings

abbrev pub refusal : Place → RefusalKind → Refusal
refusal place kind = record { kind = kind; place = place }

-- a number behind its sign is refused at its first digit
abbrev pub fault_refusal : Place → Fault → Refusal
fault_refusal place fault.Comment = refusal place refused.UnendedComment
fault_refusal place fault.Number = refusal place refused.BadNumber
fault_refusal place fault.SignedNumber = refusal (next_column place) refused.BadNumber
fault_refusal place fault.Past = refusal place refused.LiteralPast64Bits
fault_refusal place fault.Slashy = refusal place refused.SlashyString
fault_refusal place fault.Stray = refusal place refused.StrayCharacter

abbrev pub begins_text : State → Quote → Act
begins_text s q = skips (record s { here = Inside (record { quote = q; start = s.place; behind = None }) })

abbrev pub act_between : State → Text → Lexeme → Act
act_between s text lexeme.Space = skips s
act_between s text lexeme.LineEnd = puts s what.line_end false
act_between s text (lexeme.Int z) = puts s (what.int z) true
act_between s text (lexeme.Long z) = puts s (what.long z) true
act_between s text (lexeme.Symbol x) = act_symbol s x
act_between s text (lexeme.Open q) = begins_text s q
act_between s text (lexeme.Fault f) = refuses s (fault_refusal s.place f)
act_between s text w = puts_word s text (as_word text w)

-- ---- inside strings

-- the piece that ends here: a part follows it, or the string ends
abbrev pub piece_before : OpenText → Option Part → Piece
piece_before t (Some p) = option_map_or (λ _. piece.Middle p) t.behind (piece.Head p)
piece_before t None = option_map_or (λ _. piece.Tail) t.behind piece.Whole

-- a string's first piece stands at the string's start
abbrev pub piece_token : State → OpenText → Option Part → Spelled
piece_token s t part = spelled (unwrap_or t.behind t.start) (what.text (piece_before t part) s.so_far)

abbrev pub ends_text : State → OpenText → Bool → Option Refusal → Act
ends_text s t operand refused = record { tokens = piece_token s t None ∷ []; refused = refused; state = record s { here = Between; so_far = []; operand = operand } }

abbrev pub begins_part : State → OpenText → Act
begins_part s t = record {
  tokens = piece_token s t (Some Braces) ∷ [];
  refused = None;
  state = record s { around = opened.Part (record { quote = t.quote; start = t.start; dollar = s.place }) ∷ s.around; here = Between; so_far = []; operand = false };
}

abbrev pub with_first : ℕ → List Text → List Text
with_first c [] = (c ∷ []) ∷ []
with_first c (w ∷ ws) = (c ∷ w) ∷ ws

-- the words between the dots
abbrev pub words_of : Text → List Text
words_of [] = [] ∷ []
words_of (c ∷ s) = if c == 46 then [] ∷ words_of s else with_first c (words_of s)

abbrev pub path_word : Place → Text → Spelled
path_word place w = spelled place (what.word (as_word w (word_of w)) (utf8 w))

-- words with a dot between each two, from a place on
abbrev pub path_tokens : Place → List Text → List Spelled
path_tokens place [] = []
path_tokens place (w ∷ []) = path_word place w ∷ []
path_tokens place (w ∷ ws) = path_word place w ∷ spelled (past place w) (what.symbol symbol.Dot) ∷ path_tokens (next_column (past place w)) ws

-- `$a.b` is a part by itself
abbrev pub puts_path : State → OpenText → Text → Act
puts_path s t text = record {
  tokens = piece_token s t (Some Path) ∷ (path_tokens (next_column s.place) (words_of (drop 1 text)) ++ spelled (past s.place text) what.end ∷ []);
  refused = None;
  state = record s { here = Inside (record t { behind = Some (past s.place text) }); so_far = [] };
}

abbrev pub act_inside : State → OpenText → Text → Unit → Act
act_inside s t text (unit.Char c) = skips (record s { so_far = s.so_far ++ encode_utf8 c })
act_inside s t text unit.Join = skips s
act_inside s t text unit.Close = ends_text s t true None
act_inside s t text unit.Unended = ends_text s t false (Some (refusal t.start refused.UnendedString))
act_inside s t text unit.Part = begins_part s t
act_inside s t text unit.Path = puts_path s t text
act_inside s t text unit.BadEscape = refuses s (refusal s.place refused.BadEscape)
act_inside s t text unit.LoneDollar = refuses s (refusal s.place refused.UnendedInterpolation)

-- ---- the text, spelling by spelling

-- the longest of the first n prefixes that is a spelling, and what it stands for
abbrev pub longest_to : {A : Type 0} → (Text → Option A) → Text → ℕ → Option (A × ℕ)
longest_to spells text zero = None
longest_to spells text (suc n) = option_map_or (λ what. Some (what, suc n)) (spells (take (suc n) text)) (longest_to spells text n)

abbrev pub longest : {A : Type 0} → (Text → Option A) → Text → Option (A × ℕ)
longest spells text = longest_to spells text (length text)

-- how long the next spelling is, and what it does
pub record Turn : Type 0 where
  pub len : ℕ
  pub act : Act

-- the place behind a spelling
abbrev pub behind : State → Text → Act → Act
behind s text a = record a { state = record a.state { place = past s.place text } }

-- Each text that isn't empty begins with a spelling, so the last case doesn't come.
abbrev pub turn_by : {A : Type 0} → State → Text → (Text → A → Act) → Option (A × ℕ) → Turn
turn_by s text act (Some l) = record { len = l.1; act = behind s (take l.1 text) (act (take l.1 text) l.0) }
turn_by s text act None = record { len = 1; act = skips s }

abbrev pub turn_in : Here → State → Text → Turn
turn_in Between s text = turn_by s text (act_between s) (longest (between s.operand) text)
turn_in (Inside t) s text = turn_by s text (act_inside s t) (longest (inside t.quote) text)

unfoldable pub turn : State → Text → Turn
turn s text = turn_in s.here s text

-- what a text is read as
pub record Reading : Type 0 where
  pub tokens : List Spelled
  pub refusals : List Refusal

abbrev pub noted : Option Refusal → List Refusal
noted None = []
noted (Some r) = r ∷ []

abbrev pub with_act : Act → Reading → Reading
with_act a rest = record { tokens = a.tokens ++ rest.tokens; refusals = noted a.refused ++ rest.refusals }

-- a part that stays open is refused at its `$`
abbrev pub open_refusals : List Open → List Refusal
open_refusals [] = []
open_refusals (opened.Brace ∷ around) = open_refusals around
open_refusals (opened.Part p ∷ around) = refusal p.dollar refused.UnendedInterpolation ∷ open_refusals around

-- a string that stays open outside its parts is refused at its start
abbrev pub here_refusals : Here → List Refusal
here_refusals Between = []
here_refusals (Inside t) = refusal t.start refused.UnendedString ∷ []

abbrev pub reading_of_end : State → Reading
reading_of_end s = record { tokens = spelled s.place what.end ∷ []; refusals = here_refusals s.here ++ open_refusals s.around }

-- The rest of a text, of which the first characters are passed over since they belong to the spelling before.
unfoldable pub reading : State → ℕ → Text → Reading
reading s skip [] = reading_of_end s
reading s (suc skip) (c ∷ text) = reading s skip text
reading s zero (c ∷ text) = with_act (turn s (c ∷ text)).act (reading (turn s (c ∷ text)).act.state ((turn s (c ∷ text)).len - 1) text)

-- ---- the file

-- how many characters stand before all tokens: U+FEFF, or a first line that begins with `#!`
abbrev pub head_len : Text → ℕ
head_len text =
    if slice_index text 0 == 0xFEFF then 1
    else if slice_index text 0 == 35 && slice_index text 1 == 33 then prefix_len (is_in class.NotLine) text
    else 0

abbrev pub start : Place → State
start place = record { around = []; here = Between; so_far = []; operand = false; place = place }

-- a file's characters
abbrev pub reading_of : ℕ → Text → Reading
reading_of file text = reading (start (past (file_start file) (take (head_len text) text))) 0 (drop (head_len text) text)

-- the tokens, unless something is refused
abbrev pub judged : Option Refusal → List Spelled → Result (List Spelled) Refusal
judged None tokens = Ok tokens
judged (Some r) tokens = Err r

abbrev pub judged_reading : Reading → Result (List Spelled) Refusal
judged_reading r = judged (first_of None r.refusals) r.tokens

-- the first byte that belongs to no character
abbrev pub not_utf8 : ℕ → List ℕ → Refusal
not_utf8 file bytes = refusal (past (file_start file) (chars (take (utf8_valid_len bytes) bytes))) refused.NotUtf8

-- the tokens of a file's bytes, or its first refusal
abbrev pub lexed : ℕ → List ℕ → Result (List Spelled) Refusal
lexed file bytes = if is_utf8 bytes then judged_reading (reading_of file (chars bytes)) else Err (not_utf8 file bytes)
