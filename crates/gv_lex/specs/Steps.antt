-- What the steps of the code promise one another.
use Rattle.std.specs.Prelude.{◌≡◌, ℕ, suc, ◌+◌, ◌-◌, ◌<◌, ◌≤◌, List, [], ◌∷◌, ◌++◌, ◌==◌, if◌then◌else◌, length, map, reverse, string_bytes, All, None, Result, Ok, Err}
use Rattle.gv_base.specs.Names.{text_of}
use Rattle.gv_base.specs.declared.refusal.Place.{Place}
use Rattle.gv_base.specs.declared.refusal.Refusal.{Refusal}
use Rattle.gv_spelling.specs.Table.{Text}
use Rattle.gv_lex.specs.declared.error.LexError.{LexError}
use Rattle.gv_lex.specs.declared.error.LexError.TheVariants.{Refused, OutOfMemory}
use Rattle.gv_lex.specs.declared.lexer.Lexer.{Lexer}
use Rattle.gv_lex.specs.declared.token.Token.{Token}
use Rattle.gv_lex.specs.Lexing.{State, Act, Reading, turn, judged_reading}
use Rattle.gv_lex.specs.Places.{earlier, first_of}
use Rattle.gv_lex.specs.Tokens.{Spelled, told, IsNamed, KeepsNames}

-- what the lexer knows at its place
abbrev pub state_of : Lexer → State
state_of l = record { around = reverse l.around.items; here = l.here; so_far = string_bytes l.text; operand = l.operand; place = l.place }

-- a name of the table, with its text
pub record IsName (names : List (List ℕ)) (name : ℕ) (text : List ℕ) : Type 0 where
  pub within : name < length names
  pub text_is : text_of names name ≡ text

-- by the texts of a table, the lexer put these tokens, and nothing else changed
pub record Puts (names : List (List ℕ)) (old : Lexer) (more : List Spelled) (new : Lexer) : Type 0 where
  pub tokens : map (told names) new.tokens.items ≡ map (told names) old.tokens.items ++ more
  pub named : All (IsNamed names) old.tokens.items → All (IsNamed names) new.tokens.items
  pub first : new.first ≡ old.first
  pub state : state_of new ≡ state_of old

-- the same by each table that keeps this one
abbrev pub AlwaysPuts : List (List ℕ) → Lexer → List Spelled → Lexer → Type 0
AlwaysPuts names old more new = (later : List (List ℕ)) → KeepsNames names later → Puts later old more new

-- by the texts of a table, the lexer did what an act says
pub record Follows (names : List (List ℕ)) (old : Lexer) (act : Act) (new : Lexer) : Type 0 where
  pub tokens : map (told names) new.tokens.items ≡ map (told names) old.tokens.items ++ act.tokens
  pub named : All (IsNamed names) old.tokens.items → All (IsNamed names) new.tokens.items
  pub first : new.first ≡ earlier old.first act.refused
  pub state : state_of new ≡ act.state

-- the same by each table that keeps this one
abbrev pub AlwaysFollows : List (List ℕ) → Lexer → Act → Lexer → Type 0
AlwaysFollows names old act new = (later : List (List ℕ)) → KeepsNames names later → Follows later old act new

-- the place's line and column have room for the characters that are left
pub record HasRoom (place : Place) (left : ℕ) : Type 0 where
  pub lines : place.line + left < 4294967296
  pub columns : place.column + left < 4294967296

-- the lexer did what the text's first spelling says, which has this length
pub record Turns (names : List (List ℕ)) (old : Lexer) (text : Text) (len : ℕ) (new : Lexer) : Type 0 where
  pub some : 0 < len
  pub within : len ≤ length text
  pub act : Act
  pub is_turn : turn (state_of old) text ≡ record { len = len; act = act }
  pub follows : AlwaysFollows names old act new
  pub room : HasRoom new.place (length text - len)

-- by the texts of a table, what was found so far and what is still to be read are a whole
pub record Completes (names : List (List ℕ)) (lexer : Lexer) (rest whole : Reading) : Type 0 where
  pub tokens : map (told names) lexer.tokens.items ++ rest.tokens ≡ whole.tokens
  pub named : All (IsNamed names) lexer.tokens.items
  pub first : first_of lexer.first rest.refusals ≡ first_of None whole.refusals

-- the same by each table that keeps this one
abbrev pub AlwaysCompletes : List (List ℕ) → Lexer → Reading → Reading → Type 0
AlwaysCompletes names lexer rest whole = (later : List (List ℕ)) → KeepsNames names later → Completes later lexer rest whole

-- by the texts of a table, the tokens are what a reading tells
pub record IsJudged (names : List (List ℕ)) (whole : Reading) (tokens : List Token) : Type 0 where
  pub told_are : judged_reading whole ≡ Ok (map (told names) tokens)
  pub named : All (IsNamed names) tokens

-- how many characters stand before the first dot
abbrev pub word_len : Text → ℕ
word_len [] = 0
word_len (c ∷ s) = if c == 46 then 0 else suc (word_len s)

-- an error is this refusal, or want of memory
abbrev pub RefusedAs : Result (List Spelled) Refusal → LexError → Type 0
RefusedAs lexed (Refused refusal) = lexed ≡ Err refusal
RefusedAs lexed OutOfMemory = Unit {0}
