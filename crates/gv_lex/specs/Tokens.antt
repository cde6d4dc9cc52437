-- Tokens, with texts where the code's tokens have names.
use Rattle.std.specs.Prelude.{◌≡◌, ℕ, ◌<◌, ℤ, List, ◌++◌, length}
use Rattle.gv_base.specs.Names.{text_of}
use Rattle.gv_base.specs.declared.refusal.Place.{Place}
use Rattle.gv_spelling.specs.declared.kinds.Symbol.{Symbol}
use Rattle.gv_lex.specs.declared.token.Word.{Word}
use Rattle.gv_lex.specs.declared.token.Piece.{Piece}
use Rattle.gv_lex.specs.declared.token.Token.{Token}
use Rattle.gv_lex.specs.declared.token.TokenKind.{TokenKind}
use Rattle.gv_lex.specs.declared.token.TokenKind.TheVariants as kind

-- what a token is
pub data What : Type 0 where
  word : Word → List ℕ → What
  int : ℤ → What
  long : ℤ → What
  symbol : Symbol → What
  text : Piece → List ℕ → What
  line_end : What
  end : What

pub record Spelled : Type 0 where
  pub what : What
  pub place : Place

abbrev pub what_of : List (List ℕ) → TokenKind → What
what_of names (kind.Word w n) = word w (text_of names n)
what_of names (kind.Int z) = int z
what_of names (kind.Long z) = long z
what_of names (kind.Symbol s) = symbol s
what_of names (kind.Text p n) = text p (text_of names n)
what_of names kind.LineEnd = line_end
what_of names kind.End = end

-- what a token tells, by the table of its names
abbrev pub told : List (List ℕ) → Token → Spelled
told names t = record { what = what_of names t.kind; place = t.place }

abbrev pub IsNameOf : List (List ℕ) → TokenKind → Type 0
IsNameOf names (kind.Word w n) = n < length names
IsNameOf names (kind.Text p n) = n < length names
IsNameOf names other = Unit {0}

-- a token's name is of the table
abbrev pub IsNamed : List (List ℕ) → Token → Type 0
IsNamed names t = IsNameOf names t.kind

-- a table that holds all that another one holds, with the same names, and maybe more
abbrev pub KeepsNames : List (List ℕ) → List (List ℕ) → Type 0
KeepsNames old new = (more : List (List ℕ)) × (new ≡ old ++ more)
