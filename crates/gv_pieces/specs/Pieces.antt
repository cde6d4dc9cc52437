-- The pieces of which the text of a tree is made, and the text of each.
use Rattle.std.specs.Prelude.{ℕ, List, [], ◌∷◌, ◌++◌, codes, ℤ}
use Rattle.std.specs.Fmt.{signed_decimal}
use Rattle.gv_base.specs.Names.{text_of}
use Rattle.gv_spelling.specs.declared.kinds.Keyword as kinds
use Rattle.gv_spelling.specs.declared.kinds.Keyword.TheVariants as keyword
use Rattle.gv_spelling.specs.declared.kinds.Symbol as signs
use Rattle.gv_spelling.specs.declared.kinds.Symbol.TheVariants as symbol
use Rattle.gv_print.specs.declared.strings.Quotes.{Quotes}
use Rattle.gv_print.specs.declared.strings.Quotes.TheVariants as quotes
use Rattle.gv_print.specs.Texts.{new_line, chars_printed}

pub data Piece : Type 0 where
  -- one blank
  Blank : Piece
  -- a line end, and the blanks of so many levels
  Line : (indent : ℕ) → Piece
  Symbol : (symbol : signs.Symbol) → Piece
  Keyword : (keyword : kinds.Keyword) → Piece
  -- a name, by its place in the table of names
  Name : (name : ℕ) → Piece
  Int : (n : ℤ) → Piece
  -- with its suffix
  Long : (n : ℤ) → Piece
  -- the quote at which a string starts
  Open : (quotes : Quotes) → Piece
  -- the characters of a name's text in a string, escaped where they have to be
  Chars : (quotes : Quotes) (name : ℕ) → Piece
  -- `${`
  PartOpen : Piece
  -- the `}` at which a part of a string ends
  PartClose : Piece
  -- the quote at which a string ends
  Close : (quotes : Quotes) → Piece

abbrev pub symbol_text : signs.Symbol → List ℕ
symbol_text symbol.LeftParen = codes "("
symbol_text symbol.RightParen = codes ")"
symbol_text symbol.LeftBracket = codes "["
symbol_text symbol.RightBracket = codes "]"
symbol_text symbol.LeftBrace = codes "{"
symbol_text symbol.RightBrace = codes "}"
symbol_text symbol.Comma = codes ","
symbol_text symbol.Semicolon = codes ";"
symbol_text symbol.Colon = codes ":"
symbol_text symbol.Dot = codes "."
symbol_text symbol.SafeDot = codes "?."
symbol_text symbol.SpreadDot = codes "*."
symbol_text symbol.MethodPointer = codes ".&"
symbol_text symbol.FieldDot = codes ".@"
symbol_text symbol.DotStar = codes ".*"
symbol_text symbol.Range = codes ".."
symbol_text symbol.HalfOpenRange = codes "..<"
symbol_text symbol.Ellipsis = codes "..."
symbol_text symbol.Arrow = codes "->"
symbol_text symbol.Question = codes "?"
symbol_text symbol.Elvis = codes "?:"
symbol_text symbol.Not = codes "!"
symbol_text symbol.Plus = codes "+"
symbol_text symbol.Minus = codes "-"
symbol_text symbol.Star = codes "*"
symbol_text symbol.Percent = codes "%"
symbol_text symbol.Increment = codes "++"
symbol_text symbol.Decrement = codes "--"
symbol_text symbol.ShiftLeft = codes "<<"
symbol_text symbol.ShiftRight = codes ">>"
symbol_text symbol.ShiftRightUnsigned = codes ">>>"
symbol_text symbol.Less = codes "<"
symbol_text symbol.LessEqual = codes "<="
symbol_text symbol.Greater = codes ">"
symbol_text symbol.GreaterEqual = codes ">="
symbol_text symbol.Spaceship = codes "<=>"
symbol_text symbol.Equal = codes "=="
symbol_text symbol.NotEqual = codes "!="
symbol_text symbol.Ampersand = codes "&"
symbol_text symbol.Bar = codes "|"
symbol_text symbol.Caret = codes "^"
symbol_text symbol.And = codes "&&"
symbol_text symbol.Or = codes "||"
symbol_text symbol.Assign = codes "="
symbol_text symbol.PlusAssign = codes "+="
symbol_text symbol.MinusAssign = codes "-="
symbol_text symbol.StarAssign = codes "*="
symbol_text symbol.PercentAssign = codes "%="
symbol_text symbol.ShiftLeftAssign = codes "<<="
symbol_text symbol.ShiftRightAssign = codes ">>="
symbol_text symbol.ShiftRightUnsignedAssign = codes ">>>="
symbol_text symbol.AmpersandAssign = codes "&="
symbol_text symbol.BarAssign = codes "|="
symbol_text symbol.CaretAssign = codes "^="
symbol_text symbol.At = codes "@"
symbol_text symbol.SpreadColon = codes "*:"
symbol_text symbol.Slash = codes "/"
symbol_text symbol.SlashAssign = codes "/="
symbol_text symbol.Power = codes "**"
symbol_text symbol.PowerAssign = codes "**="
symbol_text symbol.Tilde = codes "~"
symbol_text symbol.Find = codes "=~"
symbol_text symbol.Match = codes "==~"
symbol_text symbol.Identical = codes "==="

abbrev pub keyword_text : kinds.Keyword → List ℕ
keyword_text keyword.As = codes "as"
keyword_text keyword.Assert = codes "assert"
keyword_text keyword.Boolean = codes "boolean"
keyword_text keyword.Break = codes "break"
keyword_text keyword.Case = codes "case"
keyword_text keyword.Catch = codes "catch"
keyword_text keyword.Class = codes "class"
keyword_text keyword.Continue = codes "continue"
keyword_text keyword.Def = codes "def"
keyword_text keyword.Default = codes "default"
keyword_text keyword.Else = codes "else"
keyword_text keyword.Extends = codes "extends"
keyword_text keyword.False = codes "false"
keyword_text keyword.Final = codes "final"
keyword_text keyword.Finally = codes "finally"
keyword_text keyword.For = codes "for"
keyword_text keyword.If = codes "if"
keyword_text keyword.Implements = codes "implements"
keyword_text keyword.Import = codes "import"
keyword_text keyword.In = codes "in"
keyword_text keyword.InstanceOf = codes "instanceof"
keyword_text keyword.Int = codes "int"
keyword_text keyword.Long = codes "long"
keyword_text keyword.New = codes "new"
keyword_text keyword.Null = codes "null"
keyword_text keyword.Private = codes "private"
keyword_text keyword.Protected = codes "protected"
keyword_text keyword.Public = codes "public"
keyword_text keyword.Return = codes "return"
keyword_text keyword.Static = codes "static"
keyword_text keyword.Super = codes "super"
keyword_text keyword.Switch = codes "switch"
keyword_text keyword.This = codes "this"
keyword_text keyword.Throw = codes "throw"
keyword_text keyword.True = codes "true"
keyword_text keyword.Try = codes "try"
keyword_text keyword.Void = codes "void"
keyword_text keyword.While = codes "while"

abbrev pub quote_text : Quotes → List ℕ
quote_text quotes.Single = codes "'"
quote_text quotes.Double = codes "\""

module _ (names : List (List ℕ)) where
  abbrev pub piece_text : Piece → List ℕ
  piece_text Blank = codes " "
  piece_text (Line indent) = new_line indent []
  piece_text (Symbol s) = symbol_text s
  piece_text (Keyword k) = keyword_text k
  piece_text (Name name) = text_of names name
  piece_text (Int n) = signed_decimal n
  piece_text (Long n) = signed_decimal n ++ codes "L"
  piece_text (Open q) = quote_text q
  piece_text (Chars q name) = chars_printed q (text_of names name) []
  piece_text PartOpen = codes "${"
  piece_text PartClose = codes "}"
  piece_text (Close q) = quote_text q

  -- the text of pieces, one behind the other
  abbrev pub texts_of : List Piece → List ℕ
  texts_of [] = []
  texts_of (p ∷ ps) = piece_text p ++ texts_of ps
