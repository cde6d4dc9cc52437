-- The words in which the grammar speaks of tokens.
use Rattle.std.specs.Prelude.{◌≡◌, ℕ, Bool, true, false, List, [], ◌∷◌, Option, Some, None}
use Rattle.gv_base.specs.declared.refusal.Place.{Place}
use Rattle.gv_spelling.specs.declared.kinds.Keyword.{Keyword}
use Rattle.gv_spelling.specs.declared.kinds.Keyword.TheVariants as keyword
use Rattle.gv_spelling.specs.declared.kinds.Symbol.{Symbol}
use Rattle.gv_spelling.specs.declared.kinds.Symbol.TheVariants as symbol
use Rattle.gv_lex.specs.declared.token.Piece.{Piece}
use Rattle.gv_lex.specs.declared.token.Piece.TheVariants as piece
use Rattle.gv_lex.specs.declared.token.Token.{Token}
use Rattle.gv_lex.specs.declared.token.TokenKind.{TokenKind}
use Rattle.gv_lex.specs.declared.token.TokenKind.TheVariants as kind
use Rattle.gv_lex.specs.declared.token.Word.TheVariants as word
use Rattle.gv_tree.specs.declared.expr.Atom.{Atom}
use Rattle.gv_tree.specs.declared.expr.Atom.TheVariants as atom
use Rattle.gv_tree.specs.declared.ops.AssignOp.{AssignOp}
use Rattle.gv_tree.specs.declared.ops.AssignOp.TheVariants as assign
use Rattle.gv_tree.specs.declared.ops.BinaryOp.{BinaryOp}
use Rattle.gv_tree.specs.declared.ops.BinaryOp.TheVariants as binary
use Rattle.gv_tree.specs.declared.ops.Ident.{Ident}
use Rattle.gv_tree.specs.declared.ops.MemberOp.{MemberOp}
use Rattle.gv_tree.specs.declared.ops.MemberOp.TheVariants as member
use Rattle.gv_tree.specs.declared.ops.TypeTree.{TypeTree}
use Rattle.gv_tree.specs.declared.ops.TypeTree.TheVariants as type
use Rattle.gv_tree.specs.declared.ops.TypeOp.{TypeOp}
use Rattle.gv_tree.specs.declared.ops.TypeOp.TheVariants as typing
use Rattle.gv_tree.specs.declared.ops.UnaryOp.{UnaryOp}
use Rattle.gv_tree.specs.declared.ops.UnaryOp.TheVariants as unary

-- ---- the next token

-- ts is this symbol, and then rest
pub data Eats (x : Symbol) : List Token → List Token → Type 0 where
  eats : {t : Token} {rest : List Token} → t.kind ≡ kind.Symbol x → Eats x (t ∷ rest) rest

pub data EatsKeyword (k : Keyword) : List Token → List Token → Type 0 where
  eats_keyword : {t : Token} {n : ℕ} {rest : List Token} → t.kind ≡ kind.Word (word.Keyword k) n → EatsKeyword k (t ∷ rest) rest

pub data EatsPiece (p : Piece) (n : ℕ) : List Token → List Token → Type 0 where
  eats_piece : {t : Token} {rest : List Token} → t.kind ≡ kind.Text p n → EatsPiece p n (t ∷ rest) rest

pub data EatsLine : List Token → List Token → Type 0 where
  eats_line : {t : Token} {rest : List Token} → t.kind ≡ kind.LineEnd → EatsLine (t ∷ rest) rest

pub data EatsEnd : List Token → List Token → Type 0 where
  eats_end : {t : Token} {rest : List Token} → t.kind ≡ kind.End → EatsEnd (t ∷ rest) rest

-- ts is a token that means x, and then rest
pub data EatsAs {A : Type 0} (of : TokenKind → Option A) (x : A) : List Token → List Token → Type 0 where
  eats_as : {t : Token} {rest : List Token} → of t.kind ≡ Some x → EatsAs of x (t ∷ rest) rest

-- the kind and the place of the next token
abbrev pub kind_of : List Token → TokenKind
kind_of [] = kind.End
kind_of (t ∷ ts) = t.kind

abbrev pub place_of : List Token → Place
place_of [] = record { file = 0; line = 0; column = 0 }
place_of (t ∷ ts) = t.place

-- ---- names

abbrev pub name_of : TokenKind → Option ℕ
name_of (kind.Word word.Name n) = Some n
name_of (kind.Word word.TypeName n) = Some n
name_of other = None

abbrev pub type_name_of : TokenKind → Option ℕ
type_name_of (kind.Word word.TypeName n) = Some n
type_name_of other = None

-- any word names a member
abbrev pub member_name_of : TokenKind → Option ℕ
member_name_of (kind.Word w n) = Some n
member_name_of other = None

-- a word that isn't refused is a key
abbrev pub key_name_of : TokenKind → Option ℕ
key_name_of (kind.Word (word.Refused r) n) = None
key_name_of (kind.Word w n) = Some n
key_name_of other = None

abbrev pub text_of : TokenKind → Option ℕ
text_of (kind.Text piece.Whole n) = Some n
text_of other = None

abbrev pub ident : Place → ℕ → Ident
ident place n = record { place = place; name = n }

-- ---- what single tokens mean

abbrev pub atom_of_keyword : Keyword → Option Atom
atom_of_keyword keyword.Null = Some atom.Null
atom_of_keyword keyword.True = Some (atom.Bool true)
atom_of_keyword keyword.False = Some (atom.Bool false)
atom_of_keyword keyword.This = Some atom.This
atom_of_keyword keyword.Super = Some atom.Super
atom_of_keyword k = None

abbrev pub atom_of : TokenKind → Option Atom
atom_of (kind.Word word.Name n) = Some (atom.Name n)
atom_of (kind.Word word.TypeName n) = Some (atom.Name n)
atom_of (kind.Word (word.Keyword k) n) = atom_of_keyword k
atom_of (kind.Int z) = Some (atom.Int z)
atom_of (kind.Long z) = Some (atom.Long z)
atom_of (kind.Text piece.Whole n) = Some (atom.Text n)
atom_of other = None

abbrev pub type_of : Place → TokenKind → Option TypeTree
type_of place (kind.Word (word.Keyword keyword.Int) n) = Some (type.Int place)
type_of place (kind.Word (word.Keyword keyword.Long) n) = Some (type.Long place)
type_of place (kind.Word (word.Keyword keyword.Boolean) n) = Some (type.Boolean place)
type_of place (kind.Word word.TypeName n) = Some (type.Class (ident place n))
type_of place other = None

-- ---- operators

abbrev pub binary_symbol : Symbol → Option BinaryOp
binary_symbol symbol.Star = Some binary.Multiply
binary_symbol symbol.Percent = Some binary.Mod
binary_symbol symbol.Plus = Some binary.Plus
binary_symbol symbol.Minus = Some binary.Minus
binary_symbol symbol.ShiftLeft = Some binary.LeftShift
binary_symbol symbol.ShiftRight = Some binary.RightShift
binary_symbol symbol.ShiftRightUnsigned = Some binary.RightShiftUnsigned
binary_symbol symbol.Range = Some binary.Range
binary_symbol symbol.HalfOpenRange = Some binary.HalfOpenRange
binary_symbol symbol.Less = Some binary.Less
binary_symbol symbol.LessEqual = Some binary.LessEqual
binary_symbol symbol.Greater = Some binary.Greater
binary_symbol symbol.GreaterEqual = Some binary.GreaterEqual
binary_symbol symbol.Equal = Some binary.Equal
binary_symbol symbol.NotEqual = Some binary.NotEqual
binary_symbol symbol.Spaceship = Some binary.Compare
binary_symbol symbol.Ampersand = Some binary.BitAnd
binary_symbol symbol.Caret = Some binary.BitXor
binary_symbol symbol.Bar = Some binary.BitOr
binary_symbol symbol.And = Some binary.And
binary_symbol symbol.Or = Some binary.Or
binary_symbol s = None

abbrev pub binary_of : TokenKind → Option BinaryOp
binary_of (kind.Symbol s) = binary_symbol s
binary_of (kind.Word (word.Keyword keyword.In) n) = Some binary.In
binary_of other = None

-- how tightly an operator joins, the tightest first
abbrev pub level_of : BinaryOp → ℕ
level_of binary.Multiply = 1
level_of binary.Mod = 1
level_of binary.Plus = 2
level_of binary.Minus = 2
level_of binary.LeftShift = 3
level_of binary.RightShift = 3
level_of binary.RightShiftUnsigned = 3
level_of binary.Range = 3
level_of binary.HalfOpenRange = 3
level_of binary.Less = 4
level_of binary.LessEqual = 4
level_of binary.Greater = 4
level_of binary.GreaterEqual = 4
level_of binary.In = 4
level_of binary.Equal = 5
level_of binary.NotEqual = 5
level_of binary.Compare = 5
level_of binary.BitAnd = 6
level_of binary.BitXor = 7
level_of binary.BitOr = 8
level_of binary.And = 9
level_of binary.Or = 10

abbrev pub loosest : ℕ
loosest = 10

-- the level of `instanceof` and `as`
abbrev pub typing_level : ℕ
typing_level = 4

-- ranges and the operators of the fourth level: at most one of them joins a chain
abbrev pub joins_once : BinaryOp → Bool
joins_once binary.Range = true
joins_once binary.HalfOpenRange = true
joins_once binary.Less = true
joins_once binary.LessEqual = true
joins_once binary.Greater = true
joins_once binary.GreaterEqual = true
joins_once binary.In = true
joins_once op = false

abbrev pub typing_of : TokenKind → Option TypeOp
typing_of (kind.Word (word.Keyword keyword.InstanceOf) n) = Some typing.InstanceOf
typing_of (kind.Word (word.Keyword keyword.As) n) = Some typing.As
typing_of other = None

abbrev pub prefix_of : TokenKind → Option UnaryOp
prefix_of (kind.Symbol symbol.Not) = Some unary.Not
prefix_of (kind.Symbol symbol.Minus) = Some unary.Minus
prefix_of (kind.Symbol symbol.Plus) = Some unary.Plus
prefix_of (kind.Symbol symbol.Increment) = Some unary.Increment
prefix_of (kind.Symbol symbol.Decrement) = Some unary.Decrement
prefix_of other = None

abbrev pub postfix_of : TokenKind → Option UnaryOp
postfix_of (kind.Symbol symbol.Increment) = Some unary.IncrementAfter
postfix_of (kind.Symbol symbol.Decrement) = Some unary.DecrementAfter
postfix_of other = None

abbrev pub assign_of : TokenKind → Option AssignOp
assign_of (kind.Symbol symbol.Assign) = Some assign.Plain
assign_of (kind.Symbol symbol.PlusAssign) = Some assign.Plus
assign_of (kind.Symbol symbol.MinusAssign) = Some assign.Minus
assign_of (kind.Symbol symbol.StarAssign) = Some assign.Multiply
assign_of (kind.Symbol symbol.PercentAssign) = Some assign.Mod
assign_of (kind.Symbol symbol.ShiftLeftAssign) = Some assign.LeftShift
assign_of (kind.Symbol symbol.ShiftRightAssign) = Some assign.RightShift
assign_of (kind.Symbol symbol.ShiftRightUnsignedAssign) = Some assign.RightShiftUnsigned
assign_of (kind.Symbol symbol.AmpersandAssign) = Some assign.BitAnd
assign_of (kind.Symbol symbol.BarAssign) = Some assign.BitOr
assign_of (kind.Symbol symbol.CaretAssign) = Some assign.BitXor
assign_of other = None

abbrev pub member_of : TokenKind → Option MemberOp
member_of (kind.Symbol symbol.Dot) = Some member.Dot
member_of (kind.Symbol symbol.SafeDot) = Some member.Safe
member_of (kind.Symbol symbol.SpreadDot) = Some member.Spread
member_of (kind.Symbol symbol.MethodPointer) = Some member.Pointer
member_of other = None

-- ---- brackets

-- the bracket that closes this one
abbrev pub closing : TokenKind → Option Symbol
closing (kind.Symbol symbol.LeftParen) = Some symbol.RightParen
closing (kind.Symbol symbol.LeftBracket) = Some symbol.RightBracket
closing (kind.Symbol symbol.LeftBrace) = Some symbol.RightBrace
closing other = None

-- a bracket that closes, or the end of a list
abbrev pub is_closing : TokenKind → Bool
is_closing (kind.Symbol symbol.RightParen) = true
is_closing (kind.Symbol symbol.RightBracket) = true
is_closing (kind.Symbol symbol.RightBrace) = true
is_closing kind.End = true
is_closing other = false

abbrev pub is_head : TokenKind → Bool
is_head (kind.Text (piece.Head p) n) = true
is_head other = false

-- ---- with which tokens expressions go on

-- How loosely an expression goes on with a token: 0 for a suffix, an operator's level, 11 for a choice, 12 for an assignment, and 13 where it doesn't.
abbrev pub symbol_reach : Symbol → ℕ
symbol_reach symbol.Dot = 0
symbol_reach symbol.SafeDot = 0
symbol_reach symbol.SpreadDot = 0
symbol_reach symbol.MethodPointer = 0
symbol_reach symbol.FieldDot = 0
symbol_reach symbol.LeftParen = 0
symbol_reach symbol.LeftBracket = 0
symbol_reach symbol.LeftBrace = 0
symbol_reach symbol.Increment = 0
symbol_reach symbol.Decrement = 0
symbol_reach symbol.Question = 11
symbol_reach symbol.Elvis = 11
symbol_reach s = 13

abbrev pub reach_by : Option BinaryOp → Option TypeOp → Option AssignOp → TokenKind → ℕ
reach_by (Some op) t a k = level_of op
reach_by None (Some t) a k = typing_level
reach_by None None (Some a) k = 12
reach_by None None None (kind.Symbol s) = symbol_reach s
reach_by None None None other = 13

abbrev pub reach : TokenKind → ℕ
reach k = reach_by (binary_of k) (typing_of k) (assign_of k) k

-- the first token of a command's arguments
abbrev pub keyword_begins_arguments : Keyword → Bool
keyword_begins_arguments keyword.This = true
keyword_begins_arguments keyword.Super = true
keyword_begins_arguments keyword.Null = true
keyword_begins_arguments keyword.True = true
keyword_begins_arguments keyword.False = true
keyword_begins_arguments keyword.New = true
keyword_begins_arguments k = false

abbrev pub begins_arguments : TokenKind → Bool
begins_arguments (kind.Word word.Name n) = true
begins_arguments (kind.Word word.TypeName n) = true
begins_arguments (kind.Word (word.Keyword k) n) = keyword_begins_arguments k
begins_arguments (kind.Int z) = true
begins_arguments (kind.Long z) = true
begins_arguments (kind.Text piece.Whole n) = true
begins_arguments (kind.Text (piece.Head p) n) = true
begins_arguments (kind.Symbol symbol.Not) = true
begins_arguments other = false

-- the first token of an expression
abbrev pub symbol_begins_expr : Symbol → Bool
symbol_begins_expr symbol.LeftParen = true
symbol_begins_expr symbol.LeftBracket = true
symbol_begins_expr symbol.LeftBrace = true
symbol_begins_expr symbol.Not = true
symbol_begins_expr symbol.Minus = true
symbol_begins_expr symbol.Plus = true
symbol_begins_expr symbol.Increment = true
symbol_begins_expr symbol.Decrement = true
symbol_begins_expr s = false

abbrev pub begins_expr : TokenKind → Bool
begins_expr (kind.Symbol s) = symbol_begins_expr s
begins_expr other = begins_arguments other

-- the first token of a call behind what is called
abbrev pub begins_call : TokenKind → Bool
begins_call (kind.Symbol symbol.LeftParen) = true
begins_call (kind.Symbol symbol.LeftBrace) = true
begins_call other = false
