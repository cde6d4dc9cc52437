-- Lists of tokens and their trees, written out by hand. Names and texts are numbered in the order of their characters.
use Rattle.std.specs.Prelude.{ℕ, true, false, List, [], ◌∷◌, Some, pos}
use Rattle.gv_base.specs.declared.refusal.Place.{Place}
use Rattle.gv_spelling.specs.declared.kinds.Keyword.TheVariants as keyword
use Rattle.gv_spelling.specs.declared.kinds.Symbol.{Symbol}
use Rattle.gv_spelling.specs.declared.kinds.Symbol.TheVariants as symbol
use Rattle.gv_lex.specs.declared.token.Part.TheVariants as form
use Rattle.gv_lex.specs.declared.token.Piece.TheVariants as piece
use Rattle.gv_lex.specs.declared.token.Token.{Token}
use Rattle.gv_lex.specs.declared.token.TokenKind.{TokenKind}
use Rattle.gv_lex.specs.declared.token.TokenKind.TheVariants as kind
use Rattle.gv_lex.specs.declared.token.Word.TheVariants as word
use Rattle.gv_tree.specs.declared.expr.Arg.TheVariants as arg
use Rattle.gv_tree.specs.declared.expr.Atom.TheVariants as atom
use Rattle.gv_tree.specs.declared.expr.Closure.TheVariants as closure
use Rattle.gv_tree.specs.declared.expr.Entry.TheVariants as entry
use Rattle.gv_tree.specs.declared.expr.Expr.{Expr}
use Rattle.gv_tree.specs.declared.expr.Expr.TheVariants as expr
use Rattle.gv_tree.specs.declared.expr.Key.TheVariants as key
use Rattle.gv_tree.specs.declared.expr.Label.TheVariants as label
use Rattle.gv_tree.specs.declared.expr.GString.{roll-GString}
use Rattle.gv_tree.specs.declared.expr.Part.{roll-Part}
use Rattle.gv_tree.specs.declared.ops.AssignOp.TheVariants as assign
use Rattle.gv_tree.specs.declared.ops.BinaryOp.TheVariants as binary
use Rattle.gv_tree.specs.declared.ops.MemberOp.TheVariants as member
use Rattle.gv_tree.specs.declared.ops.TypeOp.TheVariants as typing
use Rattle.gv_tree.specs.declared.ops.TypeTree.TheVariants as type
use Rattle.gv_tree.specs.declared.ops.UnaryOp.TheVariants as unary
use Rattle.gv_grammar.specs.Tokens.{ident}

-- in the first line
abbrev pub column : ℕ → Place
column n = record { file = 0; line = 1; column = n }

abbrev pub a_token : TokenKind → ℕ → Token
a_token k n = record { kind = k; place = column n }

abbrev pub mark : Symbol → ℕ → Token
mark s n = a_token (kind.Symbol s) n

abbrev pub name : ℕ → ℕ → Token
name m n = a_token (kind.Word word.Name m) n

abbrev pub the_end : ℕ → List Token
the_end n = a_token kind.End n ∷ []

abbrev pub named : ℕ → ℕ → Expr
named m n = expr.Atom (column n) (atom.Name m)

-- a + b * c
abbrev pub sum_tokens : List Token
sum_tokens = name 0 1 ∷ mark symbol.Plus 3 ∷ name 1 5 ∷ mark symbol.Star 7 ∷ name 2 9 ∷ the_end 10

abbrev pub sum_tree : Expr
sum_tree = expr.Binary (column 3) binary.Plus (named 0 1) (expr.Binary (column 7) binary.Multiply (named 1 5) (named 2 9))

-- f(x: 1, *y) { }
abbrev pub call_tokens : List Token
call_tokens = name 0 1 ∷ mark symbol.LeftParen 2 ∷ name 1 3 ∷ mark symbol.Colon 4 ∷ a_token (kind.Int (pos 1)) 6 ∷ mark symbol.Comma 7 ∷ mark symbol.Star 9 ∷ name 2 10
    ∷ mark symbol.RightParen 11 ∷ mark symbol.LeftBrace 13 ∷ mark symbol.RightBrace 15 ∷ the_end 16

-- the closure's tokens are none, from the eleventh on
abbrev pub call_tree : Expr
call_tree = expr.Call (column 2) (named 0 1)
    (arg.Keyed (key.Label (label.Name (ident (column 3) 1))) (expr.Atom (column 6) (atom.Int (pos 1)))
    ∷ arg.Spread (column 9) (named 2 10)
    ∷ arg.Plain (expr.Closure (column 13) (closure.Unread 10 10)) ∷ [])

-- [a: 1, (b): 2, *:c]
abbrev pub map_tokens : List Token
map_tokens = mark symbol.LeftBracket 1 ∷ name 0 2 ∷ mark symbol.Colon 3 ∷ a_token (kind.Int (pos 1)) 5 ∷ mark symbol.Comma 6
    ∷ mark symbol.LeftParen 8 ∷ name 1 9 ∷ mark symbol.RightParen 10 ∷ mark symbol.Colon 11 ∷ a_token (kind.Int (pos 2)) 13 ∷ mark symbol.Comma 14
    ∷ mark symbol.SpreadColon 16 ∷ name 2 18 ∷ mark symbol.RightBracket 19 ∷ the_end 20

abbrev pub map_tree : Expr
map_tree = expr.Map (column 1)
    (entry.Keyed (key.Label (label.Name (ident (column 2) 0))) (expr.Atom (column 5) (atom.Int (pos 1)))
    ∷ entry.Computed (column 8) (named 1 9) (expr.Atom (column 13) (atom.Int (pos 2)))
    ∷ entry.Spread (column 16) (named 2 18) ∷ [])

-- x = a ? b as int : new T()[0]++
abbrev pub assignment_tokens : List Token
assignment_tokens = name 6 1 ∷ mark symbol.Assign 3 ∷ name 1 5 ∷ mark symbol.Question 7 ∷ name 3 9 ∷ a_token (kind.Word (word.Keyword keyword.As) 2) 11
    ∷ a_token (kind.Word (word.Keyword keyword.Int) 4) 14 ∷ mark symbol.Colon 18 ∷ a_token (kind.Word (word.Keyword keyword.New) 5) 20 ∷ a_token (kind.Word word.TypeName 0) 24
    ∷ mark symbol.LeftParen 25 ∷ mark symbol.RightParen 26 ∷ mark symbol.LeftBracket 27 ∷ a_token (kind.Int (pos 0)) 28 ∷ mark symbol.RightBracket 29 ∷ mark symbol.Increment 30 ∷ the_end 32

abbrev pub assignment_tree : Expr
assignment_tree = expr.Assign (column 3) assign.Plain (named 6 1)
    (expr.Choice (column 7) (named 1 5) (Some (expr.Typed (column 11) typing.As (named 3 9) (type.Int (column 14))))
    (expr.Unary (column 30) unary.IncrementAfter
    (expr.Index (column 27) (expr.New (column 20) (ident (column 24) 0) []) (expr.Atom (column 28) (atom.Int (pos 0)) ∷ []))))

-- "x${-> y}$a.b"
abbrev pub string_tokens : List Token
string_tokens = a_token (kind.Text (piece.Head form.Braces) 3) 1 ∷ mark symbol.Arrow 5 ∷ name 4 8 ∷ a_token kind.End 9
    ∷ a_token (kind.Text (piece.Middle form.Path) 0) 10 ∷ name 1 11 ∷ mark symbol.Dot 12 ∷ name 2 13 ∷ a_token kind.End 14 ∷ a_token (kind.Text piece.Tail 0) 14 ∷ the_end 15

abbrev pub string_tree : Expr
string_tree = expr.GString (column 1) (roll-GString (record {
  head = 3;
  parts =
      roll-Part (record { is_lazy = true; value = named 4 8; behind = 0 })
      ∷ roll-Part (record { is_lazy = false; value = expr.Member (column 12) member.Dot (named 1 11) (label.Name (ident (column 13) 2)); behind = 0 }) ∷ [];
}))
