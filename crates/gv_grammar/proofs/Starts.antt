-- Each token with which an expression can begin begins one.
use Rattle.std.proofs.Common.{◌≡◌, ℕ, true, List, [], ◌∷◌, refl, ap, Some}
use Rattle.gv_spelling.specs.declared.kinds.Keyword.{Keyword}
use Rattle.gv_spelling.specs.declared.kinds.Keyword.TheVariants as keyword
use Rattle.gv_spelling.specs.declared.kinds.Symbol.{Symbol}
use Rattle.gv_spelling.specs.declared.kinds.Symbol.TheVariants as symbol
use Rattle.gv_lex.specs.declared.token.Part.{Part as Form}
use Rattle.gv_lex.specs.declared.token.Part.TheVariants as form
use Rattle.gv_lex.specs.declared.token.Piece.TheVariants as piece
use Rattle.gv_lex.specs.declared.token.Token.{Token}
use Rattle.gv_lex.specs.declared.token.TokenKind.{TokenKind}
use Rattle.gv_lex.specs.declared.token.TokenKind.TheVariants as kind
use Rattle.gv_lex.specs.declared.token.Word.TheVariants as word
use Rattle.gv_tree.specs.declared.expr.Atom.{Atom}
use Rattle.gv_tree.specs.declared.expr.Expr.{Expr}
use Rattle.gv_tree.specs.declared.ops.UnaryOp.{UnaryOp}
use Rattle.gv_grammar.specs.Tokens.{eats, eats_keyword, eats_piece, eats_end, eats_as, atom_of, prefix_of, begins_expr}
use Rattle.gv_grammar.specs.Exprs.{none, unread, IsExpr, prefix, no_prefix, a_path, path_ends, gstring, last_part, eager, names, names_end, no_argument, no_element, an_atom, a_gstring, parens, a_list, a_closure, a_new}
use Rattle.gv_grammar.proofs.Tails.{unit_expr, as_expr}

module _ (all : ℕ) where
  abbrev Begun : Token → Type 0
  Begun t = (x : Expr) × (ts : List Token) × (rest : List Token) × IsExpr all x (t ∷ ts) rest

  -- a token of another kind at the same place
  abbrev like : Token → TokenKind → Token
  like t c = record { kind = c; place = t.place }

  abbrev a_name : Token → Token
  a_name t = like t (kind.Word word.Name 0)

  by_atom : (t : Token) {a : Atom} → atom_of t.kind ≡ Some a → Begun t
  by_atom t p = (_, [], [], as_expr all (an_atom p))

  by_prefix : (t : Token) {op : UnaryOp} → prefix_of t.kind ≡ Some op → Begun t
  by_prefix t p = (_, a_name t ∷ [], [], unit_expr all (prefix p (no_prefix (a_path (an_atom refl) path_ends))))

  by_symbol : (t : Token) (s : Symbol) → t.kind ≡ kind.Symbol s → begins_expr (kind.Symbol s) ≡ true → Begun t
  by_symbol t symbol.LeftParen e p = (_, a_name t ∷ like t (kind.Symbol symbol.RightParen) ∷ [], [], as_expr all (parens (eats e) (as_expr all (an_atom refl)) (eats refl)))
  by_symbol t symbol.LeftBracket e p = (_, like t (kind.Symbol symbol.RightBracket) ∷ [], [], as_expr all (a_list (eats e) (no_element (eats refl))))
  by_symbol t symbol.LeftBrace e p = (_, like t (kind.Symbol symbol.RightBrace) ∷ [], [], as_expr all (a_closure (unread (eats e) (none refl) (eats refl))))
  by_symbol t symbol.Not e p = by_prefix t (ap prefix_of e)
  by_symbol t symbol.Minus e p = by_prefix t (ap prefix_of e)
  by_symbol t symbol.Plus e p = by_prefix t (ap prefix_of e)
  by_symbol t symbol.Increment e p = by_prefix t (ap prefix_of e)
  by_symbol t symbol.Decrement e p = by_prefix t (ap prefix_of e)
  by_symbol t s e p = cc

  by_keyword : (t : Token) (k : Keyword) (n : ℕ) → t.kind ≡ kind.Word (word.Keyword k) n → begins_expr (kind.Word (word.Keyword k) n) ≡ true → Begun t
  by_keyword t keyword.Null n e p = by_atom t (ap atom_of e)
  by_keyword t keyword.True n e p = by_atom t (ap atom_of e)
  by_keyword t keyword.False n e p = by_atom t (ap atom_of e)
  by_keyword t keyword.This n e p = by_atom t (ap atom_of e)
  by_keyword t keyword.Super n e p = by_atom t (ap atom_of e)
  by_keyword t keyword.New n e p = (
    _,
    like t (kind.Word word.TypeName 0) ∷ like t (kind.Symbol symbol.LeftParen) ∷ like t (kind.Symbol symbol.RightParen) ∷ [],
    [],
    as_expr all (a_new (eats_keyword e) (eats_as refl) (eats refl) (no_argument (eats refl))),
  )
  by_keyword t k n e p = cc

  by_head : (t : Token) (f : Form) (n : ℕ) → t.kind ≡ kind.Text (piece.Head f) n → Begun t
  by_head t form.Braces n e = (
    _,
    a_name t ∷ like t kind.End ∷ like t (kind.Text piece.Tail 0) ∷ [],
    [],
    as_expr all (a_gstring (gstring (eats_piece e) (last_part (eager (as_expr all (an_atom refl)) (eats_end refl)) (eats_piece refl)))),
  )
  by_head t form.Path n e = (
    _,
    a_name t ∷ like t kind.End ∷ like t (kind.Text piece.Tail 0) ∷ [],
    [],
    as_expr all (a_gstring (gstring (eats_piece e) (last_part (names (eats_as refl) names_end (eats_end refl)) (eats_piece refl)))),
  )

  by_kind : (t : Token) (c : TokenKind) → t.kind ≡ c → begins_expr c ≡ true → Begun t
  by_kind t (kind.Word word.Name n) e p = by_atom t (ap atom_of e)
  by_kind t (kind.Word word.TypeName n) e p = by_atom t (ap atom_of e)
  by_kind t (kind.Word (word.Keyword k) n) e p = by_keyword t k n e p
  by_kind t (kind.Int z) e p = by_atom t (ap atom_of e)
  by_kind t (kind.Long z) e p = by_atom t (ap atom_of e)
  by_kind t (kind.Text piece.Whole n) e p = by_atom t (ap atom_of e)
  by_kind t (kind.Text (piece.Head f) n) e p = by_head t f n e
  by_kind t (kind.Symbol s) e p = by_symbol t s e p
  by_kind t c e p = cc

  pub begun : (t : Token) → begins_expr t.kind ≡ true → Begun t
  begun t p = by_kind t t.kind refl p
