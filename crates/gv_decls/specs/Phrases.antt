-- Phrases beside those of the grammar, and what reading closures ensures.
use Rattle.std.specs.Prelude.{◌≡◌, ◌≢◌, ℕ, ◌<◌, Bool, List, drop, Option, None, Result, Ok, Err}
use Rattle.gv_spelling.specs.declared.kinds.Keyword.{Keyword}
use Rattle.gv_spelling.specs.declared.kinds.Symbol.TheVariants as symbol
use Rattle.gv_lex.specs.declared.token.Token.{Token}
use Rattle.gv_lex.specs.declared.token.TokenKind.TheVariants as kind
use Rattle.gv_lex.specs.declared.token.Word.TheVariants as word
use Rattle.gv_tree.specs.declared.expr.Expr.{Expr}
use Rattle.gv_tree.specs.declared.expr.Param.{Param, out-Param}
use Rattle.gv_tree.specs.declared.ops.Ident.{Ident}
use Rattle.gv_tree.specs.declared.ops.VarType.{VarType}
use Rattle.gv_grammar.specs.Tokens.{EatsAs, kind_of, place_of, name_of, reach, ident}
use Rattle.gv_grammar.specs.Stmts.{Reads, MayTyped, IsParam}
use Rattle.gv_cursor.specs.declared.error.ReadError.{ReadError}
use Rattle.gv_cursor.specs.declared.error.ReadError.TheVariants.{Refused, OutOfMemory}

-- this keyword comes next
abbrev pub NextIs : Keyword → List Token → Type 0
NextIs k ts = (n : ℕ) × (kind_of ts ≡ kind.Word (word.Keyword k) n)

pub data IsName : Ident → List Token → List Token → Type 0 where
  a_name : {n : ℕ} {ts rest : List Token} → EatsAs name_of n ts rest → IsName (ident (place_of ts) n) ts rest

-- a tree with its closures read, or one of them can't be
abbrev pub ReadsTree : List Token → Expr → Result Expr ReadError → Type 0
ReadsTree tokens x (Ok y) = Reads tokens x y
ReadsTree tokens x (Err OutOfMemory) = Unit {0}
ReadsTree tokens x (Err Refused) = (y : Expr) → Reads tokens x y → ⊥

module _ (tokens : List Token) where
  -- how the next name is declared; a name alone has no `...` behind it
  pub record IsTyped (found : Bool × Option VarType) (ts rest : List Token) : Type 0 where
    pub is : MayTyped tokens found.0 found.1 ts rest
    pub alone : found.1 ≡ None → kind_of (drop 1 ts) ≢ kind.Symbol symbol.Ellipsis

  -- a parameter before what can end it: no expression goes on there, and it is no `...`, as if the name were a type
  pub record IsParamAlone (p : Param) (ts rest : List Token) : Type 0 where
    pub is : IsParam tokens (out-Param p).is_rest p ts rest
    pub stops : 12 < reach (kind_of rest)
    pub alone : kind_of rest ≢ kind.Symbol symbol.Ellipsis
