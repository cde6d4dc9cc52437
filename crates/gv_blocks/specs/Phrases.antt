-- What begins a declaration or a `for`, and single cases and catches.
use Rattle.std.specs.Prelude.{◌≡◌, ℕ, Bool, true, false, ◌||◌, List, length, Option, Some, None}
use Rattle.gv_spelling.specs.declared.kinds.Keyword.{Keyword}
use Rattle.gv_spelling.specs.declared.kinds.Keyword.TheVariants as keyword
use Rattle.gv_spelling.specs.declared.kinds.Symbol.TheVariants as symbol
use Rattle.gv_lex.specs.declared.token.Token.{Token}
use Rattle.gv_lex.specs.declared.token.TokenKind.{TokenKind}
use Rattle.gv_lex.specs.declared.token.TokenKind.TheVariants as kind
use Rattle.gv_lex.specs.declared.token.Word.TheVariants as word
use Rattle.gv_tree.specs.declared.expr.Expr.{Expr}
use Rattle.gv_tree.specs.declared.ops.TypeTree.{TypeTree}
use Rattle.gv_tree.specs.declared.ops.VarType.{VarType}
use Rattle.gv_tree.specs.declared.stmt.Case.{Case, roll-Case}
use Rattle.gv_tree.specs.declared.stmt.Catch.{Catch, roll-Catch}
use Rattle.gv_tree.specs.declared.stmt.Stmt.{Stmt}
use Rattle.gv_grammar.specs.Tokens.{Eats, EatsKeyword, EatsAs, kind_of, place_of, name_of, ident}
use Rattle.gv_grammar.specs.Exprs.{IsExpr}
use Rattle.gv_grammar.specs.Stmts.{begins_typed, MayTyped, IsForIn, MayTypes, IsValue, AreStmts, IsBlock}

abbrev pub keyword_begins_decl : Keyword → Bool
keyword_begins_decl keyword.Final = true
keyword_begins_decl keyword.Def = true
keyword_begins_decl keyword.Int = true
keyword_begins_decl keyword.Long = true
keyword_begins_decl keyword.Boolean = true
keyword_begins_decl k = false

abbrev pub word_begins_decl : TokenKind → Bool
word_begins_decl (kind.Word (word.Keyword k) n) = keyword_begins_decl k
word_begins_decl other = false

-- a declaration begins here
abbrev pub begins_decl : List Token → Bool
begins_decl ts = word_begins_decl (kind_of ts) || begins_typed ts

-- a name, perhaps with a type before it, and `in` or `:` stand behind the `(` of a `for`
pub data IsForInHead : List Token → Type 0 where
  for_in_head : {tokens : List Token} {w : Option VarType} {n : ℕ} {ts us vs ws xs ys : List Token} → EatsKeyword keyword.For ts us → Eats symbol.LeftParen us vs → MayTyped tokens false w vs ws
      → EatsAs name_of n ws xs → IsForIn tokens xs ys → IsForInHead ts

module _ (tokens : List Token) where
  -- an expression and a `;` stand behind the `(` of a `for`
  pub data BeginsParts : List Token → Type 0 where
    begins_parts : {x : Expr} {ts us vs ws xs : List Token} → EatsKeyword keyword.For ts us → Eats symbol.LeftParen us vs → begins_typed vs ≡ false → IsExpr (length tokens) x vs ws
        → Eats symbol.Semicolon ws xs → BeginsParts ts

  pub data IsCase : Case → List Token → List Token → Type 0 where
    with_value : {x : Expr} {b : List Stmt} {ts us vs ws rest : List Token} → EatsKeyword keyword.Case ts us → IsValue tokens x us vs → Eats symbol.Colon vs ws → AreStmts tokens b ws rest
        → IsCase (roll-Case (record { place = place_of ts; value = Some x; body = b })) ts rest
    without : {b : List Stmt} {ts us vs rest : List Token} → EatsKeyword keyword.Default ts us → Eats symbol.Colon us vs → AreStmts tokens b vs rest
        → IsCase (roll-Case (record { place = place_of ts; value = None; body = b })) ts rest

  pub data IsCatch : Catch → List Token → List Token → Type 0 where
    one_catch : {types : List TypeTree} {n : ℕ} {b : List Stmt} {ts us vs ws xs ys rest : List Token} → EatsKeyword keyword.Catch ts us → Eats symbol.LeftParen us vs
        → MayTypes tokens types vs ws → EatsAs name_of n ws xs → Eats symbol.RightParen xs ys → IsBlock tokens b ys rest
        → IsCatch (roll-Catch (record { place = place_of ts; types = types; ident = ident (place_of ws) n; body = b })) ts rest
