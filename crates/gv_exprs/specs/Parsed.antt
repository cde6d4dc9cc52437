-- What `parse_expr` ensures.
use Rattle.std.specs.Prelude.{◌≡◌, ℕ, List, length, drop, Result, Ok, Err, Some, None, ◌⊎◌}
use Rattle.gv_base.specs.declared.refusal.Refusal.{Refusal}
use Rattle.gv_base.specs.declared.refusal.RefusalKind.TheVariants.{NestedTooDeep}
use Rattle.gv_lex.specs.declared.token.Token.{Token}
use Rattle.gv_tree.specs.declared.expr.Expr.{Expr}
use Rattle.gv_lines.specs.Loads.{too_deep}
use Rattle.gv_grammar.specs.Phrases.{Longest, Nothing}
use Rattle.gv_grammar.specs.Exprs.{IsExpr}
use Rattle.gv_cursor.specs.Refused.{IsRefusalIn}
use Rattle.gv_exprs.specs.declared.parse.ParseError.{ParseError}
use Rattle.gv_exprs.specs.declared.parse.ParseError.TheVariants.{Refused, OutOfMemory}

-- a token stands too deep
pub record StandsTooDeep (tokens : List Token) (r : Refusal) : Type 0 where
  pub token : Token
  pub deep : too_deep tokens ≡ Some token
  pub told : r ≡ record { kind = NestedTooDeep; place = token.place }

-- none does, and no expression begins at this place
pub record NoneBegins (tokens : List Token) (at : ℕ) (r : Refusal) : Type 0 where
  pub flat : too_deep tokens ≡ None
  pub nothing : Nothing (IsExpr (length tokens)) (drop at tokens)
  pub told : IsRefusalIn tokens r

-- none does, and the longest expression from one place ends before the other
pub record Begins (tokens : List Token) (at : ℕ) (x : Expr) (behind : ℕ) : Type 0 where
  pub flat : too_deep tokens ≡ None
  pub reads : Longest (IsExpr (length tokens)) x (drop at tokens) (drop behind tokens)

abbrev pub ParsesExpr : Result (Expr × ℕ) ParseError → List Token → ℕ → Type 0
ParsesExpr (Ok p) tokens at = Begins tokens at p.0 p.1
ParsesExpr (Err (Refused r)) tokens at = StandsTooDeep tokens r ⊎ NoneBegins tokens at r
ParsesExpr (Err OutOfMemory) tokens at = Unit {0}
