-- How a command begins, and how it goes on from there.
use Rattle.std.specs.Prelude.{◌≡◌, ℕ, true, List, Option, None, Some, Result, Ok, Err}
use Rattle.gv_lex.specs.declared.token.Token.{Token}
use Rattle.gv_lex.specs.declared.token.TokenKind.{TokenKind}
use Rattle.gv_tree.specs.declared.expr.Arg.{Arg}
use Rattle.gv_tree.specs.declared.expr.Expr.{Expr}
use Rattle.gv_tree.specs.declared.expr.Expr.TheVariants as expr
use Rattle.gv_grammar.specs.Phrases.{Longest, Nothing}
use Rattle.gv_grammar.specs.Tokens.{kind_of, place_of, name_of, begins_arguments}
use Rattle.gv_grammar.specs.Exprs.{IsPath}
use Rattle.gv_grammar.specs.Commands.{ends_in_name, ends_in_call, IsCommand, GoesCommand, AreCommandArgs}
use Rattle.gv_cursor.specs.declared.error.ReadError.{ReadError}
use Rattle.gv_cursor.specs.declared.error.ReadError.TheVariants.{Refused, OutOfMemory}

-- a command whose path is x goes on with this token
pub data IsCommandHead (x : Expr) (k : TokenKind) : Type 0 where
  before_arguments : ends_in_name x ≡ true → begins_arguments k ≡ true → IsCommandHead x k
  before_name : {n : ℕ} → ends_in_call x ≡ true → name_of k ≡ Some n → IsCommandHead x k

module _ (all : ℕ) where
  -- the path of a command is found, or no command stands there and nothing is passed
  abbrev pub FindsHead : Result (Option Expr) ReadError → List Token → List Token → Type 0
  FindsHead (Ok (Some x)) ts rest = Longest (IsPath all) x ts rest × IsCommandHead x (kind_of rest)
  FindsHead (Ok None) ts rest = (rest ≡ ts) × Nothing (IsCommand all) ts
  FindsHead (Err OutOfMemory) ts rest = Unit {0}
  FindsHead (Err Refused) ts rest = ⊥

  -- a command goes on from its path
  pub data GoesFrom (x : Expr) : Expr → List Token → List Token → Type 0 where
    from_arguments : {y : Expr} {args : List Arg} {ts us rest : List Token} → ends_in_name x ≡ true → begins_arguments (kind_of ts) ≡ true → AreCommandArgs all args ts us
        → GoesCommand all (expr.Call (place_of ts) x args) y us rest → GoesFrom x y ts rest
    from_name : {n : ℕ} {y : Expr} {ts rest : List Token} → ends_in_call x ≡ true → name_of (kind_of ts) ≡ Some n → GoesCommand all x y ts rest → GoesFrom x y ts rest
