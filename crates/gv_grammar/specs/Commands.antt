-- Full expressions: expressions, and commands without parentheses. Closures stay unread here.
use Rattle.std.specs.Prelude.{◌≡◌, ◌≢◌, ℕ, Bool, true, false, List, [], ◌∷◌, Some, None}
use Rattle.gv_spelling.specs.declared.kinds.Symbol.TheVariants as symbol
use Rattle.gv_lex.specs.declared.token.Token.{Token}
use Rattle.gv_lex.specs.declared.token.TokenKind.TheVariants as kind
use Rattle.gv_tree.specs.declared.expr.Arg.{Arg}
use Rattle.gv_tree.specs.declared.expr.Arg.TheVariants as arg
use Rattle.gv_tree.specs.declared.expr.Expr.{Expr, out-Expr}
use Rattle.gv_tree.specs.declared.expr.Expr.TheVariants as expr
use Rattle.gv_tree.specs.declared.expr.Arg.TheOpen.{Expr-F}
use Rattle.gv_tree.specs.declared.expr.Key.{Key}
use Rattle.gv_tree.specs.declared.expr.Label.TheVariants as label
use Rattle.gv_tree.specs.declared.ops.AssignOp.{AssignOp}
use Rattle.gv_tree.specs.declared.ops.MemberOp.TheVariants as member
use Rattle.gv_grammar.specs.Tokens.{Eats, EatsAs, kind_of, place_of, name_of, ident, assign_of, begins_arguments, begins_call}
use Rattle.gv_grammar.specs.Exprs.{Layer, is_name, is_target, IsCond, IsPath, IsSuffix, IsKey}

abbrev pub name_layer : Layer → Bool
name_layer (Expr-F.Atom p a) = is_name a
name_layer (Expr-F.Member p op x l) = true
name_layer other = false

-- a path ends in a name or a member
unfoldable pub ends_in_name : Expr → Bool
ends_in_name x = name_layer (out-Expr x)

abbrev pub call_layer : Layer → Bool
call_layer (Expr-F.Call p x args) = true
call_layer other = false

-- a path ends in a call
unfoldable pub ends_in_call : Expr → Bool
ends_in_call x = call_layer (out-Expr x)

-- the member of a name
abbrev pub property : Expr → List Token → ℕ → Expr
property x ts n = expr.Member (place_of ts) member.Dot x (label.Name (ident (place_of ts) n))

module _ (all : ℕ) where
  -- carg = [ label ':' ] cond
  pub data IsCommandArg : Arg → List Token → List Token → Type 0 where
    plain_carg : {x : Expr} {ts rest : List Token} → IsCond all x ts rest → kind_of rest ≢ kind.Symbol symbol.Colon → IsCommandArg (arg.Plain x) ts rest
    keyed_carg : {k : Key} {x : Expr} {ts us vs rest : List Token} → IsKey all k ts us → Eats symbol.Colon us vs → IsCond all x vs rest → IsCommandArg (arg.Keyed k x) ts rest

  -- cargs = carg { ',' carg }: a comma behind an argument goes on with them
  pub data AreCommandArgs : List Arg → List Token → List Token → Type 0 where
    last_carg : {a : Arg} {ts rest : List Token} → IsCommandArg a ts rest → kind_of rest ≢ kind.Symbol symbol.Comma → AreCommandArgs (a ∷ []) ts rest
    more_cargs : {a : Arg} {args : List Arg} {ts us vs rest : List Token} → IsCommandArg a ts us → Eats symbol.Comma us vs → AreCommandArgs args vs rest → AreCommandArgs (a ∷ args) ts rest

  -- link = NAME cargs | NAME call
  pub data IsLink : Expr → Expr → List Token → List Token → Type 0 where
    link_args : {x : Expr} {n : ℕ} {args : List Arg} {ts us rest : List Token} → EatsAs name_of n ts us → begins_arguments (kind_of us) ≡ true → AreCommandArgs args us rest
        → IsLink x (expr.Call (place_of us) (property x ts n) args) ts rest
    link_call : {x y : Expr} {n : ℕ} {ts us rest : List Token} → EatsAs name_of n ts us → begins_call (kind_of us) ≡ true → IsSuffix all (property x ts n) y us rest → IsLink x y ts rest

  -- a last NAME, which neither arguments nor a call follow
  pub data IsProperty : Expr → Expr → List Token → List Token → Type 0 where
    last_name : {x : Expr} {n : ℕ} {ts rest : List Token} → EatsAs name_of n ts rest → begins_arguments (kind_of rest) ≡ false → begins_call (kind_of rest) ≡ false
        → IsProperty x (property x ts n) ts rest

  -- { link } [ NAME ]
  pub data GoesCommand : Expr → Expr → List Token → List Token → Type 0 where
    command_ends : {x : Expr} {rest : List Token} → name_of (kind_of rest) ≡ None → GoesCommand x x rest rest
    command_link : {x y z : Expr} {ts us rest : List Token} → IsLink x y ts us → GoesCommand y z us rest → GoesCommand x z ts rest
    command_name : {x y : Expr} {ts rest : List Token} → IsProperty x y ts rest → GoesCommand x y ts rest

  -- cmd = path cargs { link } [ NAME ] | path link { link } [ NAME ] | path NAME
  pub data IsCommand : Expr → List Token → List Token → Type 0 where
    with_args : {x y : Expr} {args : List Arg} {ts us vs rest : List Token} → IsPath all x ts us → ends_in_name x ≡ true → begins_arguments (kind_of us) ≡ true
        → AreCommandArgs args us vs → GoesCommand (expr.Call (place_of us) x args) y vs rest → IsCommand y ts rest
    with_link : {x y z : Expr} {ts us vs rest : List Token} → IsPath all x ts us → ends_in_call x ≡ true → IsLink x y us vs → GoesCommand y z vs rest → IsCommand z ts rest
    with_name : {x y : Expr} {ts us rest : List Token} → IsPath all x ts us → ends_in_call x ≡ true → IsProperty x y us rest → IsCommand y ts rest

  -- full = cond [ asg full ] | cmd
  pub data IsFull : Expr → List Token → List Token → Type 0 where
    full_cond : {x : Expr} {ts rest : List Token} → IsCond all x ts rest → begins_arguments (kind_of rest) ≡ false → IsFull x ts rest
    full_assign : {x y : Expr} {t : Token} {op : AssignOp} {ts us rest : List Token} → IsCond all x ts (t ∷ us) → assign_of t.kind ≡ Some op → is_target x ≡ true → IsFull y us rest
        → IsFull (expr.Assign t.place op x y) ts rest
    full_command : {x : Expr} {ts rest : List Token} → IsCommand x ts rest → IsFull x ts rest
