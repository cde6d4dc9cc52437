use Rattle.std.proofs.Common.{◌≡◌, ℕ, ◌-◌, List, length, refl}
use Rattle.gv_base.specs.declared.refusal.Place.{Place}
use Rattle.gv_spelling.specs.declared.kinds.Symbol.TheVariants as symbol
use Rattle.gv_lex.specs.declared.token.Token.{Token}
use Rattle.gv_tree.specs.declared.expr.Closure.TheVariants as closure
use Rattle.gv_tree.specs.declared.expr.Expr.TheVariants as expr
use Rattle.gv_grammar.specs.Tokens.{Eats, place_of}
use Rattle.gv_grammar.specs.Exprs.{Matched, IsClosure, unread}
use Rattle.gv_grammar.proofs.Skipped.{no_closure_inner, no_closure_close}
use Rattle.gv_cursor.proofs.braces.closure.Goals as goal

pub returns-then-not-skip : goal.returns-then-not-skip
returns-then-not-skip c = (refl, no_closure_inner c.args.all c.if-not-eat.ensures c.if-not-skip.ensures)

pub returns-then-not-eat-2 : goal.returns-then-not-eat-2
returns-then-not-eat-2 c = (refl, no_closure_close c.args.all c.if-not-eat.ensures c.if-not-skip.ensures c.if-not-eat-2.ensures.1)

told : {all from to : ℕ} {place : Place} {ts us vs rest : List Token} → Eats symbol.LeftBrace ts us → Matched us vs → Eats symbol.RightBrace vs rest
    → place ≡ place_of ts → from ≡ all - length us → to ≡ all - length vs → IsClosure all (expr.Closure place (closure.Unread from to)) ts rest
told o m c p q r = rw (p, q, r) (unread o m c)

pub returns : goal.returns
returns c = told c.if-not-eat.ensures c.if-not-skip.ensures c.if-not-eat-2.ensures c.place-place.ensures c.saturating_sub-from.ensures c.saturating_sub-to.ensures
