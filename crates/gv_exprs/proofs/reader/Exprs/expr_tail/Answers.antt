use Rattle.std.proofs.Common.{◌≡◌, drop, true, Some, None, inl, inr}
use Rattle.gv_grammar.specs.Phrases.{Longest}
use Rattle.gv_grammar.specs.Tokens.{kind_of, assign_of}
use Rattle.gv_grammar.specs.Exprs.{is_target, IsExpr}
use Rattle.gv_grammar.proofs.LongerOperators as longer
use Rattle.gv_exprs.proofs.reader.Exprs.expr_tail.Goals as goal

pub returns-in_default : goal.returns-in_default
returns-in_default g c = let p : assign_of (kind_of c.args.tokens.now.rest.now) ≡ None = cc in longer.expr_tail_ends c.args.self.now.all (inl p)

pub returns-then-not-is_target : goal.returns-then-not-is_target
returns-then-not-is_target g c = longer.expr_tail_ends c.args.self.now.all (inr (cc))

pub returns-in_ok-new-in-Ok-2 : goal.returns-in_ok-new-in-Ok-2
returns-in_ok-new-in-Ok-2 g c =
    let p : assign_of (kind_of c.args.tokens.now.rest.now) ≡ Some c.in-Some.op = cc in
    let q : is_target c.args.left ≡ true = cc in
    let l : Longest (IsExpr c.args.self.now.all) c.in-Ok.right (drop 1 c.args.tokens.now.rest.now) c.inner_expr.new.tokens.rest.now = rw (← c.advance.ensures) (c.in-Ok.ensures) in
    rw (c.place-place.ensures, c.in_ok-new-in-Ok.ensures, c.in_ok-new-in-Ok-2.ensures) (longer.expr_tail_assigns c.args.self.now.all p q l)

pub returns-in-Err-Refused : goal.returns-in-Err-Refused
returns-in-Err-Refused g c = longer.expr_tail_refused c.args.self.now.all (rw (← c.advance.ensures) (rw c.in-Err-Refused.field-0-is at (c.in-Err-Refused.ensures)))
