use Rattle.gv_blocks.proofs.catches.may_types.Goals.{then-is_name_token+else-not-begins_types, else-is_name_token}
use Rattle.gv_spelling.specs.declared.kinds.Symbol.TheVariants as symbol
use Rattle.std.proofs.Common.{◌≡◌, ap, length, length-drop, arith, true, false, Some, None, drop}
use Rattle.gv_grammar.specs.Tokens.{Eats, kind_of, place_of, type_of}
use Rattle.gv_grammar.specs.Stmts.{is_name_token, begins_types, MayTypes, no_types}
use Rattle.gv_grammar.proofs.Lengths.{less, of_eats}
use Rattle.gv_cursor.proofs.Results.{unexpected_on_exactly}
use Rattle.gv_blocks.proofs.Bodies.{refused_here}
use Rattle.gv_blocks.proofs.TryStmts.{types_begin, types_end, no_type, no_bar, types_more}
use Rattle.gv_blocks.proofs.catches.may_types.Goals as goal

pub returns-then-not-begins_types : goal.returns-then-not-begins_types
returns-then-not-begins_types c = let p : is_name_token (kind_of c.args.cursor.now.rest.now) ≡ true = cc in let q : begins_types c.args.cursor.now.rest.now ≡ false = cc in λ tokens. rw c.new-types.ensures (no_types p q)

pub loop-written-init : goal.loop-written-init
loop-written-init c = λ tokens. rw c.new-types.ensures (types_begin tokens (elim c.if-is_name_token.branch [
  | then-is_name_token+else-not-begins_types w ↦ (λ h. let q : begins_types c.args.cursor.now.rest.now ≡ true = cc in q)
  | else-is_name_token w ↦ (λ h. let p : is_name_token (kind_of c.args.cursor.now.rest.now) ≡ false = cc in cc)
]))

pub returns-in_default : goal.returns-in_default
returns-in_default c = let h : type_of (place_of c.loop-written.cursor.rest.now) (kind_of c.loop-written.cursor.rest.now) ≡ None = cc in λ tokens. refused_here (MayTypes tokens) _ (c.refuse.ensures.0) (no_type tokens (c.loop-written.invariant tokens) h)

pub returns-then-is_name_token-2 : goal.returns-then-is_name_token-2
returns-then-is_name_token-2 c =
    let h : type_of (place_of c.loop-written.cursor.rest.now) (kind_of c.loop-written.cursor.rest.now) ≡ Some c.in-Some.written = cc in
    let n : is_name_token (kind_of (drop 1 c.loop-written.cursor.rest.now)) ≡ true = cc in
    λ tokens. rw (c.in_ok-push.ensures.ok, c.advance.ensures) (types_end tokens (c.loop-written.invariant tokens) h n)

pub loop-written-smaller : goal.loop-written-smaller
loop-written-smaller c = let a = ap length c.advance.ensures in let b = length-drop 1 c.loop-written.cursor.rest.now in let d = less (of_eats (c.in_ok-expect.ensures)) in omega arith

pub loop-written-preserved : goal.loop-written-preserved
loop-written-preserved c =
    let h : type_of (place_of c.loop-written.cursor.rest.now) (kind_of c.loop-written.cursor.rest.now) ≡ Some c.in-Some.written = cc in
    let b : Eats symbol.Bar (drop 1 c.loop-written.cursor.rest.now) c.expect.new.self.rest.now = rw (← c.advance.ensures) (c.in_ok-expect.ensures) in
    λ tokens. rw c.in_ok-push.ensures.ok (types_more tokens (c.loop-written.invariant tokens) h b)

pub returns-in_err-expect : goal.returns-in_err-expect
returns-in_err-expect c =
    let n : is_name_token (kind_of (drop 1 c.loop-written.cursor.rest.now)) ≡ false = cc in
    λ tokens. unexpected_on_exactly (MayTypes tokens) (Eats symbol.Bar) _ _ _ _ _ c.from_residual-in_err-expect.result (c.from_residual-in_err-expect.ensures.1)
    (λ f. no_bar tokens (c.loop-written.invariant tokens) n (rw (← c.advance.ensures) f)) (c.in_err-expect.ensures)
