use Rattle.std.proofs.Common.{◌≡◌, length, [], ◌∷◌, ◌++◌, List, ap, subst, arith, ◌∙◌, Ok}
use Rattle.gv_spelling.specs.declared.kinds.Symbol.TheVariants as symbol
use Rattle.gv_lex.specs.declared.token.Token.{Token}
use Rattle.gv_tree.specs.declared.expr.Item.{Item}
use Rattle.gv_grammar.specs.Tokens.{Eats}
use Rattle.gv_grammar.specs.Phrases.{Nothing}
use Rattle.gv_grammar.specs.Exprs.{IsItem}
use Rattle.gv_grammar.proofs.Lengths.{less, of_item, of_eats}
use Rattle.gv_cursor.specs.Reading.{Reads, Before}
use Rattle.gv_exprs.specs.Elements.{ends_element, FollowsItem}
use Rattle.gv_cursor.proofs.Results as results
use Rattle.gv_exprs.proofs.Lists.{items_end_here, items_end_behind, reads_item, no_item_comma, no_item_there}
use Rattle.gv_exprs.proofs.reader.Exprs.items.Goals as goal

pub loop-items-init : goal.loop-items-init
loop-items-init g c =
    let e : c.push.new.self ≡ c.args.first ∷ [] = c.in_ok-push.ensures.ok ∙ ap (λ (xs : List Item). xs ++ (c.args.first ∷ [])) (c.new-items.ensures) in
    record { shorter = omega arith; reads = λ r rest d. subst (λ (xs : List Item). Reads (FollowsItem c.args.self.now.all xs) r c.args.tokens.now.rest.now rest) e d }

pub returns-then-eat : goal.returns-then-eat
returns-then-eat g c = c.loop-items.invariant.reads (Ok _) _ (items_end_here c.args.self.now.all (c.if-eat.ensures))

pub returns-in_err-expect : goal.returns-in_err-expect
returns-in_err-expect g c =
    c.loop-items.invariant.reads c.from_residual-in_err-expect.result _ (results.unexpected_on (FollowsItem c.args.self.now.all _) (Eats symbol.Comma) _ _ _ _ _ c.from_residual-in_err-expect.result (c.from_residual-in_err-expect.ensures.1)
    (λ f. no_item_comma c.args.self.now.all (c.if-eat.ensures.1) (rw (← (c.if-eat.ensures.0)) f)) (c.in_err-expect.ensures))

pub returns-then-eat-2 : goal.returns-then-eat-2
returns-then-eat-2 g c =
    let m : Eats symbol.Comma c.loop-items.tokens.rest.now c.expect.new.self.rest.now = rw (← (c.if-eat.ensures.0)) (c.in_ok-expect.ensures) in
    c.loop-items.invariant.reads (Ok _) _ (items_end_behind c.args.self.now.all m (c.if-eat-2.ensures))

pub item-requires-clause-shorter : goal.item-requires-clause-shorter
item-requires-clause-shorter g c =
    let m : Eats symbol.Comma c.loop-items.tokens.rest.now c.expect.new.self.rest.now = rw (← (c.if-eat.ensures.0)) (c.in_ok-expect.ensures) in
    let a = c.loop-items.invariant.shorter in let b = c.requires.shorter in let d = less (of_eats m) in let h = ap length (c.if-eat-2.ensures.0) in omega arith

pub returns-in_err-item : goal.returns-in_err-item
returns-in_err-item g c =
    let m : Eats symbol.Comma c.loop-items.tokens.rest.now c.expect.new.self.rest.now = rw (← (c.if-eat.ensures.0)) (c.in_ok-expect.ensures) in
    c.loop-items.invariant.reads c.from_residual-in_err-item.result c.item.new.tokens.rest.now (results.passed_on (Before ends_element (IsItem c.args.self.now.all)) (FollowsItem c.args.self.now.all _) _ _ _ _ c.from_residual-in_err-item.result (c.from_residual-in_err-item.ensures.1)
    (λ f. no_item_there c.args.self.now.all m (c.if-eat-2.ensures.1) (subst (λ (zs : List Token). Nothing (Before ends_element (IsItem c.args.self.now.all)) zs) (c.if-eat-2.ensures.0) f)) (c.in_err-item.ensures))

pub loop-items-smaller : goal.loop-items-smaller
loop-items-smaller g c =
    let m : Eats symbol.Comma c.loop-items.tokens.rest.now c.expect.new.self.rest.now = rw (← (c.if-eat.ensures.0)) (c.in_ok-expect.ensures) in
    let a = less (of_item c.args.self.now.all (c.in_ok-item.ensures.is)) in let d = less (of_eats m) in let h = ap length (c.if-eat-2.ensures.0) in omega arith

pub loop-items-preserved : goal.loop-items-preserved
loop-items-preserved g c =
    let m : Eats symbol.Comma c.loop-items.tokens.rest.now c.expect.new.self.rest.now = rw (← (c.if-eat.ensures.0)) (c.in_ok-expect.ensures) in
    let a = less (of_item c.args.self.now.all (c.in_ok-item.ensures.is)) in let d = less (of_eats m) in let h = ap length (c.if-eat-2.ensures.0) in let s = c.loop-items.invariant.shorter in
    let i : Before ends_element (IsItem c.args.self.now.all) c.in_ok-item.field-0 c.expect.new.self.rest.now c.item.new.tokens.rest.now = subst (λ (zs : List Token). Before ends_element (IsItem c.args.self.now.all) c.in_ok-item.field-0 zs c.item.new.tokens.rest.now) (c.if-eat-2.ensures.0) (c.in_ok-item.ensures) in
    record {
      shorter = omega arith;
      reads = λ r rest l. c.loop-items.invariant.reads r rest (reads_item c.args.self.now.all c.loop-items.items m (c.if-eat-2.ensures.1) i r rest (subst (λ (xs : List Item). Reads (FollowsItem c.args.self.now.all xs) r c.item.new.tokens.rest.now rest) (c.in_ok-push-2.ensures.ok) l));
    }
