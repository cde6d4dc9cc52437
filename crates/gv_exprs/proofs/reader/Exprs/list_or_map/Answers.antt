use Rattle.std.proofs.Common.{◌≡◌, length, [], ◌∷◌, List, sym, ap, subst, arith, ◌∙◌}
use Rattle.gv_spelling.specs.declared.kinds.Symbol.TheVariants as symbol
use Rattle.gv_lex.specs.declared.token.Token.{Token}
use Rattle.gv_grammar.specs.Tokens.{Eats}
use Rattle.gv_grammar.specs.Phrases.{Nothing}
use Rattle.gv_grammar.specs.Exprs.{no_element}
use Rattle.gv_grammar.proofs.Lengths.{less}
use Rattle.gv_cursor.specs.Reading.{Before}
use Rattle.gv_exprs.specs.declared.elements.ItemOrEntry.TheVariants as sort
use Rattle.gv_exprs.specs.Elements.{ends_element, sorted, IsElement, FollowsItem, FollowsEntry, IsListOrMap, a_list_of, an_empty_map}
use Rattle.gv_cursor.proofs.Results as results
use Rattle.gv_exprs.proofs.Lists.{of_element, long_list, no_empty_map_end, no_first, list_here, map_here, no_list_here, no_map_here}
use Rattle.gv_exprs.proofs.reader.Exprs.list_or_map.Goals as goal

pub returns-then-eat : goal.returns-then-eat
returns-then-eat g c = rw (c.new.ensures) (long_list c.args.self.now.all (a_list_of (no_element (c.if-eat.ensures))))

pub returns-in_err-expect : goal.returns-in_err-expect
returns-in_err-expect g c =
    let p : Eats symbol.Colon c.args.tokens.now.rest.now c.eat-2.new.self.rest.now = rw (← (c.if-eat.ensures.0)) (c.if-eat-2.ensures) in
    results.unexpected_on (IsListOrMap c.args.self.now.all c.args.place) (Eats symbol.RightBracket) _ _ _ _ _ c.from_residual.result (c.from_residual.ensures.1) (λ f. no_empty_map_end c.args.self.now.all p f) (c.in_err-expect.ensures)

pub returns-then-eat-2 : goal.returns-then-eat-2
returns-then-eat-2 g c =
    let p : Eats symbol.Colon c.args.tokens.now.rest.now c.eat-2.new.self.rest.now = rw (← (c.if-eat.ensures.0)) (c.if-eat-2.ensures) in
    rw (c.new-then-eat-2.ensures) (long_list c.args.self.now.all (an_empty_map p (c.in_ok-expect.ensures)))

pub returns-in_err-element : goal.returns-in_err-element
returns-in_err-element g c =
    let e : c.eat-2.new.self.rest.now ≡ c.args.tokens.now.rest.now = c.if-eat-2.ensures.0 ∙ c.if-eat.ensures.0 in
    let n : (after : List Token) → Eats symbol.Colon c.args.tokens.now.rest.now after → ⊥ = rw (← (c.if-eat.ensures.0)) (c.if-eat-2.ensures.1) in
    results.passed_on (Before ends_element (IsElement c.args.self.now.all)) (IsListOrMap c.args.self.now.all c.args.place) _ _ _ _ c.from_residual-in_err-element.result (c.from_residual-in_err-element.ensures.1)
    (λ f. no_first c.args.self.now.all (c.if-eat.ensures.1) n (subst (λ (zs : List Token). Nothing (Before ends_element (IsElement c.args.self.now.all)) zs) e f)) (c.in_err-element.ensures)

pub items-requires-clause-shorter : goal.items-requires-clause-shorter
items-requires-clause-shorter g c =
    let e : c.eat-2.new.self.rest.now ≡ c.args.tokens.now.rest.now = c.if-eat-2.ensures.0 ∙ c.if-eat.ensures.0 in
    let a = less (of_element c.args.self.now.all (c.in_ok-element.ensures.is)) in let b = c.requires.shorter in let h = ap length e in omega arith

pub returns-in_err-items-in-Item : goal.returns-in_err-items-in-Item
returns-in_err-items-in-Item g c =
    let e : c.eat-2.new.self.rest.now ≡ c.args.tokens.now.rest.now = c.if-eat-2.ensures.0 ∙ c.if-eat.ensures.0 in
    let n : (after : List Token) → Eats symbol.Colon c.args.tokens.now.rest.now after → ⊥ = rw (← (c.if-eat.ensures.0)) (c.if-eat-2.ensures.1) in
    let d : Before ends_element (IsElement c.args.self.now.all) c.in_ok-element.field-0 c.args.tokens.now.rest.now c.element.new.tokens.rest.now = subst (λ (zs : List Token). Before ends_element (IsElement c.args.self.now.all) c.in_ok-element.field-0 zs c.element.new.tokens.rest.now) e (c.in_ok-element.ensures) in
    let h : sorted c.in_ok-element.field-0 ≡ sort.Item c.in-Item.first = sym (c.in_ok-first.ensures) ∙ c.in-Item.is in
    results.passed_on (FollowsItem c.args.self.now.all (c.in-Item.first ∷ [])) (IsListOrMap c.args.self.now.all c.args.place) _ _ _ _ c.from_residual-in_err-items-in-Item.result (c.from_residual-in_err-items-in-Item.ensures.1)
    (λ f. no_list_here c.args.self.now.all (c.if-eat.ensures.1) n d h f) (c.in_err-items-in-Item.ensures)

pub returns-in_ok-items-in-Item : goal.returns-in_ok-items-in-Item
returns-in_ok-items-in-Item g c =
    let e : c.eat-2.new.self.rest.now ≡ c.args.tokens.now.rest.now = c.if-eat-2.ensures.0 ∙ c.if-eat.ensures.0 in
    let d : Before ends_element (IsElement c.args.self.now.all) c.in_ok-element.field-0 c.args.tokens.now.rest.now c.element.new.tokens.rest.now = subst (λ (zs : List Token). Before ends_element (IsElement c.args.self.now.all) c.in_ok-element.field-0 zs c.element.new.tokens.rest.now) e (c.in_ok-element.ensures) in
    let h : sorted c.in_ok-element.field-0 ≡ sort.Item c.in-Item.first = sym (c.in_ok-first.ensures) ∙ c.in-Item.is in
    list_here c.args.self.now.all d.is h (c.in_ok-items-in-Item.ensures.is)

pub entries-requires-clause-shorter : goal.entries-requires-clause-shorter
entries-requires-clause-shorter g c =
    let e : c.eat-2.new.self.rest.now ≡ c.args.tokens.now.rest.now = c.if-eat-2.ensures.0 ∙ c.if-eat.ensures.0 in
    let a = less (of_element c.args.self.now.all (c.in_ok-element.ensures.is)) in let b = c.requires.shorter in let h = ap length e in omega arith

pub returns-in_err-entries-in-Entry : goal.returns-in_err-entries-in-Entry
returns-in_err-entries-in-Entry g c =
    let e : c.eat-2.new.self.rest.now ≡ c.args.tokens.now.rest.now = c.if-eat-2.ensures.0 ∙ c.if-eat.ensures.0 in
    let n : (after : List Token) → Eats symbol.Colon c.args.tokens.now.rest.now after → ⊥ = rw (← (c.if-eat.ensures.0)) (c.if-eat-2.ensures.1) in
    let d : Before ends_element (IsElement c.args.self.now.all) c.in_ok-element.field-0 c.args.tokens.now.rest.now c.element.new.tokens.rest.now = subst (λ (zs : List Token). Before ends_element (IsElement c.args.self.now.all) c.in_ok-element.field-0 zs c.element.new.tokens.rest.now) e (c.in_ok-element.ensures) in
    let h : sorted c.in_ok-element.field-0 ≡ sort.Entry c.in-Entry.first = sym (c.in_ok-first.ensures) ∙ c.in-Entry.is in
    results.passed_on (FollowsEntry c.args.self.now.all (c.in-Entry.first ∷ [])) (IsListOrMap c.args.self.now.all c.args.place) _ _ _ _ c.from_residual-in_err-entries-in-Entry.result (c.from_residual-in_err-entries-in-Entry.ensures.1)
    (λ f. no_map_here c.args.self.now.all (c.if-eat.ensures.1) n d h f) (c.in_err-entries-in-Entry.ensures)

pub returns-in_ok-entries-in-Entry : goal.returns-in_ok-entries-in-Entry
returns-in_ok-entries-in-Entry g c =
    let e : c.eat-2.new.self.rest.now ≡ c.args.tokens.now.rest.now = c.if-eat-2.ensures.0 ∙ c.if-eat.ensures.0 in
    let d : Before ends_element (IsElement c.args.self.now.all) c.in_ok-element.field-0 c.args.tokens.now.rest.now c.element.new.tokens.rest.now = subst (λ (zs : List Token). Before ends_element (IsElement c.args.self.now.all) c.in_ok-element.field-0 zs c.element.new.tokens.rest.now) e (c.in_ok-element.ensures) in
    let h : sorted c.in_ok-element.field-0 ≡ sort.Entry c.in-Entry.first = sym (c.in_ok-first.ensures) ∙ c.in-Entry.is in
    map_here c.args.self.now.all d.is h (c.in_ok-entries-in-Entry.ensures.is)
