use Rattle.std.proofs.Common.{◌≡◌, length, [], ◌∷◌, ◌++◌, List, ap, subst, arith, ◌∙◌, Ok}
use Rattle.gv_spelling.specs.declared.kinds.Symbol.TheVariants as symbol
use Rattle.gv_lex.specs.declared.token.Token.{Token}
use Rattle.gv_tree.specs.declared.expr.Entry.{Entry}
use Rattle.gv_grammar.specs.Tokens.{Eats}
use Rattle.gv_grammar.specs.Phrases.{Nothing}
use Rattle.gv_grammar.specs.Exprs.{IsEntry}
use Rattle.gv_grammar.proofs.Lengths.{less, of_entry, of_eats}
use Rattle.gv_cursor.specs.Reading.{Reads, Before}
use Rattle.gv_exprs.specs.Elements.{ends_element, FollowsEntry}
use Rattle.gv_cursor.proofs.Results as results
use Rattle.gv_exprs.proofs.Lists.{entries_end_here, entries_end_behind, reads_entry, no_entry_comma, no_entry_there}
use Rattle.gv_exprs.proofs.reader.Exprs.entries.Goals as goal

pub loop-entries-init : goal.loop-entries-init
loop-entries-init g c =
    let e : c.push.new.self ≡ c.args.first ∷ [] = c.in_ok-push.ensures.ok ∙ ap (λ (xs : List Entry). xs ++ (c.args.first ∷ [])) (c.new-entries.ensures) in
    record { shorter = omega arith; reads = λ r rest d. subst (λ (xs : List Entry). Reads (FollowsEntry c.args.self.now.all xs) r c.args.tokens.now.rest.now rest) e d }

pub returns-then-eat : goal.returns-then-eat
returns-then-eat g c = c.loop-entries.invariant.reads (Ok _) _ (entries_end_here c.args.self.now.all (c.if-eat.ensures))

pub returns-in_err-expect : goal.returns-in_err-expect
returns-in_err-expect g c =
    c.loop-entries.invariant.reads c.from_residual-in_err-expect.result _ (results.unexpected_on (FollowsEntry c.args.self.now.all _) (Eats symbol.Comma) _ _ _ _ _ c.from_residual-in_err-expect.result (c.from_residual-in_err-expect.ensures.1)
    (λ f. no_entry_comma c.args.self.now.all (c.if-eat.ensures.1) (rw (← (c.if-eat.ensures.0)) f)) (c.in_err-expect.ensures))

pub returns-then-eat-2 : goal.returns-then-eat-2
returns-then-eat-2 g c =
    let m : Eats symbol.Comma c.loop-entries.tokens.rest.now c.expect.new.self.rest.now = rw (← (c.if-eat.ensures.0)) (c.in_ok-expect.ensures) in
    c.loop-entries.invariant.reads (Ok _) _ (entries_end_behind c.args.self.now.all m (c.if-eat-2.ensures))

pub entry-requires-clause-shorter : goal.entry-requires-clause-shorter
entry-requires-clause-shorter g c =
    let m : Eats symbol.Comma c.loop-entries.tokens.rest.now c.expect.new.self.rest.now = rw (← (c.if-eat.ensures.0)) (c.in_ok-expect.ensures) in
    let a = c.loop-entries.invariant.shorter in let b = c.requires.shorter in let d = less (of_eats m) in let h = ap length (c.if-eat-2.ensures.0) in omega arith

pub returns-in_err-entry : goal.returns-in_err-entry
returns-in_err-entry g c =
    let m : Eats symbol.Comma c.loop-entries.tokens.rest.now c.expect.new.self.rest.now = rw (← (c.if-eat.ensures.0)) (c.in_ok-expect.ensures) in
    c.loop-entries.invariant.reads c.from_residual-in_err-entry.result c.entry.new.tokens.rest.now (results.passed_on (Before ends_element (IsEntry c.args.self.now.all)) (FollowsEntry c.args.self.now.all _) _ _ _ _ c.from_residual-in_err-entry.result (c.from_residual-in_err-entry.ensures.1)
    (λ f. no_entry_there c.args.self.now.all m (c.if-eat-2.ensures.1) (subst (λ (zs : List Token). Nothing (Before ends_element (IsEntry c.args.self.now.all)) zs) (c.if-eat-2.ensures.0) f)) (c.in_err-entry.ensures))

pub loop-entries-smaller : goal.loop-entries-smaller
loop-entries-smaller g c =
    let m : Eats symbol.Comma c.loop-entries.tokens.rest.now c.expect.new.self.rest.now = rw (← (c.if-eat.ensures.0)) (c.in_ok-expect.ensures) in
    let a = less (of_entry c.args.self.now.all (c.in_ok-entry.ensures.is)) in let d = less (of_eats m) in let h = ap length (c.if-eat-2.ensures.0) in omega arith

pub loop-entries-preserved : goal.loop-entries-preserved
loop-entries-preserved g c =
    let m : Eats symbol.Comma c.loop-entries.tokens.rest.now c.expect.new.self.rest.now = rw (← (c.if-eat.ensures.0)) (c.in_ok-expect.ensures) in
    let a = less (of_entry c.args.self.now.all (c.in_ok-entry.ensures.is)) in let d = less (of_eats m) in let h = ap length (c.if-eat-2.ensures.0) in let s = c.loop-entries.invariant.shorter in
    let i : Before ends_element (IsEntry c.args.self.now.all) c.in_ok-entry.field-0 c.expect.new.self.rest.now c.entry.new.tokens.rest.now = subst (λ (zs : List Token). Before ends_element (IsEntry c.args.self.now.all) c.in_ok-entry.field-0 zs c.entry.new.tokens.rest.now) (c.if-eat-2.ensures.0) (c.in_ok-entry.ensures) in
    record {
      shorter = omega arith;
      reads = λ r rest l. c.loop-entries.invariant.reads r rest (reads_entry c.args.self.now.all c.loop-entries.entries m (c.if-eat-2.ensures.1) i r rest (subst (λ (xs : List Entry). Reads (FollowsEntry c.args.self.now.all xs) r c.entry.new.tokens.rest.now rest) (c.in_ok-push-2.ensures.ok) l));
    }
