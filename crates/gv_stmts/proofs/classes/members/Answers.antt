use Rattle.std.proofs.Common.{[], ◌∷◌, arith, append_assoc, subst, ◌∙◌}
use Rattle.std.proofs.lemmas.List.{append-nil}
use Rattle.gv_spelling.specs.declared.kinds.Symbol.TheVariants as symbol
use Rattle.gv_grammar.specs.Tokens.{Eats}
use Rattle.gv_grammar.specs.Stmts.{Separates}
use Rattle.gv_grammar.specs.Scripts.{IsMember, AreMembers, no_member, member_parted, one_member, members_end, members_go_on}
use Rattle.gv_grammar.proofs.Lengths.{less, no_more}
use Rattle.gv_cursor.specs.Reading.{Stopped}
use Rattle.gv_cursor.proofs.Results.{passed_on_exactly}
use Rattle.gv_grammar.proofs.StmtLengths.{of_separates}
use Rattle.gv_stmts.proofs.ScriptLengths.{of_member}
use Rattle.gv_stmts.proofs.MemberPhrases.{not_parted, no_members_here, no_more_members, members_break_off}
use Rattle.gv_stmts.proofs.classes.members.Goals as goal

pub loop-init : goal.loop-init
loop-init c = record { shorter = omega arith; sound = c.loop-cursor.invariant.sound; refused = c.loop-cursor.invariant.refused }

pub loop-preserved : goal.loop-preserved
loop-preserved c =
    let a = less (of_separates (c.loop-test.ensures)) in let b = c.loop.invariant.shorter in
    record {
      shorter = omega arith;
      sound = λ xs rest d. c.loop.invariant.sound xs rest (member_parted (c.loop-test.ensures) d);
      refused = λ f. c.loop.invariant.refused (not_parted c.args.tokens.now c.args.class (c.loop-test.ensures) f);
    }

pub returns-then-eat : goal.returns-then-eat
returns-then-eat c =
    let p : Eats symbol.RightBrace c.loop.cursor.rest.now c.eat.new.self.rest.now = rw (← (c.loop-test.ensures.0)) (c.if-eat.ensures) in
    subst (λ xs. AreMembers c.args.tokens.now c.args.class xs c.args.cursor.now.rest.now c.eat.new.self.rest.now) (append-nil c.loop-cursor.members) (c.loop.invariant.sound [] _ (no_member p))

pub returns-in_err-member : goal.returns-in_err-member
returns-in_err-member c = passed_on_exactly (Stopped (IsMember c.args.tokens.now c.args.class)) (AreMembers c.args.tokens.now c.args.class) _ _ _ _ c.from_residual.result (c.from_residual.ensures.1)
    (λ f. c.loop.invariant.refused (no_members_here c.args.tokens.now c.args.class (c.loop-test.ensures.0) (c.loop-test.ensures.1) (c.if-eat.ensures.0) (c.if-eat.ensures.1) f)) (c.in_err-member.ensures)

pub returns-then-eat-2 : goal.returns-then-eat-2
returns-then-eat-2 c =
    let d : Stopped (IsMember c.args.tokens.now c.args.class) c.in_ok-member.field-0 c.loop.cursor.rest.now c.member.new.cursor.rest.now =
    subst (λ zs. Stopped (IsMember c.args.tokens.now c.args.class) c.in_ok-member.field-0 zs c.member.new.cursor.rest.now) (c.if-eat.ensures.0 ∙ c.loop-test.ensures.0) (c.in_ok-member.ensures) in
    rw (c.in_ok-push.ensures.ok) (c.loop.invariant.sound (c.in_ok-member.field-0 ∷ []) _ (one_member d.is (members_end (c.if-eat-2.ensures))))

pub returns-then-not-separates : goal.returns-then-not-separates
returns-then-not-separates c =
    let d : Stopped (IsMember c.args.tokens.now c.args.class) c.in_ok-member.field-0 c.loop.cursor.rest.now c.member.new.cursor.rest.now =
    subst (λ zs. Stopped (IsMember c.args.tokens.now c.args.class) c.in_ok-member.field-0 zs c.member.new.cursor.rest.now) (c.if-eat.ensures.0 ∙ c.loop-test.ensures.0) (c.in_ok-member.ensures) in
    rw (c.refuse.ensures.0) (c.loop.invariant.refused (members_break_off c.args.tokens.now c.args.class d (c.if-eat-2.ensures.0) (c.if-eat-2.ensures.1) (c.if-not-separates.ensures.1)))

pub loop-cursor-smaller : goal.loop-cursor-smaller
loop-cursor-smaller c =
    let d : Stopped (IsMember c.args.tokens.now c.args.class) c.in_ok-member.field-0 c.loop.cursor.rest.now c.member.new.cursor.rest.now =
    subst (λ zs. Stopped (IsMember c.args.tokens.now c.args.class) c.in_ok-member.field-0 zs c.member.new.cursor.rest.now) (c.if-eat.ensures.0 ∙ c.loop-test.ensures.0) (c.in_ok-member.ensures) in
    let s : Separates c.member.new.cursor.rest.now c.separates-in-loop-cursor.new.cursor.rest.now = rw (← (c.if-eat-2.ensures.0)) (c.if-not-separates.ensures) in
    let a = less (of_separates s) in let b = no_more (of_member c.args.tokens.now d.is) in let e = c.loop.invariant.shorter in omega arith

pub loop-cursor-preserved : goal.loop-cursor-preserved
loop-cursor-preserved c =
    let d : Stopped (IsMember c.args.tokens.now c.args.class) c.in_ok-member.field-0 c.loop.cursor.rest.now c.member.new.cursor.rest.now =
    subst (λ zs. Stopped (IsMember c.args.tokens.now c.args.class) c.in_ok-member.field-0 zs c.member.new.cursor.rest.now) (c.if-eat.ensures.0 ∙ c.loop-test.ensures.0) (c.in_ok-member.ensures) in
    let s : Separates c.member.new.cursor.rest.now c.separates-in-loop-cursor.new.cursor.rest.now = rw (← (c.if-eat-2.ensures.0)) (c.if-not-separates.ensures) in
    record {
      sound = λ xs rest k. rw (c.in_ok-push.ensures.ok, append_assoc) (c.loop.invariant.sound (c.in_ok-member.field-0 ∷ xs) rest (one_member d.is (members_go_on s k)));
      refused = λ f. c.loop.invariant.refused (no_more_members c.args.tokens.now c.args.class d (c.if-eat-2.ensures.0) (c.if-eat-2.ensures.1) (c.if-not-separates.ensures) f);
    }
