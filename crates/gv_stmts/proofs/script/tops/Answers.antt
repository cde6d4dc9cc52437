use Rattle.std.proofs.Common.{[], ◌∷◌, arith, append_assoc, subst, ◌∙◌}
use Rattle.std.proofs.lemmas.List.{append-nil}
use Rattle.gv_grammar.specs.Tokens.{EatsEnd}
use Rattle.gv_grammar.specs.Stmts.{Separates}
use Rattle.gv_grammar.specs.Scripts.{IsTop, AreTops, no_top, top_parted, one_top, tops_end, tops_go_on}
use Rattle.gv_grammar.proofs.Lengths.{less, no_more}
use Rattle.gv_cursor.specs.Reading.{Stopped}
use Rattle.gv_cursor.proofs.Results.{passed_on_exactly}
use Rattle.gv_grammar.proofs.StmtLengths.{of_separates}
use Rattle.gv_stmts.proofs.ScriptLengths.{of_top}
use Rattle.gv_stmts.proofs.TopPhrases.{not_parted, no_tops_here, no_more_tops, tops_break_off}
use Rattle.gv_stmts.proofs.script.tops.Goals as goal

pub loop-init : goal.loop-init
loop-init c = record { shorter = omega arith; sound = c.loop-cursor.invariant.sound; refused = c.loop-cursor.invariant.refused }

pub loop-preserved : goal.loop-preserved
loop-preserved c =
    let a = less (of_separates (c.loop-test.ensures)) in let b = c.loop.invariant.shorter in
    record {
      shorter = omega arith;
      sound = λ xs rest d. c.loop.invariant.sound xs rest (top_parted (c.loop-test.ensures) d);
      refused = λ f. c.loop.invariant.refused (not_parted c.args.tokens.now (c.loop-test.ensures) f);
    }

pub returns-then-eat_end : goal.returns-then-eat_end
returns-then-eat_end c =
    let p : EatsEnd c.loop.cursor.rest.now c.eat_end.new.cursor.rest.now = rw (← (c.loop-test.ensures.0)) (c.if-eat_end.ensures) in
    subst (λ xs. AreTops c.args.tokens.now xs c.args.cursor.now.rest.now c.eat_end.new.cursor.rest.now) (append-nil c.loop-cursor.tops) (c.loop.invariant.sound [] _ (no_top p))

pub returns-in_err-top : goal.returns-in_err-top
returns-in_err-top c = passed_on_exactly (Stopped (IsTop c.args.tokens.now)) (AreTops c.args.tokens.now) _ _ _ _ c.from_residual.result (c.from_residual.ensures.1)
    (λ f. c.loop.invariant.refused (no_tops_here c.args.tokens.now (c.loop-test.ensures.0) (c.loop-test.ensures.1) (c.if-eat_end.ensures.0) (c.if-eat_end.ensures.1) f)) (c.in_err-top.ensures)

pub returns-then-eat_end-2 : goal.returns-then-eat_end-2
returns-then-eat_end-2 c =
    let d : Stopped (IsTop c.args.tokens.now) c.in_ok-top.field-0 c.loop.cursor.rest.now c.top.new.cursor.rest.now =
    subst (λ zs. Stopped (IsTop c.args.tokens.now) c.in_ok-top.field-0 zs c.top.new.cursor.rest.now) (c.if-eat_end.ensures.0 ∙ c.loop-test.ensures.0) (c.in_ok-top.ensures) in
    rw (c.in_ok-push.ensures.ok) (c.loop.invariant.sound (c.in_ok-top.field-0 ∷ []) _ (one_top d.is (tops_end (c.if-eat_end-2.ensures))))

pub returns-then-not-separates : goal.returns-then-not-separates
returns-then-not-separates c =
    let d : Stopped (IsTop c.args.tokens.now) c.in_ok-top.field-0 c.loop.cursor.rest.now c.top.new.cursor.rest.now =
    subst (λ zs. Stopped (IsTop c.args.tokens.now) c.in_ok-top.field-0 zs c.top.new.cursor.rest.now) (c.if-eat_end.ensures.0 ∙ c.loop-test.ensures.0) (c.in_ok-top.ensures) in
    rw (c.refuse.ensures.0) (c.loop.invariant.refused (tops_break_off c.args.tokens.now d (c.if-eat_end-2.ensures.0) (c.if-eat_end-2.ensures.1) (c.if-not-separates.ensures.1)))

pub loop-cursor-smaller : goal.loop-cursor-smaller
loop-cursor-smaller c =
    let d : Stopped (IsTop c.args.tokens.now) c.in_ok-top.field-0 c.loop.cursor.rest.now c.top.new.cursor.rest.now =
    subst (λ zs. Stopped (IsTop c.args.tokens.now) c.in_ok-top.field-0 zs c.top.new.cursor.rest.now) (c.if-eat_end.ensures.0 ∙ c.loop-test.ensures.0) (c.in_ok-top.ensures) in
    let s : Separates c.top.new.cursor.rest.now c.separates-in-loop-cursor.new.cursor.rest.now = rw (← (c.if-eat_end-2.ensures.0)) (c.if-not-separates.ensures) in
    let a = less (of_separates s) in let b = no_more (of_top c.args.tokens.now d.is) in let e = c.loop.invariant.shorter in omega arith

pub loop-cursor-preserved : goal.loop-cursor-preserved
loop-cursor-preserved c =
    let d : Stopped (IsTop c.args.tokens.now) c.in_ok-top.field-0 c.loop.cursor.rest.now c.top.new.cursor.rest.now =
    subst (λ zs. Stopped (IsTop c.args.tokens.now) c.in_ok-top.field-0 zs c.top.new.cursor.rest.now) (c.if-eat_end.ensures.0 ∙ c.loop-test.ensures.0) (c.in_ok-top.ensures) in
    let s : Separates c.top.new.cursor.rest.now c.separates-in-loop-cursor.new.cursor.rest.now = rw (← (c.if-eat_end-2.ensures.0)) (c.if-not-separates.ensures) in
    record {
      sound = λ xs rest k. rw (c.in_ok-push.ensures.ok, append_assoc) (c.loop.invariant.sound (c.in_ok-top.field-0 ∷ xs) rest (one_top d.is (tops_go_on s k)));
      refused = λ f. c.loop.invariant.refused (no_more_tops c.args.tokens.now d (c.if-eat_end-2.ensures.0) (c.if-eat_end-2.ensures.1) (c.if-not-separates.ensures) f);
    }
