use Rattle.std.proofs.Common.{[], arith, append_assoc, subst}
use Rattle.std.proofs.lemmas.List.{append-nil}
use Rattle.gv_spelling.specs.declared.kinds.Symbol.TheVariants as symbol
use Rattle.gv_grammar.specs.Tokens.{Eats}
use Rattle.gv_grammar.specs.Scripts.{IsDotted, MaySettings, AreAnnotations, no_annotation, an_annotation}
use Rattle.gv_grammar.proofs.Lengths.{less, no_more, of_eats}
use Rattle.gv_cursor.proofs.Results.{passed_on_exactly}
use Rattle.gv_grammar.proofs.StmtLengths.{of_may_line}
use Rattle.gv_stmts.proofs.ScriptLengths.{of_dotted, of_may_settings}
use Rattle.gv_stmts.proofs.Noted.{passed, no_note_path, no_note_settings, no_more_notes}
use Rattle.gv_stmts.proofs.classes.annotations.Goals as goal

pub loop-alloc-init : goal.loop-alloc-init
loop-alloc-init c = record { sound = λ xs rest d. rw c.new-annotations.ensures d; refused = λ f. f }

pub returns-in_err-path : goal.returns-in_err-path
returns-in_err-path c = passed_on_exactly IsDotted (AreAnnotations c.args.tokens.now) _ _ _ _ c.from_residual.result (c.from_residual.ensures.1)
    (λ f. c.loop-alloc.invariant.refused (no_note_path c.args.tokens.now (passed (c.loop-alloc-test.ensures) c.advance.ensures) f)) (c.in_err-path.ensures)

pub returns-in_err-settings : goal.returns-in_err-settings
returns-in_err-settings c = passed_on_exactly (MaySettings c.args.tokens.now) (AreAnnotations c.args.tokens.now) _ _ _ _ c.from_residual-in_err-settings.result (c.from_residual-in_err-settings.ensures.1)
    (λ f. c.loop-alloc.invariant.refused (no_note_settings c.args.tokens.now (passed (c.loop-alloc-test.ensures) c.advance.ensures) (c.in_ok-path.ensures) f)) (c.in_err-settings.ensures)

pub loop-alloc-smaller : goal.loop-alloc-smaller
loop-alloc-smaller c =
    let p : Eats symbol.At c.loop-alloc.cursor.rest.now c.advance.new.self.rest.now = passed (c.loop-alloc-test.ensures) c.advance.ensures in
    let a = less (of_eats p) in let b = less (of_dotted (c.in_ok-path.ensures)) in let d = no_more (of_may_settings c.args.tokens.now (c.in_ok-settings.ensures)) in let e = no_more (of_may_line c.may_line.ensures) in omega arith

pub loop-alloc-preserved : goal.loop-alloc-preserved
loop-alloc-preserved c =
    let p : Eats symbol.At c.loop-alloc.cursor.rest.now c.advance.new.self.rest.now = passed (c.loop-alloc-test.ensures) c.advance.ensures in
    record {
      sound = λ xs rest d. rw (c.in_ok-push.ensures.ok, append_assoc, c.place-place.ensures) (c.loop-alloc.invariant.sound _ rest (an_annotation p (c.in_ok-path.ensures) (c.in_ok-settings.ensures) c.may_line.ensures d));
      refused = λ f. c.loop-alloc.invariant.refused (no_more_notes c.args.tokens.now p (c.in_ok-path.ensures) (c.in_ok-settings.ensures) c.may_line.ensures f);
    }

pub returns : goal.returns
returns c = subst (λ xs. AreAnnotations c.args.tokens.now xs c.args.cursor.now.rest.now c.loop-alloc.cursor.rest.now) (append-nil c.loop-alloc.annotations)
    (c.loop-alloc.invariant.sound [] c.loop-alloc.cursor.rest.now (no_annotation (c.loop-alloc-test.ensures)))
