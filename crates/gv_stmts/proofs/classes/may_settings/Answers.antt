use Rattle.std.proofs.Common.{[], ◌∷◌, arith, append_assoc}
use Rattle.gv_spelling.specs.declared.kinds.Symbol.TheVariants as symbol
use Rattle.gv_grammar.specs.Tokens.{Eats}
use Rattle.gv_grammar.specs.Stmts.{IsValue}
use Rattle.gv_grammar.specs.Scripts.{MaySettings, empty_parens, settings}
use Rattle.gv_grammar.proofs.Lengths.{less, of_eats}
use Rattle.gv_cursor.specs.Reading.{Stopped}
use Rattle.gv_cursor.proofs.Results.{passed_on_exactly, unexpected_on_exactly}
use Rattle.gv_decls.specs.Phrases.{IsName}
use Rattle.gv_stmts.proofs.Leads.{of_name}
use Rattle.gv_grammar.proofs.StmtLengths.{of_value}
use Rattle.gv_stmts.proofs.Noted.{no_parens_here, no_settings, last_of_settings, more_of_settings, no_setting_name, no_setting_assign, no_setting_value, no_setting_comma, no_more_settings}
use Rattle.gv_stmts.proofs.classes.may_settings.Goals as goal

pub returns-then-not-eat : goal.returns-then-not-eat
returns-then-not-eat c = rw c.new-settings.ensures (no_parens_here c.args.tokens.now (c.if-not-eat.ensures.0) (c.if-not-eat.ensures.1))

pub returns-then-eat : goal.returns-then-eat
returns-then-eat c = rw c.new-settings.ensures (empty_parens (c.if-not-eat.ensures) (c.if-eat.ensures))

pub loop-settings-init : goal.loop-settings-init
loop-settings-init c = record {
  sound = λ xs rest d. rw c.new-settings.ensures (settings {ss = xs} {rest = rest} (c.if-not-eat.ensures) (rw (← (c.if-eat.ensures.0)) d));
  refused = no_settings c.args.tokens.now (c.if-not-eat.ensures) (c.if-eat.ensures.0) (c.if-eat.ensures.1);
}

pub returns-in_err-ident : goal.returns-in_err-ident
returns-in_err-ident c = passed_on_exactly IsName (MaySettings c.args.tokens.now) _ _ _ _ c.from_residual.result (c.from_residual.ensures.1) (λ f. c.loop-settings.invariant.refused (no_setting_name c.args.tokens.now f)) (c.in_err-ident.ensures)

pub returns-in_err-expect : goal.returns-in_err-expect
returns-in_err-expect c =
    unexpected_on_exactly (MaySettings c.args.tokens.now) (Eats symbol.Assign) _ _ _ _ _ c.from_residual-in_err-expect.result (c.from_residual-in_err-expect.ensures.1)
    (λ f. c.loop-settings.invariant.refused (no_setting_assign c.args.tokens.now (c.in_ok-ident.ensures) f)) (c.in_err-expect.ensures)

pub returns-in_err-value : goal.returns-in_err-value
returns-in_err-value c =
    passed_on_exactly (Stopped (IsValue c.args.tokens.now)) (MaySettings c.args.tokens.now) _ _ _ _ c.from_residual-in_err-value.result (c.from_residual-in_err-value.ensures.1)
    (λ f. c.loop-settings.invariant.refused (no_setting_value c.args.tokens.now (c.in_ok-ident.ensures) (c.in_ok-expect.ensures) f)) (c.in_err-value.ensures)

pub returns-then-eat-2 : goal.returns-then-eat-2
returns-then-eat-2 c = rw c.in_ok-push.ensures.ok
    (c.loop-settings.invariant.sound (record { ident = c.in_ok-ident.ident; value = c.in_ok-value.value } ∷ []) _ (last_of_settings c.args.tokens.now (c.in_ok-ident.ensures) (c.in_ok-expect.ensures) (c.in_ok-value.ensures.is) (c.if-eat-2.ensures)))

pub loop-settings-smaller : goal.loop-settings-smaller
loop-settings-smaller c =
    let m : Eats symbol.Comma c.read_value.new.cursor.rest.now c.expect-in-loop-settings.new.self.rest.now = rw (← (c.if-eat-2.ensures.0)) (c.in_ok-expect-2.ensures) in
    let a = less (of_name (c.in_ok-ident.ensures)) in let b = less (of_eats (c.in_ok-expect.ensures)) in let d = less (of_value c.args.tokens.now (c.in_ok-value.ensures.is)) in let e = less (of_eats m) in omega arith

pub loop-settings-preserved : goal.loop-settings-preserved
loop-settings-preserved c =
    let m : Eats symbol.Comma c.read_value.new.cursor.rest.now c.expect-in-loop-settings.new.self.rest.now = rw (← (c.if-eat-2.ensures.0)) (c.in_ok-expect-2.ensures) in
    record {
      sound = λ xs rest d. rw (c.in_ok-push.ensures.ok, append_assoc)
          (c.loop-settings.invariant.sound (record { ident = c.in_ok-ident.ident; value = c.in_ok-value.value } ∷ xs) rest (more_of_settings c.args.tokens.now (c.in_ok-ident.ensures) (c.in_ok-expect.ensures) (c.in_ok-value.ensures.is) m d));
      refused = λ f. c.loop-settings.invariant.refused (no_more_settings c.args.tokens.now (c.in_ok-ident.ensures) (c.in_ok-expect.ensures) (c.in_ok-value.ensures) (c.if-eat-2.ensures.1) m f);
    }

pub returns-in_err-expect-2 : goal.returns-in_err-expect-2
returns-in_err-expect-2 c =
    unexpected_on_exactly (MaySettings c.args.tokens.now) (Eats symbol.Comma) _ _ _ _ _ c.from_residual-in_err-expect-2.result (c.from_residual-in_err-expect-2.ensures.1)
    (λ f. c.loop-settings.invariant.refused (no_setting_comma c.args.tokens.now (c.in_ok-ident.ensures) (c.in_ok-expect.ensures) (c.in_ok-value.ensures) (c.if-eat-2.ensures.1) (rw (← (c.if-eat-2.ensures.0)) f))) (c.in_err-expect-2.ensures)
