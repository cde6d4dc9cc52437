use Rattle.std.proofs.Common.{◌≡◌, ◌∙◌, ◌+◌, ap, sym, drop}
use Rattle.gv_checks.specs.Checks.{refusal_of}
use Rattle.gv_phases.specs.Phases.{first_of}
use Rattle.gv_phases.proofs.Steps.{found, none_of, passed}
use Rattle.gv_phases.proofs.analysis.refusal_of.Goals as goal

pub returns-in-Some : goal.returns-in-Some
returns-in-Some c =
    sym (found (refusal_of c.args.known.now.checks c.args.classes.now) c.args.scripts.now c.loop-script.script-index c.loop-script.file c.script-item.result c.in-Some.refusal c.loop-script-test.true c.script-item.is
    (sym c.in_ok-refusal.ensures ∙ c.in-Some.is))
    ∙ c.loop-script.invariant

pub loop-script-preserved : goal.loop-script-preserved
loop-script-preserved c =
    ap (λ file. first_of (refusal_of c.args.known.now.checks c.args.classes.now) file (drop (c.loop-script.script-index + 1) c.args.scripts.now)) c.saturating_add-file.ensures
    ∙ (passed (refusal_of c.args.known.now.checks c.args.classes.now) c.args.scripts.now c.loop-script.script-index c.loop-script.file c.script-item.result c.loop-script-test.true c.script-item.is
    (sym c.in_ok-refusal.ensures ∙ none_of c.in_ok-refusal.field-0 c.in_default.not-Some)
    ∙ c.loop-script.invariant)
