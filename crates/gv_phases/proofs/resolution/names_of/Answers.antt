use Rattle.std.proofs.Common.{◌≡◌, IfOk, subst, ap, ◌∙◌}
use Rattle.gv_checks.specs.Checks.{words_of}
use Rattle.gv_events.specs.Events.{events_of}
use Rattle.gv_scopes.specs.Scopes.{resolved_of}
use Rattle.gv_phases.proofs.resolution.names_of.Goals as goal

pub returns : goal.returns
returns c =
    let classes = c.args.classes.now in
    let script = c.args.script.now in
    let said = c.as_slice.ensures ∙ (c.in_ok-events.ensures ∙ ap (λ words. events_of words script) c.words.ensures) in
    subst (λ known. IfOk c.resolved_of.result (λ r. r ≡ resolved_of known classes (events_of (words_of c.args.known.now.checks) script))) c.scopes.ensures
    (subst (λ events. IfOk c.resolved_of.result (λ r. r ≡ resolved_of c.scopes.result classes events)) said c.resolved_of.ensures)
