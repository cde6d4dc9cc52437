use Rattle.std.proofs.Common.{◌≡◌, IfOk, subst, ap, ◌∙◌}
use Rattle.gv_events.specs.Events.{events_of}
use Rattle.gv_loose.specs.Loose.{loose_refused}
use Rattle.gv_repeats.specs.Repeats.{repeats_refused}
use Rattle.gv_circles.specs.Circles.{circles_refused}
use Rattle.gv_types.specs.Types.{types_refused}
use Rattle.gv_bodies.specs.Bodies.{bodies_refused}
use Rattle.gv_checks.specs.Checks.{words_of}
use Rattle.gv_checks.proofs.checks.first_refusal.Goals as goal

pub returns : goal.returns
returns c =
    let classes = c.args.classes.now in
    let script = c.args.script.now in
    let name = c.args.known.now.declare.interceptable in
    let said = c.in_ok-events.ensures ∙ ap (λ words. events_of words script) c.words.ensures in
    let declared = c.in_ok-first-2.ensures ∙ ap (circles_refused classes c.args.file) (c.in_ok-first.ensures ∙ ap (repeats_refused classes c.args.file) (c.first_of_loose-first.ensures ∙ ap (loose_refused c.args.file script) c.first_of_tops-first.ensures)) in
    let typed = c.first_of_types-first.ensures ∙ (ap (λ events. types_refused classes name script events c.in_ok-first-2.first) (c.as_slice.ensures ∙ said)
    ∙ ap (types_refused classes name script (events_of (words_of c.args.known.now) script)) declared) in
    subst (λ first. IfOk c.first_of_bodies.result (λ r. r ≡ bodies_refused (events_of (words_of c.args.known.now) script) first)) typed
    (subst (λ events. IfOk c.first_of_bodies.result (λ r. r ≡ bodies_refused events c.first_of_types-first.result)) (c.as_slice-2.ensures ∙ said) c.first_of_bodies.ensures)
