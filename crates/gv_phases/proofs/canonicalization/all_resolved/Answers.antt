use Rattle.std.proofs.Common.{◌≡◌, ◌∙◌}
use Rattle.gv_phases.specs.Phases.{resolved_of}
use Rattle.gv_phases.proofs.Steps.{put}
use Rattle.gv_phases.proofs.canonicalization.all_resolved.Goals as goal

pub loop-script-preserved : goal.loop-script-preserved
loop-script-preserved c =
    put (resolved_of c.args.known.now c.args.classes.now) c.args.scripts.now c.loop-script.script-index c.script-item.result c.loop-script.resolved.items c.in_ok-names_of.field-0 c.push.new.self.items
    c.loop-script-test.true c.script-item.is c.in_ok-names_of.ensures c.in_ok-push.ensures.items
    ∙ c.loop-script.invariant
