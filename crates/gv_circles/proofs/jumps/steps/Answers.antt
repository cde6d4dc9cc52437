use Rattle.gv_circles.proofs.Doubling.{steps-next}
use Rattle.gv_circles.proofs.jumps.steps.Goals as goal

pub loop-class-preserved : goal.loop-class-preserved
loop-class-preserved c =
    steps-next c.args.classes.now c.loop-class.class c.above.result c.step.result c.loop-class.jumps.items c.push.new.self.items
    c.step.ensures.far c.step.ensures.lowest c.above.ensures.above c.loop-class.invariant c.in_ok-push.ensures.items
