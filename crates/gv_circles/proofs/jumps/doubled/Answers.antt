use Rattle.std.proofs.Common.{add-one}
use Rattle.gv_circles.proofs.Doubling.{doubled-next}
use Rattle.gv_circles.proofs.jumps.doubled.Goals as goal

pub loop-jump-preserved : goal.loop-jump-preserved
loop-jump-preserved c =
    rw add-one
    (doubled-next c.args.jumps.now c.loop-jump.longer.items c.push.new.self.items c.loop-jump.jump-index c.then.result (record { far = 0; lowest = 0 }) c.loop-jump-test.true c.requires
    c.then.ensures c.in_ok-push.ensures.items c.loop-jump.invariant)
