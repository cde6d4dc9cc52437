use Rattle.std.proofs.Common.{add-one, arith}
use Rattle.gv_circles.proofs.Doubling.{classes-next}
use Rattle.gv_circles.proofs.circles.circles_refused.Goals as goal

pub loop-number-preserved : goal.loop-number-preserved
loop-number-preserved c =
    let n = c.loop-number.number in
    let built_in = c.len-number-end.ensures.built_in in
    rw add-one
    (classes-next c.args.classes.now (omega arith) c.args.file n c.get.result.now c.args.jumps.now (record { far = 0; lowest = 0 }) c.begins_circle-begins.result
    c.loop-number.so_far c.class_refused-so_far.result _ (omega arith) c.get.ensures.declared c.requires.jumps c.begins_circle-begins.ensures c.class_refused-so_far.ensures c.loop-number.invariant)
