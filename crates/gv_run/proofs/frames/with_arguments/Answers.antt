use Rattle.gv_run.proofs.Cells.{filled_next}
use Rattle.gv_run.proofs.frames.with_arguments.Goals as goal

pub loop-i-preserved : goal.loop-i-preserved
loop-i-preserved c = filled_next c.args.n c.loop-i.i c.args.values.now _ c.loop-i.cells _ _ c.loop-i-test.true c.value_at.ensures (c.in_ok-push.ensures.ok) c.loop-i.invariant
