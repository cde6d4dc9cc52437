use Rattle.gv_run.proofs.Cells.{fitted_next}
use Rattle.gv_run.proofs.frames.captured_cells.Goals as goal

pub loop-i-preserved : goal.loop-i-preserved
loop-i-preserved c = fitted_next c.args.n c.loop-i.i c.args.places.now _ c.loop-i.cells _ _ c.loop-i-test.true c.place_at.ensures (c.in_ok-push.ensures.ok) c.loop-i.invariant
