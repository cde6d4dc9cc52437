use Rattle.gv_simulate.proofs.Same.{same_answer}
use Rattle.gv_simulate.proofs.units.run_unit.Goals as goal

pub returns : goal.returns
returns c = rw (← same_answer c.in_ok-code.code.bodies c.args.unit.now c.args.world _ (c.in_ok-code.ensures.right) (rw (c.as_slice.ensures) at c.in_ok-told.ensures)) c.tell.ensures
