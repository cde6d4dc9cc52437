use Rattle.gv_run.proofs.Cells.{popped_is}
use Rattle.gv_run.proofs.state.Control.invoke.Goals as goal

pub returns : goal.returns
returns c = rw (popped_is c.args.n c.args.now.stack, ← c.last.ensures, ← c.in_ok-chosen.ensures, ← c.drop_top.ensures) c.begin.ensures
