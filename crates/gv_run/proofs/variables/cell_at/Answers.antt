use Rattle.std.proofs.Common.{rules}
use Rattle.gv_run.proofs.Cells.{cell_is}
use Rattle.gv_run.proofs.variables.cell_at.Goals as goal

pub returns-in-Some : goal.returns-in-Some
returns-in-Some c = rw (cell_is c.args.slots.now c.args.slot) (search rules)

pub returns-in-None : goal.returns-in-None
returns-in-None c = rw (cell_is c.args.slots.now c.args.slot) (search rules)
