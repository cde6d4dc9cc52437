use Rattle.std.proofs.Common.{rules, arith}
use Rattle.gv_run.proofs.Cells.{set_is, set_beyond}
use Rattle.gv_run.proofs.variables.set_cell.Goals as goal

pub returns-then-slot-len : goal.returns-then-slot-len
returns-then-slot-len c = rw (set_is c.args.slot c.args.v c.args.slots.now) (search rules)

pub returns-else-slot-len : goal.returns-else-slot-len
returns-else-slot-len c = set_beyond c.args.slot c.args.v _ (grind (arith))
