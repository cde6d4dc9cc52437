use Rattle.std.proofs.Common.{arith}
use Rattle.std.proofs.lemmas.Int.{to_z-of_z}
use Rattle.gv_elements.proofs.Numbers.{range_open_up}
use Rattle.gv_elements.proofs.elements.of_range.Goals as goal

pub returns-else-down : goal.returns-else-down
returns-else-down c = grind (arith, to_z-of_z, range_open_up)
