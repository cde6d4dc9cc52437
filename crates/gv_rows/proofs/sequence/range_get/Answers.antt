use Rattle.std.proofs.Common.{arith}
use Rattle.std.proofs.lemmas.Int.{to_z-of_z}
use Rattle.gv_rows.proofs.Numbers.{get_range, length_range}
use Rattle.gv_rows.proofs.sequence.range_get.Goals as goal

pub returns : goal.returns
returns c = grind (arith, to_z-of_z, length_range, get_range)
