use Rattle.std.proofs.Common.{arith}
use Rattle.std.proofs.lemmas.Int.{to_z-of_z}
use Rattle.gv_elements.proofs.elements.numbers.Goals as goal

pub returns-else-long : goal.returns-else-long
returns-else-long c = grind (arith, to_z-of_z)
