use Rattle.std.proofs.Common.{arith}
use Rattle.std.proofs.lemmas.Int.{to_z-of_z}
use Rattle.gv_rows.proofs.Numbers.{get_range, length_range, taken_more}
use Rattle.gv_rows.proofs.sequence.range_copy.Goals as goal

pub element_of-requires-clause-steps : goal.element_of-requires-clause-steps
element_of-requires-clause-steps c = grind (arith, to_z-of_z, length_range)

pub loop-steps-preserved : goal.loop-steps-preserved
loop-steps-preserved c = grind (arith, to_z-of_z, length_range, get_range, taken_more)
