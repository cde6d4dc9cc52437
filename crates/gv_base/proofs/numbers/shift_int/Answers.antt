use Rattle.std.proofs.Common.{arith}
use Rattle.std.proofs.lemmas.Int.{to_z-of_z}
use Rattle.std.proofs.Math.Nat.{mod-eq_of_lt}
use Rattle.gv_base.proofs.Wrapping.{shl_wraps}
use Rattle.gv_base.proofs.numbers.shift_int.Goals as goal

pub returns-in-LeftShift : goal.returns-in-LeftShift
returns-in-LeftShift c = grind (arith, to_z-of_z, mod-eq_of_lt, shl_wraps)
