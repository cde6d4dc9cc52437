use Rattle.std.proofs.Common.{w64, ap, ℤ, arith}
use Rattle.std.proofs.lemmas.Int.{wrapping_add_is, wrapping_sub_is, to_z-of_z}
use Rattle.gv_base.proofs.Wrapping.{quotient_wraps}
use Rattle.gv_base.specs.declared.value.Value.TheVariants.{Long}
use Rattle.gv_base.specs.declared.outcome.Arith.TheVariants.{Value as Gives}
use Rattle.gv_base.proofs.numbers.on_longs.Goals as goal

pub returns-in-Plus : goal.returns-in-Plus
returns-in-Plus c = rw c.in-Plus.is (ap (λ (z : ℤ). Gives (Long z)) (wrapping_add_is w64 c.args.a c.args.b c.ranges.a c.ranges.b))

pub returns-in-Minus : goal.returns-in-Minus
returns-in-Minus c = rw c.in-Minus.is (ap (λ (z : ℤ). Gives (Long z)) (wrapping_sub_is w64 c.args.a c.args.b c.ranges.a c.ranges.b))

pub returns-in-IntDiv-2 : goal.returns-in-IntDiv-2
returns-in-IntDiv-2 c = grind (arith, to_z-of_z, quotient_wraps)
