use Rattle.std.proofs.Common.{◌≡◌}
use Rattle.gv_circles.specs.Jumps.{jumps}
use Rattle.gv_circles.proofs.jumps.longest.Given as goal

abbrev pub invariant-loop-doubling : goal.invariant-loop-doubling
invariant-loop-doubling l = l.jumps.items ≡ jumps l.doubling l.classes
