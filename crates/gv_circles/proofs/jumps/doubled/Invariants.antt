use Rattle.std.proofs.Common.{◌≡◌, ◌++◌, drop, map}
use Rattle.gv_circles.specs.Jumps.{twice, doubled}
use Rattle.gv_circles.proofs.jumps.doubled.Given as goal

abbrev pub invariant-loop-jump : goal.invariant-loop-jump
invariant-loop-jump l = l.longer.items ++ map (twice l.jumps) (drop l.jump-index l.jumps) ≡ doubled l.jumps
