use Rattle.std.proofs.Common.{◌≡◌, map}
use Rattle.std.specs.List.{range_with_len}
use Rattle.gv_circles.specs.Jumps.{jump}
use Rattle.gv_circles.proofs.jumps.steps.Given as goal

abbrev pub invariant-loop-class : goal.invariant-loop-class
invariant-loop-class l = l.jumps.items ≡ map (jump 0 l.classes) (range_with_len 0 l.class)
