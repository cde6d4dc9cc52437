use Rattle.std.proofs.Common.{◌≡◌, ◌-◌, drop, length}
use Rattle.gv_distinct.specs.Distinct.{against_all}
use Rattle.gv_distinct.proofs.compare.against_all.Given as goal

abbrev pub invariant-loop-at : goal.invariant-loop-at
invariant-loop-at l = against_all l.names l.classes l.heap l.dropping l.element (drop l.at l.others) l.at ≡ against_all l.names l.classes l.heap l.dropping l.element (drop l.compared l.others) l.compared

abbrev pub decreases-loop-at : goal.decreases-loop-at
decreases-loop-at l = length l.others - l.at
