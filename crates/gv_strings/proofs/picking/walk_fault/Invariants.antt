use Rattle.std.proofs.Common.{◌≡◌, drop}
use Rattle.gv_strings.specs.Parts.{walk_fault}
use Rattle.gv_strings.proofs.picking.walk_fault.Given as goal

abbrev pub invariant-loop-at : goal.invariant-loop-at
invariant-loop-at l = walk_fault l.size (drop l.at l.walk) ≡ walk_fault l.size l.walk
