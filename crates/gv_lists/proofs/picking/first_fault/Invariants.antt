use Rattle.std.proofs.Common.{◌≡◌, drop}
use Rattle.gv_lists.specs.Reading.{first_fault}
use Rattle.gv_lists.proofs.picking.first_fault.Given as goal

abbrev pub invariant-loop-place : goal.invariant-loop-place
invariant-loop-place l = first_fault l.size (drop l.place-index l.places) ≡ first_fault l.size l.places
