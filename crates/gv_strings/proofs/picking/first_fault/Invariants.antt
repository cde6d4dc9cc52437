use Rattle.std.proofs.Common.{◌≡◌, drop}
use Rattle.gv_strings.specs.Parts.{first_fault}
use Rattle.gv_strings.proofs.picking.first_fault.Given as goal

abbrev pub invariant-loop-item : goal.invariant-loop-item
invariant-loop-item l = first_fault l.size (drop l.item-index l.items) ≡ first_fault l.size l.items
