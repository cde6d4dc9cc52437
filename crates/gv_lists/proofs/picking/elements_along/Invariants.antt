use Rattle.std.proofs.Common.{◌≡◌, map, take}
use Rattle.gv_lists.specs.Reading.{element}
use Rattle.gv_lists.proofs.picking.elements_along.Given as goal

abbrev pub invariant-loop-at : goal.invariant-loop-at
invariant-loop-at l = l.all.items ≡ take l.at (map (element l.items) l.walk)
