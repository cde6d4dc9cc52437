use Rattle.std.proofs.Common.{◌≡◌, map, take}
use Rattle.gv_lists.specs.Reading.{item_element}
use Rattle.gv_lists.proofs.picking.elements_at.Given as goal

abbrev pub invariant-loop-place : goal.invariant-loop-place
invariant-loop-place l = l.all.items ≡ map (item_element l.items) (take l.place-index l.places)
