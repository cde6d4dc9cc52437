use Rattle.std.proofs.Common.{◌≡◌, map, take}
use Rattle.gv_strings.specs.Parts.{item_place}
use Rattle.gv_strings.proofs.picking.item_places.Given as goal

abbrev pub invariant-loop-item : goal.invariant-loop-item
invariant-loop-item l = l.places.items ≡ map (item_place l.size) (take l.item-index l.items)
