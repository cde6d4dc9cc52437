use Rattle.std.proofs.Common.{◌≡◌, map, take}
use Rattle.gv_strings.specs.Parts.{walk_place}
use Rattle.gv_strings.proofs.picking.walk_places.Given as goal

abbrev pub invariant-loop-at : goal.invariant-loop-at
invariant-loop-at l = l.places.items ≡ take l.at (map walk_place l.walk)
