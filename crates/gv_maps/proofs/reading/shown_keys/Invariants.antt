use Rattle.std.proofs.Common.{◌≡◌, ◌++◌, drop}
use Rattle.gv_maps.specs.Reading.{shown_keys}
use Rattle.gv_maps.proofs.reading.shown_keys.Given as goal

-- what is taken and what is left
abbrev pub invariant-loop-place : goal.invariant-loop-place
invariant-loop-place l = l.keys.items ++ shown_keys (drop l.place l.entries) ≡ shown_keys l.entries
