use Rattle.std.proofs.Common.{◌≡◌, ◌++◌, drop}
use Rattle.gv_maps.specs.Reading.{values_of}
use Rattle.gv_maps.proofs.reading.values_of.Given as goal

-- what is taken and what is left
abbrev pub invariant-loop-place : goal.invariant-loop-place
invariant-loop-place l = l.values.items ++ values_of (drop l.place l.entries) ≡ values_of l.entries
