use Rattle.std.proofs.Common.{◌≡◌, ◌++◌, drop}
use Rattle.gv_maps.proofs.copies.push_entries.Given as goal

-- what is taken and what is left
abbrev pub invariant-loop-place : goal.invariant-loop-place
invariant-loop-place l = l.items.items ++ drop l.place l.entries ≡ l.initial.items.items ++ l.entries
