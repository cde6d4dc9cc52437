use Rattle.std.proofs.Common.{◌≡◌, drop}
use Rattle.gv_groups.specs.Gathering.{with_entries}
use Rattle.gv_groups.proofs.copies.gather_entries.Given as goal

-- the entries that are left decide
abbrev pub invariant-loop-place : goal.invariant-loop-place
invariant-loop-place l = with_entries l.gathered (drop l.place l.held) ≡ with_entries l.fn.gathered l.held
