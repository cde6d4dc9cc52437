use Rattle.std.proofs.Common.{◌≡◌, drop}
use Rattle.gv_outside.specs.Files.{has_file}
use Rattle.gv_outside.specs.Sure.{entries_of}
use Rattle.gv_outside.proofs.entries.has_entry.Given as goal

-- no entry so far has the name
abbrev pub invariant-loop-entry : goal.invariant-loop-entry
invariant-loop-entry l = has_file (entries_of (drop l.entry-index l.files)) l.name ≡ has_file (entries_of l.files) l.name
