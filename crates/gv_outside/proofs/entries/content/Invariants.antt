use Rattle.std.proofs.Common.{◌≡◌, drop}
use Rattle.gv_outside.specs.Files.{content_of}
use Rattle.gv_outside.specs.Sure.{entries_of}
use Rattle.gv_outside.proofs.entries.content.Given as goal

-- no entry so far has the name
abbrev pub invariant-loop-entry : goal.invariant-loop-entry
invariant-loop-entry l = content_of (entries_of (drop l.entry-index l.files)) l.name ≡ content_of (entries_of l.files) l.name
