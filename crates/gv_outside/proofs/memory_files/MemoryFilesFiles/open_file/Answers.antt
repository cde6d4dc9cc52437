use Rattle.std.proofs.Common.{rules}
use Rattle.gv_outside.proofs.memory_files.MemoryFilesFiles.open_file.Goals as goal
use Rattle.gv_outside.proofs.memory_files.MemoryFilesFiles.open_file.Goals.{then-is_listed-via-then-is_listed, then-is_listed-via-else-is_listed+then-not-is_there}

pub returns-then-is_listed-clause-fails : goal.returns-then-is_listed-clause-fails
returns-then-is_listed-clause-fails c = elim c.then-is_listed.branch [ then-is_listed-via-then-is_listed w ↦ search rules | then-is_listed-via-else-is_listed+then-not-is_there w ↦ search rules ]
