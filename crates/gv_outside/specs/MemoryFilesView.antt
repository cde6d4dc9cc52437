-- Files in memory that fail at listed calls.
use Rattle.std.specs.Prelude.{ℕ, Bool, List, Option, Some, None, if◌then◌else◌}
use Rattle.gv_outside.specs.Files.{FilesState, Contents}

pub record MemoryFilesView : Type 0 where
  pub contents : Contents
  -- the name that was last asked for, and whether its file is open
  pub named : Option (List ℕ)
  pub is_open : Bool
  pub place : ℕ
  pub faults : ℕ
  pub failed : Bool
  -- the numbers of the calls that fail, and how many calls there were
  pub fails : List ℕ
  pub calls : ℕ

-- they tell their contents
abbrev pub memory_files_told : MemoryFilesView → FilesState
memory_files_told files = record {
  contents = Some files.contents;
  opened = if files.is_open then files.named else None;
  place = files.place;
  faults = files.faults;
  named = files.named;
  failed = files.failed;
}
