-- What is told of files.
use Rattle.std.specs.Prelude.{◌≡◌, ℕ, ◌+◌, ◌-◌, ◌^◌, ◌<◌, ◌≤◌, min, Bool, true, false, List, [], ◌∷◌, ◌++◌, length, take, drop, Option, Some, None, bytes_eq, if◌then◌else◌}

-- names and their contents; of several entries with one name the first counts
abbrev pub Contents : Type 0
Contents = List (List ℕ × List ℕ)

-- the bytes of a file, none where the name isn't there
abbrev pub content_of : Contents → List ℕ → List ℕ
content_of [] name = []
content_of (entry ∷ entries) name = if bytes_eq entry.0 name then entry.1 else content_of entries name

-- whether a name is there
abbrev pub has_file : Contents → List ℕ → Bool
has_file [] name = false
has_file (entry ∷ entries) name = if bytes_eq entry.0 name then true else has_file entries name

pub record FilesState : Type 0 where
  -- what the files hold, where it is told
  pub contents : Option Contents
  -- the file that is open
  pub opened : Option (List ℕ)
  -- how many of its bytes were read
  pub place : ℕ
  pub faults : ℕ
  -- the name that was last asked for
  pub named : Option (List ℕ)
  -- whether the last call failed
  pub failed : Bool

-- `count` bytes were read into a buffer from the open file
pub record Reads (old : FilesState) (buffer : List ℕ) (count : ℕ) (filled : List ℕ) (new : FilesState) : Type 0 where
  pub within : count ≤ length buffer
  pub place : new.place ≡ min (old.place + count) (2 ^ 64 - 1)
  pub bytes : (contents : Contents) (name : List ℕ) → old.contents ≡ Some contents → old.opened ≡ Some name →
      take count filled ≡ take count (drop old.place (content_of contents name))
  pub exact : (contents : Contents) (name : List ℕ) → old.contents ≡ Some contents → old.opened ≡ Some name →
      count ≤ length (content_of contents name) - old.place
  pub progress : (contents : Contents) (name : List ℕ) → old.contents ≡ Some contents → old.opened ≡ Some name →
      0 < length buffer → old.place < length (content_of contents name) → 0 < count
  pub closed : old.opened ≡ None → count ≡ 0

-- `count` bytes, at most `room`, were read from the open file behind those of `before`
pub record ReadsOnto (old : FilesState) (before : List ℕ) (room count : ℕ) (after : List ℕ) (new : FilesState) : Type 0 where
  pub within : count ≤ room
  pub long : length after ≡ length before + count
  pub place : new.place ≡ min (old.place + count) (2 ^ 64 - 1)
  pub bytes : (contents : Contents) (name : List ℕ) → old.contents ≡ Some contents → old.opened ≡ Some name →
      after ≡ before ++ take count (drop old.place (content_of contents name))
  pub exact : (contents : Contents) (name : List ℕ) → old.contents ≡ Some contents → old.opened ≡ Some name →
      count ≤ length (content_of contents name) - old.place
  pub progress : (contents : Contents) (name : List ℕ) → old.contents ≡ Some contents → old.opened ≡ Some name →
      old.place < length (content_of contents name) → 0 < count

-- a reading call leaves the contents, the open file and the name that was asked for
pub record KeepsFile (old new : FilesState) : Type 0 where
  pub contents : new.contents ≡ old.contents
  pub opened : new.opened ≡ old.opened
  pub named : new.named ≡ old.named
