-- What the top call promises: the cause of each status, and what is written with it.
use Rattle.std.specs.Prelude.{◌≡◌, ◌≢◌, ℕ, ◌+◌, ◌<◌, ◌≤◌, ◌⊎◌, true, List, [], Some, None, IsSome, IfSome, Ok, Err, length}
use Rattle.gv_base.specs.declared.refusal.Refusal.{Refusal}
use Rattle.gv_outside.specs.Count.{HasRisen, IsSteady}
use Rattle.gv_outside.specs.Files.{Contents, FilesState, content_of}
use Rattle.gv_outside.specs.Sink.{SinkState, Takes, TakesPrefix}
use Rattle.gv_outside.specs.declared.files.TheConstants.{MOST_BYTES}
use Rattle.groovy_cli.specs.Program.{Outcome, request_of, file_of, Says, IsOutcome, ending_status, usage_outcome, too_long_outcome, unread_outcome, unwritten_line}
use Rattle.gv_simulate.specs.declared.report.Report.{Report}

-- ---- the outside

-- what is told of the sinks at one moment
pub record Sinks : Type 0 where
  pub out : SinkState
  pub err : SinkState

-- what is told of the files and the sinks
pub record Outside : Type 0 where
  pub files : FilesState
  pub sinks : Sinks

abbrev pub outside : FilesState → SinkState → SinkState → Outside
outside files out err = record { files = files; sinks = record { out = out; err = err } }

-- no count of faults rose between two moments
pub record IsSound (before after : Outside) : Type 0 where
  pub files : IsSteady before.files.faults after.files.faults
  pub out : IsSteady before.sinks.out.faults after.sinks.out.faults
  pub err : IsSteady before.sinks.err.faults after.sinks.err.faults

-- ---- what is written

-- an outcome's bytes, each sink's behind those that it had
pub record IsWritten (outcome : Outcome) (before after : Sinks) : Type 0 where
  pub output : Takes before.out outcome.output after.out
  pub line : Takes before.err outcome.line after.err

-- `out` failed, which is only asked where there is output: it has a prefix of that, and `err` one of the line that says so
pub record IsCutAtOut (outcome : Outcome) (before after : Sinks) : Type 0 where
  pub some : outcome.output ≢ []
  pub risen : HasRisen before.out.faults after.out.faults
  pub output : TakesPrefix before.out outcome.output after.out
  pub line : TakesPrefix before.err unwritten_line after.err

-- `err` failed: `out` has the output, and `err` a prefix of the line
pub record IsCutAtErr (outcome : Outcome) (before after : Sinks) : Type 0 where
  pub risen : HasRisen before.err.faults after.err.faults
  pub output : Takes before.out outcome.output after.out
  pub line : TakesPrefix before.err outcome.line after.err

abbrev pub IsCut : Outcome → Sinks → Sinks → Type 0
IsCut outcome before after = IsCutAtOut outcome before after ⊎ IsCutAtErr outcome before after

-- ---- one answer, given

-- an outcome's bytes and status are given whole, or 74 is answered, where a sink failed
pub record IsWhole (outcome : Outcome) (before after : Sinks) (status : ℕ) : Type 0 where
  pub status_is : status ≡ outcome.status
  pub out : after.out.faults ≡ before.out.faults
  pub err : after.err.faults ≡ before.err.faults
  pub written : IsWritten outcome before after

pub record IsBroken (outcome : Outcome) (before after : Sinks) (status : ℕ) : Type 0 where
  pub status_is : status ≡ 74
  pub cut : IsCut outcome before after
  pub out : before.out.faults ≤ after.out.faults
  pub err : before.err.faults ≤ after.err.faults

abbrev pub Given : Outcome → Sinks → Sinks → ℕ → Type 0
Given outcome before after status = IsWhole outcome before after status ⊎ IsBroken outcome before after status

-- ---- the promises, over the words, the outside before and after the call, and the status

-- where the files tell their contents and nothing failed, the bytes of an outcome that they have are written and its status answered
abbrev pub Means : List (List ℕ) → Outside → Outside → ℕ → Type 0
Means words before after status = (contents : Contents) → before.files.contents ≡ Some contents → IsSound before after
    → (status ≡ 71) ⊎ ((outcome : Outcome) × IsOutcome words contents outcome × (status ≡ outcome.status) × IsWritten outcome before.sinks after.sinks)

-- the statuses of a run
abbrev pub IsRunStatus : ℕ → Type 0
IsRunStatus status = (status ≡ 0) ⊎ ((status ≡ 1) ⊎ ((status ≡ 3) ⊎ ((status ≡ 4) ⊎ (status ≡ 5))))

-- where nothing failed, the status is one of these, whatever is told
abbrev pub IsComplete : Outside → Outside → ℕ → Type 0
IsComplete before after status = IsSound before after → (status ≡ 71) ⊎ ((status ≡ 64) ⊎ ((status ≡ 65) ⊎ ((status ≡ 2) ⊎ IsRunStatus status)))

-- 0, 1, 3, 4 and 5 only where the script that the files tell runs, and then by how its run ends
pub record HasRun (words : List (List ℕ)) (before after : Outside) (status : ℕ) : Type 0 where
  pub cause : IsRunStatus status → (contents : Contents) → before.files.contents ≡ Some contents
      → IfSome (request_of words) (λ request. (report : Report) × Says request.limits (content_of contents request.file) (Ok report) × (status ≡ ending_status report.ending))

-- 2 where the script that the files tell is refused, and always where it doesn't run, but for want of memory
pub record IsRefused (words : List (List ℕ)) (before after : Outside) (status : ℕ) : Type 0 where
  pub cause : status ≡ 2 → (contents : Contents) → before.files.contents ≡ Some contents
      → IfSome (request_of words) (λ request. (r : Refusal) × Says request.limits (content_of contents request.file) (Err r))
  pub always : IsSound before after → (contents : Contents) → before.files.contents ≡ Some contents
      → IfSome (request_of words) (λ request. length (content_of contents request.file) ≤ MOST_BYTES
      → ((report : Report) → Says request.limits (content_of contents request.file) (Ok report) → ⊥) → (status ≡ 2) ⊎ (status ≡ 71))

-- 64 exactly where the words have no reading
pub record IsUsage (words : List (List ℕ)) (before after : Outside) (status : ℕ) : Type 0 where
  pub cause : status ≡ 64 → file_of words ≡ None
  pub always : file_of words ≡ None → IsSound before after → status ≡ 64
  pub written : status ≡ 64 → IsWritten usage_outcome before.sinks after.sinks

-- 65 exactly where 1,048,577 bytes were taken from the file of the words, but for want of memory
pub record IsTooLong (words : List (List ℕ)) (before after : Outside) (status : ℕ) : Type 0 where
  pub cause : status ≡ 65 → (after.files.place ≡ MOST_BYTES + 1) × (after.files.named ≡ file_of words) × IsSome (file_of words)
  pub always : IsSome (file_of words) → after.files.place ≡ MOST_BYTES + 1 → IsSound before after → (status ≡ 65) ⊎ (status ≡ 71)
  pub written : status ≡ 65 → IfSome (file_of words) (λ file. IsWritten (too_long_outcome file) before.sinks after.sinks)

-- 66 only where the files failed, at the last call, and at the file of the words; where they failed, it is 66, or 74 where its line can't be written
pub record IsUnread (words : List (List ℕ)) (before after : Outside) (status : ℕ) : Type 0 where
  pub cause : status ≡ 66 → HasRisen before.files.faults after.files.faults × (after.files.failed ≡ true) × (after.files.named ≡ file_of words) × IsSome (file_of words)
  pub always : before.files.faults < after.files.faults → (status ≡ 66) ⊎ (status ≡ 74)
  pub written : status ≡ 66 → IfSome (file_of words) (λ file. IsWritten (unread_outcome file) before.sinks after.sinks)

-- 74 exactly where a sink failed; then each sink has a prefix of the bytes that were meant for it
pub record IsUnwritten (words : List (List ℕ)) (before after : Outside) (status : ℕ) : Type 0 where
  pub cause : status ≡ 74 → HasRisen before.sinks.out.faults after.sinks.out.faults ⊎ HasRisen before.sinks.err.faults after.sinks.err.faults
  pub at_out : before.sinks.out.faults < after.sinks.out.faults → status ≡ 74
  pub at_err : before.sinks.err.faults < after.sinks.err.faults → status ≡ 74
  pub unread : status ≡ 74 → before.files.faults < after.files.faults → IfSome (file_of words) (λ file. IsCut (unread_outcome file) before.sinks after.sinks)
  pub cut : status ≡ 74 → IsSteady before.files.faults after.files.faults → (contents : Contents) → before.files.contents ≡ Some contents
      → (outcome : Outcome) × IsOutcome words contents outcome × IsCut outcome before.sinks after.sinks

-- with 71 nothing is written
pub record IsWanting (before after : Outside) (status : ℕ) : Type 0 where
  pub line : status ≡ 71 → Takes before.sinks.err [] after.sinks.err
  pub output : status ≡ 71 → Takes before.sinks.out [] after.sinks.out

-- no count falls, and no call changes what the files hold
pub record IsKept (before after : Outside) : Type 0 where
  pub files : before.files.faults ≤ after.files.faults
  pub out : before.sinks.out.faults ≤ after.sinks.out.faults
  pub err : before.sinks.err.faults ≤ after.sinks.err.faults
  pub contents : after.files.contents ≡ before.files.contents
