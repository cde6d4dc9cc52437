-- What the program has to say, and how the files stand then.
use Rattle.std.specs.Prelude.{◌≡◌, ℕ, ◌+◌, ◌<◌, ◌≤◌, true, List, length, Some, Ok, Err}
use Rattle.gv_base.specs.declared.limits.Limits.{Limits}
use Rattle.gv_outside.specs.Count.{HasRisen}
use Rattle.gv_outside.specs.Files.{Contents, FilesState, content_of}
use Rattle.gv_outside.specs.declared.files.TheConstants.{MOST_BYTES}
use Rattle.groovy_cli.specs.Program.{Outcome, Request, Says, usage_outcome, unread_outcome, too_long_outcome, refused_outcome, ran_outcome}
use Rattle.groovy_cli.specs.declared.answer.Answer.{Answer}
use Rattle.groovy_cli.specs.declared.answer.Answer.TheVariants.{Usage, Unread, TooLong, Refused, Ran}

-- what an answer about a file says
abbrev pub outcome : List ℕ → Answer → Outcome
outcome file Usage = usage_outcome
outcome file Unread = unread_outcome file
outcome file TooLong = too_long_outcome file
outcome file (Refused refusal) = refused_outcome file refusal
outcome file (Ran report) = ran_outcome report

-- the answer to a script that is refused or runs
abbrev pub Answers : Limits → List ℕ → Answer → Type 0
Answers limits script (Refused refusal) = Says limits script (Err refusal)
Answers limits script (Ran report) = Says limits script (Ok report)
Answers limits script answer = ⊥

-- a file was read whole, and where its content is told, the answer is that to the script in it
abbrev pub IsRead : Request → FilesState → FilesState → Answer → Type 0
IsRead request old new answer = (new.faults ≡ old.faults) × (new.place ≤ MOST_BYTES)
    × ((contents : Contents) → old.contents ≡ Some contents
    → (length (content_of contents request.file) ≤ MOST_BYTES) × Answers request.limits (content_of contents request.file) answer)

-- why an answer to a request is given
abbrev pub Stands : Request → FilesState → FilesState → Answer → Type 0
Stands request old new Usage = ⊥
Stands request old new Unread = HasRisen old.faults new.faults × (new.failed ≡ true) × (new.named ≡ Some request.file)
Stands request old new TooLong = (new.faults ≡ old.faults) × (new.place ≡ MOST_BYTES + 1) × (new.named ≡ Some request.file)
    × ((contents : Contents) → old.contents ≡ Some contents → MOST_BYTES < length (content_of contents request.file))
Stands request old new (Refused refusal) = IsRead request old new (Refused refusal)
Stands request old new (Ran report) = IsRead request old new (Ran report)
