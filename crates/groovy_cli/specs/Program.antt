-- What the program is to write and answer, for its words and the files' contents.
use Rattle.std.specs.Prelude.{◌≡◌, ℕ, ◌==◌, ◌<◌, ◌≤◌, All, List, [], ◌∷◌, ◌++◌, map, flat_map, length, codes, slice_get, Option, Some, None, Result, Ok, Err, option_map, unwrap_or, if◌then◌else◌}
use Rattle.std.specs.Fmt.{decimal}
use Rattle.std.specs.List.{list_any}
use Rattle.gv_base.specs.Refusal.{number_of, text_of}
use Rattle.gv_base.specs.declared.limits.Limits.{Limits}
use Rattle.gv_base.specs.declared.refusal.Refusal.{Refusal}
use Rattle.gv_base.specs.declared.refusal.RefusalKind.TheVariants.{NotBuilt}
use Rattle.gv_classes.specs.BuiltIn.{rows, built_in_class, with_texts}
use Rattle.gv_core.specs.declared.stmt.Source.{Source}
use Rattle.gv_lex.specs.Lexing.{lexed}
use Rattle.gv_lex.specs.Places.{file_start}
use Rattle.gv_lex.specs.Tokens.{told, IsNamed}
use Rattle.gv_lex.specs.declared.token.Token.{Token}
use Rattle.gv_lex.specs.declared.token.TokenKind.{TokenKind}
use Rattle.gv_lex.specs.declared.token.TokenKind.TheVariants as kind
use Rattle.gv_tree.specs.declared.top.Script.{Script}
use Rattle.gv_exprs.specs.declared.parse.ParseError.TheVariants.{Refused}
use Rattle.gv_stmts.specs.Parsed.{Parses}
use Rattle.gv_phases.specs.Phases.{IsConverted, scripts_refused}
use Rattle.gv_phases.specs.declared.known.Known.{Known as Rules}
use Rattle.gv_classes.specs.declared.declared.Declared.{Declared}
use Rattle.gv_meaning.specs.Meaning.{meaning}
use Rattle.gv_meaning.specs.Opening.{opened_world}
use Rattle.gv_meaning.specs.declared.world.Why.{Why}
use Rattle.gv_meaning.specs.declared.world.Why.TheVariants.{Ticks, Cells, Depth}
use Rattle.gv_meaning.specs.declared.world.World.{World}
use Rattle.gv_lower.specs.Core.{unit_of}
use Rattle.gv_lower.specs.Known.{AreKnown, with_known}
use Rattle.gv_lower.specs.declared.known.Known.{Known}
use Rattle.gv_simulate.specs.Report.{report_of}
use Rattle.gv_simulate.specs.declared.report.Ending.{Ending}
use Rattle.gv_simulate.specs.declared.report.Ending.TheVariants.{Value, Uncaught, Stopped}
use Rattle.gv_simulate.specs.declared.report.Report.{Report}
use Rattle.gv_words.specs.Words.{reading_of}
use Rattle.gv_words.specs.declared.words.Reading.{Reading}
use Rattle.gv_outside.specs.Files.{Contents, content_of}
use Rattle.gv_outside.specs.declared.files.TheConstants.{MOST_BYTES}

-- ---- the words

-- the word of a place
abbrev pub word_at : List (List ℕ) → ℕ → List ℕ
word_at words place = unwrap_or (slice_get words place) []

-- what the words ask for: a file, and what its run may spend
pub record Request : Type 0 where
  pub file : List ℕ
  pub limits : Limits

abbrev pub request_in : List (List ℕ) → Reading → Request
request_in words reading = record { file = word_at words reading.file; limits = reading.limits }

abbrev pub request_of : List (List ℕ) → Option Request
request_of words = option_map (request_in words) (reading_of words)

abbrev pub file_of : List (List ℕ) → Option (List ℕ)
file_of words = option_map (λ request. request.file) (request_of words)

-- ---- the script

-- a script of a form that isn't built yet is refused at its file's start
abbrev pub not_built : Refusal
not_built = record { kind = NotBuilt; place = file_start 0 }

-- a file's tokens, by a table of their names
pub record Lexes (bytes : List ℕ) (names : List (List ℕ)) (tokens : List Token) : Type 0 where
  pub spelled : lexed 0 bytes ≡ Ok (map (told names) tokens)
  pub named : All (IsNamed names) tokens

-- the names of the texts of strings, each once
abbrev pub with_text : List ℕ → TokenKind → List ℕ
with_text texts (kind.Text piece name) = if list_any (λ text. name == text) texts then texts else texts ++ name ∷ []
with_text texts token = texts

abbrev pub texts_behind : List ℕ → List Token → List ℕ
texts_behind texts [] = texts
texts_behind texts (t ∷ ts) = texts_behind (with_text texts t.kind) ts

-- the world in which a script's run begins: it knows the built-in classes, and the script's strings
abbrev pub first_world : List (List ℕ) → List ℕ → Limits → World
first_world names texts limits = let all = with_texts names rows in opened_world all (map (built_in_class all) rows) texts limits

-- whether a script that has a tree is refused: it is converted, in the table of its tokens' names, and then judged
pub record IsJudged (names : List (List ℕ)) (s : Script) (refusal : Option Refusal) : Type 0 where
  pub rules : Rules
  pub all : List (List ℕ)
  pub scripts : List Script
  pub classes : List Declared
  pub converted : IsConverted names (s ∷ []) rules all scripts classes
  pub judged : refusal ≡ scripts_refused rules classes scripts

-- the bodies of the first script
abbrev pub first_unit : Known → List Script → Option (List Source)
first_unit known [] = None
first_unit known (s ∷ ss) = unit_of known s

-- what a script's bodies come to, or that the script has none
abbrev pub said_of : Limits → List (List ℕ) → List ℕ → Option (List Source) → Result Report Refusal
said_of limits names texts None = Err not_built
said_of limits names texts (Some unit) = Ok (report_of (meaning unit (first_world names texts limits)))

-- what a file's bytes say: a refusal of them, or what their script does within the limits
pub data Says (limits : Limits) (bytes : List ℕ) : Result Report Refusal → Type 0 where
  no_tokens : {r : Refusal} → lexed 0 bytes ≡ Err r → Says limits bytes (Err r)
  no_tree : {names : List (List ℕ)} {tokens : List Token} {r : Refusal} → Lexes bytes names tokens → Parses (Err (Refused r)) tokens → Says limits bytes (Err r)
  a_refused_tree : {names : List (List ℕ)} {tokens : List Token} {s : Script} {r : Refusal} → Lexes bytes names tokens → Parses (Ok s) tokens → IsJudged names s (Some r) → Says limits bytes (Err r)
  a_tree : {names : List (List ℕ)} {tokens : List Token} {s : Script} {known : Known} → Lexes bytes names tokens → Parses (Ok s) tokens → (j : IsJudged names s None) → AreKnown (with_known j.all) known
      → Says limits bytes (said_of limits (with_known j.all) (texts_behind [] tokens) (first_unit known j.scripts))

-- ---- the lines of `err`

abbrev pub usage_line : List ℕ
usage_line = codes "usage: groovy [--ticks N] [--cells N] [--depth N] [--result] [--show WHAT] FILE.. | --work SEED:SIZE\n"

abbrev pub unwritten_line : List ℕ
unwritten_line = codes "groovy: cannot write\n"

-- pieces, one behind the other
abbrev pub joined : List (List ℕ) → List ℕ
joined pieces = flat_map (λ piece. piece) pieces

abbrev pub about_line : List ℕ → List ℕ → List ℕ
about_line message file = joined (message ∷ file ∷ codes "\n" ∷ [])

abbrev pub unread_line : List ℕ → List ℕ
unread_line file = about_line (codes "groovy: cannot read: ") file

abbrev pub too_long_line : List ℕ → List ℕ
too_long_line file = about_line (codes "groovy: file too long: ") file

abbrev pub parts_line : List ℕ → List ℕ → List ℕ → List ℕ → List ℕ → List ℕ
parts_line file line column kind text =
    joined (file ∷ codes ":" ∷ line ∷ codes ":" ∷ column ∷ codes ": refused " ∷ kind ∷ codes ": " ∷ text ∷ codes "\n" ∷ [])

-- FILE:LINE:COLUMN: refused KIND: TEXT
abbrev pub refusal_line : List ℕ → Refusal → List ℕ
refusal_line file refusal = parts_line file (decimal refusal.place.line) (decimal refusal.place.column) (decimal (number_of refusal.kind)) (text_of refusal.kind)

-- ---- the program

-- the bytes for `out`, those for `err`, and the status
pub record Outcome : Type 0 where
  pub output : List ℕ
  pub line : List ℕ
  pub status : ℕ

abbrev pub usage_outcome : Outcome
usage_outcome = record { output = []; line = usage_line; status = 64 }

abbrev pub unread_outcome : List ℕ → Outcome
unread_outcome file = record { output = []; line = unread_line file; status = 66 }

abbrev pub too_long_outcome : List ℕ → Outcome
too_long_outcome file = record { output = []; line = too_long_line file; status = 65 }

abbrev pub refused_outcome : List ℕ → Refusal → Outcome
refused_outcome file refusal = record { output = []; line = refusal_line file refusal; status = 2 }

abbrev pub stopped_line : Why → List ℕ
stopped_line Ticks = codes "Stopped: ticks\n"
stopped_line Cells = codes "Stopped: cells\n"
stopped_line Depth = codes "Stopped: depth\n"

-- the line that tells how a run ended, and its status
abbrev pub ending_line : Ending → List ℕ
ending_line Value = []
ending_line (Uncaught text) = about_line (codes "Caught: ") text
ending_line (Stopped why) = stopped_line why

abbrev pub ending_status : Ending → ℕ
ending_status Value = 0
ending_status (Uncaught text) = 1
ending_status (Stopped Ticks) = 3
ending_status (Stopped Cells) = 4
ending_status (Stopped Depth) = 5

abbrev pub ran_outcome : Report → Outcome
ran_outcome report = record { output = report.output; line = ending_line report.ending; status = ending_status report.ending }

abbrev pub script_outcome : List ℕ → Result Report Refusal → Outcome
script_outcome file (Ok report) = ran_outcome report
script_outcome file (Err refusal) = refused_outcome file refusal

-- what is written of a file, and the status
pub data IsFileOutcome (request : Request) (bytes : List ℕ) : Outcome → Type 0 where
  too_long : MOST_BYTES < length bytes → IsFileOutcome request bytes (too_long_outcome request.file)
  a_script : {script : Result Report Refusal} → length bytes ≤ MOST_BYTES → Says request.limits bytes script → IsFileOutcome request bytes (script_outcome request.file script)

abbrev pub IsOutcomeOf : Option Request → Contents → Outcome → Type 0
IsOutcomeOf None contents outcome = outcome ≡ usage_outcome
IsOutcomeOf (Some request) contents outcome = IsFileOutcome request (content_of contents request.file) outcome

-- the program meaning: an outcome of the words and the files' contents
abbrev pub IsOutcome : List (List ℕ) → Contents → Outcome → Type 0
IsOutcome words contents outcome = IsOutcomeOf (request_of words) contents outcome
