-- What the words of the command line ask for.
use Rattle.std.specs.Prelude.{ℕ, ◌+◌, ◌≤◌, Bool, true, false, ◌&&◌, ◌||◌, ◌==◌, nat_le, List, [], ◌∷◌, length, drop, codes, position, bytes_eq, slice_index, Option, None, Some, is_some, unwrap_or, option_map, option_and_then, if◌then◌else◌}
use Rattle.std.specs.Char.{is_ascii_digit}
use Rattle.std.specs.List.{before_first, list_all}
use Rattle.std.specs.Str.Parse.{digits_value}
use Rattle.gv_base.specs.declared.limits.Limits.{Limits}
use Rattle.gv_base.specs.declared.limits.TheConstants.Limits.{TICKS, CELLS, DEPTH}
use Rattle.gv_words.specs.declared.asked.Asked.{Asked}
use Rattle.gv_words.specs.declared.asked.Limit.{Limit}
use Rattle.gv_words.specs.declared.asked.Limit.TheVariants.{Ticks, Cells, Depth}
use Rattle.gv_words.specs.declared.asked.TheConstants.{DEFAULTS}
use Rattle.gv_words.specs.declared.words.Reading.{Reading}

-- ---- numbers

-- the value of 1 to 20 ASCII digits
abbrev pub number_of : List ℕ → Option ℕ
number_of text =
    if nat_le 1 (length text) && nat_le (length text) 20 && list_all is_ascii_digit text then Some (digits_value 10 text) else None

-- the most that a limit may be
abbrev pub most : Limit → ℕ
most Ticks = TICKS
most Cells = CELLS
most Depth = DEPTH

-- the number, where the limit may be it
abbrev pub within : Limit → ℕ → Option ℕ
within limit number = if nat_le 1 number && nat_le number (most limit) then Some number else None

-- the number that a text gives a limit
abbrev pub value_of : Limit → List ℕ → Option ℕ
value_of limit text = option_and_then (within limit) (number_of text)

-- each limit is at least 1, and at most its most
pub record AreLimits (limits : Limits) : Type 0 where
  pub ticks : (1 ≤ limits.ticks) × (limits.ticks ≤ TICKS)
  pub cells : (1 ≤ limits.cells) × (limits.cells ≤ CELLS)
  pub depth : (1 ≤ limits.depth) × (limits.depth ≤ DEPTH)

-- ---- options

-- what stands before the first `=` of a word, or all of it
abbrev pub name_in : List ℕ → List ℕ
name_in word = before_first (λ byte. byte == 61) word

-- what stands behind the first `=` of a word
abbrev pub value_in : List ℕ → Option (List ℕ)
value_in word = option_map (λ place. drop (place + 1) word) (position (λ byte. byte == 61) word)

-- the limit that the option of this name sets
abbrev pub limit_named : List ℕ → Option Limit
limit_named name =
    if bytes_eq name (codes "--ticks") then Some Ticks
    else if bytes_eq name (codes "--cells") then Some Cells
    else if bytes_eq name (codes "--depth") then Some Depth
    else None

-- ---- what is asked for

abbrev pub nothing : Asked
nothing = record { ticks = None; cells = None; depth = None; file = None; waits = None; only_files = false }

abbrev pub is_set : Limit → Asked → Bool
is_set Ticks asked = is_some asked.ticks
is_set Cells asked = is_some asked.cells
is_set Depth asked = is_some asked.depth

abbrev pub with_limit : Limit → ℕ → Asked → Asked
with_limit Ticks number asked = record asked { ticks = Some number }
with_limit Cells number asked = record asked { cells = Some number }
with_limit Depth number asked = record asked { depth = Some number }

-- the limits, with the default of each that isn't set
abbrev pub limits_of : Asked → Limits
limits_of asked = record {
  ticks = unwrap_or asked.ticks DEFAULTS.ticks;
  cells = unwrap_or asked.cells DEFAULTS.cells;
  depth = unwrap_or asked.depth DEFAULTS.depth;
}

-- ---- one more word

-- it is the value that an option waits for; no number begins with `-`
abbrev pub with_value : Limit → List ℕ → Asked → Option Asked
with_value limit word asked = option_map (λ number. record (with_limit limit number asked) { waits = None }) (value_of limit word)

-- it is an option, with the value behind its `=`; without one, it waits for the next word
abbrev pub with_option_value : Limit → Option (List ℕ) → Asked → Option Asked
with_option_value limit None asked = Some (record asked { waits = Some limit })
with_option_value limit (Some text) asked = option_map (λ number. with_limit limit number asked) (value_of limit text)

-- the limit isn't set already: each option stands at most once
abbrev pub with_option : Limit → Option (List ℕ) → Asked → Option Asked
with_option limit value asked = if is_set limit asked then None else with_option_value limit value asked

-- it is the file, where there is none yet
abbrev pub with_file : ℕ → List ℕ → Asked → Option Asked
with_file place word asked = if is_some asked.file || bytes_eq word (codes "-") then None else Some (record asked { file = Some place })

-- it is an option where it has the name of one; no other word that begins with `-` is a file here
abbrev pub with_word : Option Limit → ℕ → List ℕ → Asked → Option Asked
with_word (Some limit) place word asked = with_option limit (value_in word) asked
with_word None place word asked = if slice_index word 0 == 45 then None else with_file place word asked

-- behind `--` it is a file; else it is `--`, an option or a file
abbrev pub with_free_word : ℕ → List ℕ → Asked → Option Asked
with_free_word place word asked =
    if asked.only_files then with_file place word asked
    else if bytes_eq word (codes "--") then Some (record asked { only_files = true })
    else with_word (limit_named (name_in word)) place word asked

-- an option that waits takes it
abbrev pub step_where : Option Limit → Asked → ℕ → List ℕ → Option Asked
step_where (Some limit) asked place word = with_value limit word asked
step_where None asked place word = with_free_word place word asked

-- what is asked for with the word of a place
abbrev pub step : Asked → ℕ → List ℕ → Option Asked
step asked place word = step_where asked.waits asked place word

-- ---- all words

-- what is asked for behind words that begin at a place
abbrev pub read : Asked → ℕ → List (List ℕ) → Option Asked
read asked place [] = Some asked
read asked place (word ∷ words) = option_and_then (λ next. read next (place + 1) words) (step asked place word)

-- what was asked for, where no option waits and the file is there
abbrev pub finished : Asked → Option Reading
finished asked = if is_some asked.waits then None else option_map (λ file. record { limits = limits_of asked; file = file }) asked.file

-- what the words ask for
abbrev pub reading_of : List (List ℕ) → Option Reading
reading_of words = option_and_then finished (read nothing 0 words)
