-- What each phase makes of the unit before it, and what it refuses.
use Rattle.std.specs.Prelude.{◌≡◌, ℕ, ◌+◌, min, List, [], ◌∷◌, map, Option, Some, None, Result, Ok, Err}
use Rattle.gv_accessors.specs.Accessors.{converted}
use Rattle.gv_base.specs.declared.refusal.Refusal.{Refusal}
use Rattle.gv_checks.specs.Checks.{classes_of, refusal_of, words_of}
use Rattle.gv_classes.specs.BuiltIn.{rows, with_texts}
use Rattle.gv_classes.specs.declared.declared.Declared.{Declared}
use Rattle.gv_events.specs.Events.{events_of}
use Rattle.gv_scopes.specs.Scopes as scopes
use Rattle.gv_scopes.specs.declared.resolved.Resolved.{Resolved}
use Rattle.gv_tree.specs.declared.top.Script.{Script}
use Rattle.gv_phases.specs.Known.{AreKnown, with_known, accessor_names, scope_names}
use Rattle.gv_phases.specs.declared.error.PhaseError.{PhaseError}
use Rattle.gv_phases.specs.declared.error.PhaseError.TheVariants.{Refused, OutOfMemory}
use Rattle.gv_phases.specs.declared.error.ResolveError.{ResolveError}
use Rattle.gv_phases.specs.declared.error.ResolveError.TheVariants as resolve
use Rattle.gv_phases.specs.declared.known.Known.{Known}

-- ---- conversion: accessors are added, and the classes gathered

abbrev pub converted_names : Known → List (List ℕ) → List Script → List (List ℕ)
converted_names k names scripts = (converted (accessor_names k) (with_known names) scripts).names

abbrev pub converted_scripts : Known → List (List ℕ) → List Script → List Script
converted_scripts k names scripts = (converted (accessor_names k) (with_known names) scripts).scripts

abbrev pub converted_classes : Known → List (List ℕ) → List Script → List Declared
converted_classes k names scripts = classes_of k.checks (converted_names k names scripts) (converted_scripts k names scripts)

-- of a table of names and the scripts of all files
pub record IsConverted (old_names : List (List ℕ)) (old_scripts : List Script) (k : Known) (names : List (List ℕ)) (scripts : List Script) (classes : List Declared) : Type 0 where
  pub known : AreKnown old_names k
  pub named : names ≡ with_texts (converted_names k old_names old_scripts) rows
  pub with_accessors : scripts ≡ converted_scripts k old_names old_scripts
  pub gathered : classes ≡ converted_classes k old_names old_scripts

-- ---- semantic analysis: the first file with a refusal, and its first one

-- files have numbers up to 255
abbrev pub next_file : ℕ → ℕ
next_file file = min (file + 1) 255

abbrev pub or_later : Option Refusal → Option Refusal → Option Refusal
or_later None later = later
or_later (Some r) later = Some r

abbrev pub Refuses : Type 0
Refuses = ℕ → Script → Option Refusal

-- the first file, from a number on
abbrev pub first_of : Refuses → ℕ → List Script → Option Refusal
first_of refusal file [] = None
first_of refusal file (s ∷ ss) = or_later (refusal file s) (first_of refusal (next_file file) ss)

abbrev pub scripts_refused : Known → List Declared → List Script → Option Refusal
scripts_refused k classes scripts = first_of (refusal_of k.checks classes) 0 scripts

-- ---- canonicalization: what each name means

abbrev pub resolved_of : Known → List Declared → Script → Resolved
resolved_of k classes s = scopes.resolved_of (scope_names k) classes (events_of (words_of k.checks) s)

abbrev pub all_resolved : Known → List Declared → List Script → List Resolved
all_resolved k classes scripts = map (resolved_of k classes) scripts

-- ---- answers

-- refused exactly with the refusal that there is
abbrev pub Passes : {U : Type 0} → Option Refusal → (U → Type 0) → Result U PhaseError → Type 0
Passes refusal Is (Ok unit) = (refusal ≡ None) × Is unit
Passes refusal Is (Err (Refused r)) = refusal ≡ Some r
Passes refusal Is (Err OutOfMemory) = Unit {0}

abbrev pub Resolves : Option Refusal → Resolved → Result Resolved ResolveError → Type 0
Resolves refusal wanted (Ok resolved) = (refusal ≡ None) × (resolved ≡ wanted)
Resolves refusal wanted (Err (resolve.Refused r)) = refusal ≡ Some r
Resolves refusal wanted (Err resolve.OutOfMemory) = Unit {0}
