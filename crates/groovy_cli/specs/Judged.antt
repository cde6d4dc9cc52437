-- What the phases answer of one script.
use Rattle.std.specs.Prelude.{◌≡◌, ℕ, List, None, Some, Result, Ok, Err}
use Rattle.gv_phases.specs.declared.error.PhaseError.{PhaseError}
use Rattle.gv_phases.specs.declared.error.PhaseError.TheVariants.{Refused, OutOfMemory}
use Rattle.gv_phases.specs.declared.unit.Canonical.{Canonical}
use Rattle.gv_phases.specs.declared.unit.Unit as phases
use Rattle.gv_tree.specs.declared.top.Script.{Script}
use Rattle.groovy_cli.specs.Program.{IsJudged}

-- the unit of the script, where nothing of it is refused, or its refusal
abbrev pub Judged : List (List ℕ) → Script → Result (phases.Unit Canonical) PhaseError → Type 0
Judged names s (Ok unit) = (j : IsJudged names s None) × (j.all ≡ unit.names) × (j.scripts ≡ unit.scripts.items)
Judged names s (Err (Refused r)) = IsJudged names s (Some r)
Judged names s (Err OutOfMemory) = Unit {0}
