-- The names that the rules of the phases speak of.
use Rattle.std.specs.Prelude.{◌≡◌, ℕ, List, Some, codes}
use Rattle.gv_base.specs.Names.{name_of, with_name}
use Rattle.gv_accessors.specs.declared.known.Known.{Known as AccessorNames}
use Rattle.gv_checks.specs.Checks as checks
use Rattle.gv_scopes.specs.declared.known.Known.{Known as ScopeNames}
use Rattle.gv_phases.specs.declared.known.Known.{Known}

-- the table with these names, each behind those before it
abbrev pub with_value : List (List ℕ) → List (List ℕ)
with_value names = with_name (checks.with_known names) (codes "#v")

abbrev pub with_owner : List (List ℕ) → List (List ℕ)
with_owner names = with_name (with_value names) (codes "owner")

abbrev pub with_delegate : List (List ℕ) → List (List ℕ)
with_delegate names = with_name (with_owner names) (codes "delegate")

abbrev pub with_known : List (List ℕ) → List (List ℕ)
with_known names = with_name (with_delegate names) (codes "resolveStrategy")

-- each is the name that its text has, or gets
pub record AreKnown (names : List (List ℕ)) (k : Known) : Type 0 where
  pub checks : checks.AreKnown names k.checks
  pub value : name_of (with_value names) (codes "#v") ≡ Some k.value
  pub owner : name_of (with_owner names) (codes "owner") ≡ Some k.owner
  pub delegate : name_of (with_delegate names) (codes "delegate") ≡ Some k.delegate
  pub resolve_strategy : name_of (with_known names) (codes "resolveStrategy") ≡ Some k.resolve_strategy

-- those of which conversion speaks, and those of which the scopes do
abbrev pub accessor_names : Known → AccessorNames
accessor_names k = record { declare = k.checks.declare; words = checks.words_of k.checks; value = k.value }

abbrev pub scope_names : Known → ScopeNames
scope_names k = record { it = k.checks.it; script = k.checks.declare.script; owner = k.owner; delegate = k.delegate; resolve_strategy = k.resolve_strategy }
