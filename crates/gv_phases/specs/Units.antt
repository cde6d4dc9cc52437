-- What a unit is behind semantic analysis and behind canonicalization.
use Rattle.std.specs.Prelude.{◌≡◌}
use Rattle.gv_phases.specs.Phases.{all_resolved}
use Rattle.gv_phases.specs.declared.unit.Analysed.{Analysed}
use Rattle.gv_phases.specs.declared.unit.Canonical.{Canonical}
use Rattle.gv_phases.specs.declared.unit.Converted.{Converted}
use Rattle.gv_phases.specs.declared.unit.Unit.{Unit}

-- the unit before it, of which nothing is refused
pub record IsAnalysed (before : Unit Converted) (unit : Unit Analysed) : Type 0 where
  pub names : unit.names ≡ before.names
  pub scripts : unit.scripts ≡ before.scripts
  pub known : unit.state.known ≡ before.state.known
  pub classes : unit.state.classes ≡ before.state.classes

-- the unit before it, and what its names mean
pub record IsCanonical (before : Unit Analysed) (unit : Unit Canonical) : Type 0 where
  pub names : unit.names ≡ before.names
  pub scripts : unit.scripts ≡ before.scripts
  pub classes : unit.state.classes ≡ before.state.classes
  pub resolved : unit.state.resolved.items ≡ all_resolved before.state.known before.state.classes before.scripts.items
