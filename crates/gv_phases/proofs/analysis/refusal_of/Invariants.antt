use Rattle.std.proofs.Common.{◌≡◌, drop}
use Rattle.gv_checks.specs.Checks.{refusal_of}
use Rattle.gv_phases.specs.Phases.{first_of, scripts_refused}
use Rattle.gv_phases.proofs.analysis.refusal_of.Given as goal

abbrev pub invariant-loop-script : goal.invariant-loop-script
invariant-loop-script l = first_of (refusal_of l.known.checks l.classes) l.file (drop l.script-index l.scripts) ≡ scripts_refused l.known l.classes l.scripts
