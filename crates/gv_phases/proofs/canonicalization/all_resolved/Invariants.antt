use Rattle.std.proofs.Common.{◌≡◌, ◌++◌, drop, map}
use Rattle.gv_phases.specs.Phases.{resolved_of, all_resolved}
use Rattle.gv_phases.proofs.canonicalization.all_resolved.Given as goal

abbrev pub invariant-loop-script : goal.invariant-loop-script
invariant-loop-script l = l.resolved.items ++ map (resolved_of l.known l.classes) (drop l.script-index l.scripts) ≡ all_resolved l.known l.classes l.scripts
