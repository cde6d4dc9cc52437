use Rattle.std.proofs.Common.{◌≡◌, drop}
use Rattle.gv_declare.specs.Members as spec
use Rattle.gv_declare.proofs.script.add_classes.Given as goal

abbrev pub invariant-loop-script : goal.invariant-loop-script
invariant-loop-script l = spec.scripts_classes l.known (drop l.script-index l.scripts) l.classes ≡ spec.scripts_classes l.known l.scripts l.fn.classes
