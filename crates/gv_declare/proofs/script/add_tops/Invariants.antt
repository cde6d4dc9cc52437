use Rattle.std.proofs.Common.{◌≡◌, drop}
use Rattle.gv_declare.specs.Members as spec
use Rattle.gv_declare.proofs.script.add_tops.Given as goal

abbrev pub invariant-loop-top : goal.invariant-loop-top
invariant-loop-top l = spec.classes_declared l.known (drop l.top-index l.tops) l.classes ≡ spec.classes_declared l.known l.tops l.fn.classes
