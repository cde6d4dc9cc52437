use Rattle.std.proofs.Common.{◌≡◌, ◌++◌, drop}
use Rattle.gv_declare.specs.Members as spec
use Rattle.gv_declare.proofs.params.param_types.Given as goal

abbrev pub invariant-loop-param : goal.invariant-loop-param
invariant-loop-param l = l.types ++ spec.param_types l.known l.left (drop l.param-index l.params) ≡ spec.param_types l.known l.optional l.params
