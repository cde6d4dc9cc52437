use Rattle.std.proofs.Common.{◌≡◌, drop}
use Rattle.gv_declare.specs.Members as spec
use Rattle.gv_declare.proofs.params.has_rest.Given as goal

abbrev pub invariant-loop-param : goal.invariant-loop-param
invariant-loop-param l = spec.has_rest l.left (drop l.param-index l.params) ≡ spec.has_rest l.optional l.params
