use Rattle.std.proofs.Common.{◌≡◌, ◌+◌, ◌≤◌, drop}
use Rattle.gv_declare.specs.Members as spec
use Rattle.gv_declare.proofs.params.defaults.Given as goal

abbrev pub invariant-loop-param : goal.invariant-loop-param
invariant-loop-param l = record {
  counted : l.count + spec.defaults (drop l.param-index l.params) ≡ spec.defaults l.params;
  few : l.count ≤ l.param-index;
}
