use Rattle.std.proofs.Common.{◌≡◌, drop}
use Rattle.gv_accessors.specs.Accessors as spec
use Rattle.gv_accessors.proofs.adding.Adding.add_vars.Given as goal

abbrev pub invariant-loop-var : goal.invariant-loop-var
invariant-loop-var l =
    spec.vars_added l.known l.written l.is_static l.is_final (drop l.var-index l.vars) (l.names, l.self)
    ≡ spec.vars_added l.known l.written l.is_static l.is_final l.vars (l.fn.names, l.fn.self)
