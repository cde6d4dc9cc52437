use Rattle.std.proofs.Common.{◌≡◌, drop}
use Rattle.gv_events.specs.Events as spec
use Rattle.gv_events.proofs.reader.Reader.initials.Given as goal

abbrev pub invariant-loop-var : goal.invariant-loop-var
invariant-loop-var l = spec.each (spec.field_var_said l.self.it (spec.expr_said l.self.it l.levels) (spec.stmt_said l.self.it l.levels)) (drop l.var-index l.vars) l.out ≡ spec.each (spec.field_var_said l.self.it (spec.expr_said l.self.it l.levels) (spec.stmt_said l.self.it l.levels)) l.vars l.fn.out
