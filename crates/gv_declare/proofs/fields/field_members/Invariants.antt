use Rattle.std.proofs.Common.{◌≡◌, drop}
use Rattle.gv_declare.specs.Members as spec
use Rattle.gv_declare.proofs.fields.field_members.Given as goal

abbrev pub invariant-loop-var : goal.invariant-loop-var
invariant-loop-var l = spec.field_members l.known l.class l.flags (drop l.var-index l.vars) l.out ≡ spec.field_members l.known l.class l.flags l.vars l.fn.out
