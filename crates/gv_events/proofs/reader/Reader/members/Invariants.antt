use Rattle.std.proofs.Common.{◌≡◌, drop}
use Rattle.gv_events.specs.Events as spec
use Rattle.gv_events.proofs.reader.Reader.members.Given as goal

abbrev pub invariant-loop-member : goal.invariant-loop-member
invariant-loop-member l = spec.each (spec.class_member_said l.self.it (spec.expr_said l.self.it l.levels) (spec.stmt_said l.self.it l.levels)) (drop l.member-index l.members) l.out ≡ spec.each (spec.class_member_said l.self.it (spec.expr_said l.self.it l.levels) (spec.stmt_said l.self.it l.levels)) l.members l.fn.out
