use Rattle.std.proofs.Common.{◌≡◌, drop}
use Rattle.gv_declare.specs.Members as spec
use Rattle.gv_declare.proofs.class.class_members.Given as goal

abbrev pub invariant-loop-member : goal.invariant-loop-member
invariant-loop-member l = spec.each (spec.member_members l.known) (drop l.member-index l.members) l.out ≡ spec.each (spec.member_members l.known) l.members l.fn.out
