use Rattle.std.proofs.Common.{◌≡◌, drop}
use Rattle.gv_accessors.specs.Accessors as spec
use Rattle.gv_accessors.proofs.class.add_members.Given as goal

abbrev pub invariant-loop-member : goal.invariant-loop-member
invariant-loop-member l =
    spec.each (spec.member_added l.known) (drop l.member-index l.members) (l.names, l.adding)
    ≡ spec.each (spec.member_added l.known) l.members (l.fn.names, l.fn.adding)
