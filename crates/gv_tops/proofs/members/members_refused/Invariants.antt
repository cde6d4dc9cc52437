use Rattle.std.proofs.Common.{◌≡◌, drop}
use Rattle.gv_tops.specs.Tops.{each, member_refused}
use Rattle.gv_tops.proofs.members.members_refused.Given as goal

abbrev pub invariant-loop-member : goal.invariant-loop-member
invariant-loop-member l = each (member_refused l.known l.imported) (drop l.member-index l.members) l.so_far ≡ each (member_refused l.known l.imported) l.members l.fn.first
