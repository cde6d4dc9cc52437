use Rattle.std.proofs.Common.{◌≡◌, [], drop}
use Rattle.gv_repeats.specs.Repeats as spec
use Rattle.gv_repeats.proofs.repeats.members_refused.Given as goal

abbrev pub invariant-loop-member : goal.invariant-loop-member
invariant-loop-member l = spec.members_refused l.file l.keys (drop l.member-index l.members) l.first ≡ spec.members_refused l.file [] l.members l.fn.first
