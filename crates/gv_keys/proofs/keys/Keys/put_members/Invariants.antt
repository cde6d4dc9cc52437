use Rattle.std.proofs.Common.{◌≡◌, drop}
use Rattle.gv_keys.specs.Keys as spec
use Rattle.gv_keys.proofs.keys.Keys.put_members.Given as goal

abbrev pub invariant-loop-member : goal.invariant-loop-member
invariant-loop-member l = spec.with_members l.self (drop l.member-index l.members) ≡ spec.with_members l.fn.self l.members
