use Rattle.std.proofs.Common.{◌≡◌, drop}
use Rattle.gv_scopes.specs.Scopes.{fields_of}
use Rattle.gv_scopes.proofs.fields.OwnFields.put_all.Given as goal

abbrev pub invariant-loop-member : goal.invariant-loop-member
invariant-loop-member l = fields_of (drop l.member-index l.members) l.self ≡ fields_of l.members l.fn.self
