use Rattle.std.proofs.Common.{◌≡◌, drop}
use Rattle.gv_events.specs.Events.{each, name_said}
use Rattle.gv_events.proofs.reader.declare_all.Given as goal

abbrev pub invariant-loop-name : goal.invariant-loop-name
invariant-loop-name l = each name_said (drop l.name-index l.names) l.out ≡ each name_said l.names l.fn.out
