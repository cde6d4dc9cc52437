use Rattle.std.proofs.Common.{◌≡◌, drop}
use Rattle.gv_types.specs.Types.{events_refused}
use Rattle.gv_types.proofs.types.events_refused.Given as goal

abbrev pub invariant-loop-event : goal.invariant-loop-event
invariant-loop-event l = events_refused l.classes (drop l.event-index l.events) l.so_far ≡ events_refused l.classes l.events l.fn.first
