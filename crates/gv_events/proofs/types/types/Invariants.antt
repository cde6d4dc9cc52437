use Rattle.std.proofs.Common.{◌≡◌, drop}
use Rattle.gv_events.specs.Events.{each, type_said}
use Rattle.gv_events.proofs.types.types.Given as goal

abbrev pub invariant-loop-class : goal.invariant-loop-class
invariant-loop-class l = each type_said (drop l.class-index l.classes) l.out ≡ each type_said l.classes l.fn.out
