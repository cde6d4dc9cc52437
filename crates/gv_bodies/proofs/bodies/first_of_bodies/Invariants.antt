use Rattle.std.proofs.Common.{◌≡◌, drop}
use Rattle.gv_bodies.specs.Bodies.{after_all, outside}
use Rattle.gv_bodies.proofs.bodies.first_of_bodies.Given as goal

abbrev pub invariant-loop-event : goal.invariant-loop-event
invariant-loop-event l = after_all (drop l.event-index l.events) l.watch ≡ after_all l.events (outside l.fn.first)
