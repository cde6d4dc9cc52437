use Rattle.std.proofs.Common.{◌≡◌, drop}
use Rattle.gv_classes.specs.Classes.{named}
use Rattle.gv_scopes.specs.Scopes.{after_all, outside, class_fields}
use Rattle.gv_scopes.proofs.scopes.resolved_of.Given as goal

abbrev pub invariant-loop-event : goal.invariant-loop-event
invariant-loop-event l = after_all l.known l.classes (drop l.event-index l.events) l.resolver ≡ after_all l.known l.classes l.events (outside (class_fields l.classes (named l.classes l.known.script)))
