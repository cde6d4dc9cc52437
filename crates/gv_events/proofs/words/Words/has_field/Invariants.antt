use Rattle.std.proofs.Common.{◌≡◌, drop}
use Rattle.gv_events.specs.Events as spec
use Rattle.gv_events.proofs.words.Words.has_field.Given as goal

abbrev pub invariant-loop-annotation : goal.invariant-loop-annotation
invariant-loop-annotation l = spec.has_field l.self (drop l.annotation-index l.annotations) ≡ spec.has_field l.self l.annotations
