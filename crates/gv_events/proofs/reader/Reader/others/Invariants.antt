use Rattle.std.proofs.Common.{◌≡◌, drop}
use Rattle.gv_events.specs.Events as spec
use Rattle.gv_events.proofs.reader.Reader.others.Given as goal

abbrev pub invariant-loop-top : goal.invariant-loop-top
invariant-loop-top l = spec.each (spec.other_said l.self.it (spec.expr_said l.self.it l.levels) (spec.stmt_said l.self.it l.levels) l.words) (drop l.top-index l.tops) l.out ≡ spec.each (spec.other_said l.self.it (spec.expr_said l.self.it l.levels) (spec.stmt_said l.self.it l.levels) l.words) l.tops l.fn.out
