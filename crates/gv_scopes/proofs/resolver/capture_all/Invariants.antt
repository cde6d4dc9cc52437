use Rattle.std.proofs.Common.{◌≡◌, drop}
use Rattle.gv_scopes.specs.Scopes.{captured_by}
use Rattle.gv_scopes.proofs.resolver.capture_all.Given as goal

abbrev pub invariant-loop-frame : goal.invariant-loop-frame
invariant-loop-frame l = captured_by l.variable l.declaring (drop l.frame-index l.frames) (l.bodies.items) ≡ captured_by l.variable l.declaring l.frames (l.fn.bodies.items)
