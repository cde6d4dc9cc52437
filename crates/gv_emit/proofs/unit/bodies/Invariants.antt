use Rattle.std.proofs.Common.{◌≡◌, map, take}
use Rattle.gv_written.specs.Written.{body_of}
use Rattle.gv_emit.proofs.unit.bodies.Given as goal

abbrev pub invariant-loop-source : goal.invariant-loop-source
invariant-loop-source l = l.out.bodies ≡ map body_of (take l.source-index l.unit)
