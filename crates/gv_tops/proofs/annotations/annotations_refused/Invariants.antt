use Rattle.std.proofs.Common.{◌≡◌, drop}
use Rattle.gv_tops.specs.Tops.{annotations_refused}
use Rattle.gv_tops.proofs.annotations.annotations_refused.Given as goal

abbrev pub invariant-loop-annotation : goal.invariant-loop-annotation
invariant-loop-annotation l = annotations_refused l.known l.imported l.target (drop l.annotation-index l.annotations) l.so_far ≡ annotations_refused l.known l.imported l.target l.annotations l.fn.first
