use Rattle.std.proofs.Common.{◌≡◌, drop}
use Rattle.gv_tops.specs.Tops.{each, top_refused}
use Rattle.gv_tops.proofs.tops.each_top_refused.Given as goal

abbrev pub invariant-loop-top : goal.invariant-loop-top
invariant-loop-top l = each (top_refused l.known l.imported) (drop l.top-index l.tops) l.so_far ≡ each (top_refused l.known l.imported) l.tops l.fn.first
