use Rattle.std.proofs.Common.{◌≡◌, drop}
use Rattle.gv_types.specs.Types.{heads_refused}
use Rattle.gv_types.proofs.heads.heads_refused.Given as goal

abbrev pub invariant-loop-top : goal.invariant-loop-top
invariant-loop-top l = heads_refused l.classes l.interceptable (drop l.top-index l.tops) l.so_far ≡ heads_refused l.classes l.interceptable l.tops l.fn.first
