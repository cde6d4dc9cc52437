use Rattle.std.proofs.Common.{◌≡◌, length, reverse}
use Rattle.gv_accessors.specs.Accessors as spec
use Rattle.gv_accessors.proofs.script.convert_tops.Given as goal

abbrev pub invariant-loop-top : goal.invariant-loop-top
invariant-loop-top l = spec.each (spec.top_converted l.known) (reverse l.left) (l.names, l.made) ≡ spec.tops_converted l.known l.fn.tops l.fn.names

abbrev pub decreases-loop-top : goal.decreases-loop-top
decreases-loop-top l = length l.left
