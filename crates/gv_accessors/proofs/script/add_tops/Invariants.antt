use Rattle.std.proofs.Common.{◌≡◌, drop}
use Rattle.gv_accessors.specs.Accessors as spec
use Rattle.gv_accessors.proofs.script.add_tops.Given as goal

abbrev pub invariant-loop-top : goal.invariant-loop-top
invariant-loop-top l =
    spec.each (spec.top_added l.known) (drop l.top-index l.tops) (l.names, l.adding)
    ≡ spec.each (spec.top_added l.known) l.tops (l.fn.names, l.fn.adding)
