use Rattle.std.proofs.Common.{◌≡◌, length, reverse}
use Rattle.gv_accessors.specs.Accessors as spec
use Rattle.gv_accessors.proofs.script.convert.Given as goal

abbrev pub invariant-loop-script : goal.invariant-loop-script
invariant-loop-script l =
    spec.each (spec.next_converted l.known) (reverse l.left.items) (record { names = l.names; keys = l.keys; scripts = l.made.items })
    ≡ spec.converted l.known l.fn.names l.fn.scripts.items

abbrev pub decreases-loop-script : goal.decreases-loop-script
decreases-loop-script l = length l.left.items
