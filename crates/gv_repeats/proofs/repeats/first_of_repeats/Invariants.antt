use Rattle.std.proofs.Common.{◌≡◌, drop}
use Rattle.gv_repeats.specs.Repeats as spec
use Rattle.gv_repeats.proofs.repeats.first_of_repeats.Given as goal

abbrev pub invariant-loop-number : goal.invariant-loop-number
invariant-loop-number l = spec.each_refused l.classes l.file l.number (drop l.number l.classes) l.first ≡ spec.repeats_refused l.classes l.file l.fn.first
