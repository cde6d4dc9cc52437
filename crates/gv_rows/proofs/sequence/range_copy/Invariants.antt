use Rattle.std.proofs.Common.{◌≡◌, take, drop}
use Rattle.gv_rows.specs.Values.{elements_of}
use Rattle.gv_rows.proofs.sequence.range_copy.Given as goal

abbrev pub invariant-loop-steps : goal.invariant-loop-steps
invariant-loop-steps l = l.items.items ≡ take l.steps (drop l.from (elements_of l.range))
