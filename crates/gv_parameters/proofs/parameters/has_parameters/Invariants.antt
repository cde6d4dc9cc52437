use Rattle.std.proofs.Common.{◌≡◌}
use Rattle.gv_parameters.specs.Parameters.{has_parameters, has_within}
use Rattle.gv_parameters.proofs.parameters.has_parameters.Given as goal

abbrev pub invariant-loop-levels : goal.invariant-loop-levels
invariant-loop-levels l = has_within l.heap l.levels l.closure l.wanted ≡ has_parameters l.heap l.fn.closure l.fn.wanted

abbrev pub decreases-loop-levels : goal.decreases-loop-levels
decreases-loop-levels l = l.levels
