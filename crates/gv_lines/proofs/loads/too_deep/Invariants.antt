use Rattle.std.proofs.Common.{◌≡◌, drop}
use Rattle.gv_lines.specs.Loads.{too_deep, too_deep_from}
use Rattle.gv_lines.specs.Steps.{levels_of, IsSummed}
use Rattle.gv_lines.proofs.loads.too_deep.Given as goal

abbrev pub invariant-loop-token : goal.invariant-loop-token
invariant-loop-token l = record {
  left : too_deep_from (levels_of l.loads) (drop l.token-index l.tokens) ≡ too_deep l.tokens;
  summed : IsSummed l.loads;
}
