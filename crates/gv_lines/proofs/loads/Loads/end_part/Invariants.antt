use Rattle.std.proofs.Common.{◌≡◌, length}
use Rattle.gv_lines.specs.Loads.{part_ended}
use Rattle.gv_lines.specs.Steps.{levels_of, IsSummed}
use Rattle.gv_lines.proofs.loads.Loads.end_part.Given as goal

abbrev pub invariant-levels : goal.invariant-levels
invariant-levels l = record {
  ended : part_ended (levels_of l.self) ≡ part_ended (levels_of l.initial.self);
  summed : IsSummed l.self;
}

abbrev pub decreases-levels : goal.decreases-levels
decreases-levels l = length l.self.around.items
