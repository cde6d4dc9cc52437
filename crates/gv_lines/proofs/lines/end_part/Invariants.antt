use Rattle.std.proofs.Common.{◌≡◌, length, reverse}
use Rattle.gv_lines.specs.Lines.{behind_part}
use Rattle.gv_lines.proofs.lines.end_part.Given as goal

abbrev pub invariant-levels : goal.invariant-levels
invariant-levels l = behind_part (reverse l.levels.items) ≡ behind_part (reverse l.initial.levels.items)

abbrev pub decreases-levels : goal.decreases-levels
decreases-levels l = length l.levels.items
