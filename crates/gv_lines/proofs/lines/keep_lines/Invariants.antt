use Rattle.std.proofs.Common.{◌≡◌, ◌++◌, drop}
use Rattle.gv_lines.specs.Lines.{kept, kept_from}
use Rattle.gv_lines.specs.Steps.{line_of}
use Rattle.gv_lines.proofs.lines.keep_lines.Given as goal

abbrev pub invariant-loop-token : goal.invariant-loop-token
invariant-loop-token l = l.kept.items ++ kept_from (line_of l.lines) (drop l.token-index l.tokens) ≡ kept l.tokens
