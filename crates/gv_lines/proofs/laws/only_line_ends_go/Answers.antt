use Rattle.gv_lines.proofs.Kept.{thinned}
use Rattle.gv_lines.proofs.laws.only_line_ends_go.Goals as goal

pub returns : goal.returns
returns c = thinned
