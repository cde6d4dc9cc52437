use Rattle.gv_lines.proofs.Kept.{again}
use Rattle.gv_lines.proofs.laws.kept_again.Goals as goal

pub returns : goal.returns
returns c = again
