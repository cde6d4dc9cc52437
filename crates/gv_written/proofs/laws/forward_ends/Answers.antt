use Rattle.gv_written.proofs.Done.{ends}
use Rattle.gv_written.proofs.laws.forward_ends.Goals as goal

pub returns : goal.returns
returns c = ends
