use Rattle.gv_written.proofs.Bodies.{right}
use Rattle.gv_written.proofs.laws.written_is_right.Goals as goal

pub returns : goal.returns
returns c = right
