use Rattle.gv_pieces.proofs.Forms.{script_same}
use Rattle.gv_pieces.proofs.laws.printed_as_pieces.Goals as goal

pub returns : goal.returns
returns c = λ names script. script_same names script
