use Rattle.gv_rows.specs.Values.{sequence_at}
use Rattle.gv_joins.proofs.Unasked.{texts_said}
use Rattle.gv_joins.proofs.laws.joining.Goals as goal

pub returns : goal.returns
returns c = λ names classes heap id separator ts said. texts_said names classes heap separator (sequence_at heap id) ts said
