use Rattle.std.proofs.Common.{[]}
use Rattle.gv_rows.specs.Values.{sequence_at}
use Rattle.gv_joins.proofs.Unasked.{values_taken}
use Rattle.gv_joins.proofs.laws.flattening.Goals as goal

pub returns : goal.returns
returns c = λ heap id none. values_taken heap (sequence_at heap id) [] 0 none
