use Rattle.gv_fold_laws.proofs.Gathered.{gathers}
use Rattle.gv_fold_laws.proofs.laws.gathering.Goals as goal

pub returns : goal.returns
returns c = λ names classes closure gs. gathers names classes closure gs
