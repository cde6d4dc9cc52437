use Rattle.gv_fold_laws.proofs.Judged.{judges, stops}
use Rattle.gv_fold_laws.proofs.laws.judging.Goals as goal

pub returns-clause-all : goal.returns-clause-all
returns-clause-all c = λ names classes closure gs told. judges names classes closure gs told

pub returns-clause-stops : goal.returns-clause-stops
returns-clause-stops c = λ names classes closure gs last behind told last_told. stops names classes closure gs last behind told last_told
