use Rattle.gv_distinct.proofs.Told.{minus_filters, unique_keeps_first}
use Rattle.gv_distinct.proofs.law.laws.Goals as goal

pub returns-clause-minus : goal.returns-clause-minus
returns-clause-minus c = λ names classes heap known same id removed. minus_filters names classes heap known same id removed

pub returns-clause-unique : goal.returns-clause-unique
returns-clause-unique c = λ names classes heap known same id. unique_keeps_first names classes heap known same id
