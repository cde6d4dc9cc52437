use Rattle.gv_lower.proofs.Tables.{all_known}
use Rattle.gv_lower.proofs.known.Known.new.Goals as goal

pub returns-clause-known : goal.returns-clause-known
returns-clause-known c = all_known _ c.intern.new.self
    c.in_ok-minus.ensures.kept c.in_ok-multiply.ensures.kept c.in_ok-compare_to.ensures.kept c.in_ok-println.ensures.kept
    c.in_ok-plus.ensures.name c.in_ok-minus.ensures.name c.in_ok-multiply.ensures.name c.in_ok-compare_to.ensures.name c.in_ok-println.ensures.name
