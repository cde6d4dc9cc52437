use Rattle.gv_declare.proofs.Tables.{all_known}
use Rattle.gv_declare.proofs.known.Known.new.Goals as goal

pub returns-clause-known : goal.returns-clause-known
returns-clause-known c = (all_known _ c.args.names.now
    c.in_ok-object.ensures.kept c.in_ok-integer.ensures.kept c.in_ok-long.ensures.kept
    c.in_ok-boolean.ensures.kept c.in_ok-script.ensures.kept c.in_ok-interceptable.ensures.kept
    c.in_ok-object.ensures.name c.in_ok-integer.ensures.name c.in_ok-long.ensures.name
    c.in_ok-boolean.ensures.name c.in_ok-script.ensures.name c.in_ok-interceptable.ensures.name).1

pub returns-clause-names : goal.returns-clause-names
returns-clause-names c = (all_known _ c.args.names.now
    c.in_ok-object.ensures.kept c.in_ok-integer.ensures.kept c.in_ok-long.ensures.kept
    c.in_ok-boolean.ensures.kept c.in_ok-script.ensures.kept c.in_ok-interceptable.ensures.kept
    c.in_ok-object.ensures.name c.in_ok-integer.ensures.name c.in_ok-long.ensures.name
    c.in_ok-boolean.ensures.name c.in_ok-script.ensures.name c.in_ok-interceptable.ensures.name).0
