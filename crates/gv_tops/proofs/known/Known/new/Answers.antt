use Rattle.gv_tops.proofs.Tables.{all_known}
use Rattle.gv_tops.proofs.known.Known.new.Goals as goal

pub returns-clause-known : goal.returns-clause-known
returns-clause-known c = (all_known _ c.args.names.now
    c.in_ok-groovy.ensures.kept c.in_ok-transform.ensures.kept c.in_ok-lang.ensures.kept
    c.in_ok-to_string.ensures.kept c.in_ok-equals_and_hash_code.ensures.kept c.in_ok-tuple_constructor.ensures.kept c.in_ok-field.ensures.kept
    c.in_ok-delegate.ensures.kept c.in_ok-singleton.ensures.kept c.in_ok-lazy.ensures.kept
    c.in_ok-get_property.ensures.kept c.in_ok-set_property.ensures.kept
    c.in_ok-groovy.ensures.name c.in_ok-transform.ensures.name c.in_ok-lang.ensures.name
    c.in_ok-to_string.ensures.name c.in_ok-equals_and_hash_code.ensures.name c.in_ok-tuple_constructor.ensures.name c.in_ok-field.ensures.name
    c.in_ok-delegate.ensures.name c.in_ok-singleton.ensures.name c.in_ok-lazy.ensures.name
    c.in_ok-get_property.ensures.name c.in_ok-set_property.ensures.name).1

pub returns-clause-names : goal.returns-clause-names
returns-clause-names c = (all_known _ c.args.names.now
    c.in_ok-groovy.ensures.kept c.in_ok-transform.ensures.kept c.in_ok-lang.ensures.kept
    c.in_ok-to_string.ensures.kept c.in_ok-equals_and_hash_code.ensures.kept c.in_ok-tuple_constructor.ensures.kept c.in_ok-field.ensures.kept
    c.in_ok-delegate.ensures.kept c.in_ok-singleton.ensures.kept c.in_ok-lazy.ensures.kept
    c.in_ok-get_property.ensures.kept c.in_ok-set_property.ensures.kept
    c.in_ok-groovy.ensures.name c.in_ok-transform.ensures.name c.in_ok-lang.ensures.name
    c.in_ok-to_string.ensures.name c.in_ok-equals_and_hash_code.ensures.name c.in_ok-tuple_constructor.ensures.name c.in_ok-field.ensures.name
    c.in_ok-delegate.ensures.name c.in_ok-singleton.ensures.name c.in_ok-lazy.ensures.name
    c.in_ok-get_property.ensures.name c.in_ok-set_property.ensures.name).0
