use Rattle.gv_classes.proofs.Exceptions.{exception_named}
use Rattle.gv_classes.proofs.ids.exception_class.Goals as goal

pub returns-clause-name : goal.returns-clause-name
returns-clause-name c = rw c.place_of.ensures (exception_named c.args.kind)
