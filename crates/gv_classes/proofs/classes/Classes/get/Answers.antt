use Rattle.gv_classes.proofs.Known.{rests-at}
use Rattle.gv_classes.proofs.classes.Classes.get.Goals as goal

pub returns-clause-rests : goal.returns-clause-rests
returns-clause-rests c = rests-at c.self.inside.table c.args.class c.get.result.now c.self.invariant.rests c.get.ensures
