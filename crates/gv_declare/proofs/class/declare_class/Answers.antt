use Rattle.gv_declare.proofs.Rests.{class_typed}
use Rattle.gv_declare.proofs.class.declare_class.Goals as goal

pub returns-clause-rests : goal.returns-clause-rests
returns-clause-rests c = class_typed c.args.known.now c.as_slice.result.now c.new-members.ensures c.in_ok-class_members.ensures
