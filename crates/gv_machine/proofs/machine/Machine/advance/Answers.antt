use Rattle.std.proofs.Common.{rules}
use Rattle.gv_calls.specs.Told.{answer_of}
use Rattle.gv_machine.proofs.machine.Machine.advance.Goals as goal

pub returns-clause-ok : goal.returns-clause-ok
returns-clause-ok c = (answer_of c.in_ok-told.told c.in_ok-told.world, search rules, search rules, search rules)
