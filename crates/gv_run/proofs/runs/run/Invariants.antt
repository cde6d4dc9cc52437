use Rattle.gv_run.proofs.Limit.{limit}
use Rattle.gv_run.proofs.runs.run.Given as goal

abbrev pub ghost-run_on : goal.ghost-run_on
ghost-run_on a = limit a.code.now a.self.now.world
