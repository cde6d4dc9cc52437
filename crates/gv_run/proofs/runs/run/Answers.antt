use Rattle.gv_run.proofs.Limit.{ends_in}
use Rattle.gv_run.proofs.runs.run.Goals as goal

pub run_on-requires : goal.run_on-requires
run_on-requires c = rw (c.new.ensures, c.in_ok-slots.ensures, c.new-2.ensures, c.from-depth.ensures) (ends_in c.args.code.now c.requires c.args.world)
