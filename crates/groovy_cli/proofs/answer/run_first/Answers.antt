use Rattle.std.proofs.Common.{◌≡◌, subst}
use Rattle.std.specs.Result.{IfOk}
use Rattle.gv_meaning.specs.Meaning.{meaning}
use Rattle.gv_simulate.specs.Report.{report_of}
use Rattle.groovy_cli.specs.Program.{first_world}
use Rattle.groovy_cli.proofs.Saying.{world_is}
use Rattle.groovy_cli.proofs.answer.run_first.Goals as goal

pub returns : goal.returns
returns c =
    let e = world_is c.args.names.now c.new.new.names c.in_ok-classes.classes c.args.texts.now.keys c.args.limits c.in_ok-world.world (c.in_ok-classes.ensures.names) (c.in_ok-classes.ensures.classes) (rw (c.as_slice.ensures.keys) at c.in_ok-world.ensures) in
    subst (λ unit. IfOk c.run_unit.result (λ report. report ≡ report_of (meaning unit (first_world c.args.names.now c.args.texts.now.keys c.args.limits)))) (c.as_slice-2.ensures)
    (subst (λ w. IfOk c.run_unit.result (λ report. report ≡ report_of (meaning c.as_slice-2.result.now w))) e c.run_unit.ensures)
