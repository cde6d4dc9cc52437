use Rattle.std.proofs.Common.{◌≡◌, ◌∷◌, []}
use Rattle.gv_phases.specs.Phases.{IsConverted}
use Rattle.groovy_cli.proofs.Saying.{judged_by, refused_by}
use Rattle.groovy_cli.proofs.answer.canonical.Goals as goal

pub returns-in-Err : goal.returns-in-Err
returns-in-Err c =
    let converted = rw (c.new.ensures.names, c.new.ensures.scripts, c.in_ok-scripts.ensures) at c.in_ok-converted.ensures in
    refused_by c.args.names c.args.tree c.in_ok-converted.converted converted c.in-Err.error c.in-Err.ensures

pub returns-in-Ok : goal.returns-in-Ok
returns-in-Ok c =
    let converted = rw (c.new.ensures.names, c.new.ensures.scripts, c.in_ok-scripts.ensures) at c.in_ok-converted.ensures in
    judged_by c.args.names c.args.tree c.in_ok-converted.converted converted c.in-Ok.analysed c.advance-in-Ok.result c.in-Ok.ensures c.advance-in-Ok.ensures
