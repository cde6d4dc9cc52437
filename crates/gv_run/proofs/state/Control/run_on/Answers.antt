use Rattle.gv_run.proofs.Left.{turn_left, turn_ends, turn_same, turn_over}
use Rattle.gv_run.proofs.state.Control.run_on.Goals as goal

pub run-smaller : goal.run-smaller
run-smaller g c =
    turn_left c.args.code.now g.limit c.run.mode c.in_ok-mode-in-At.mode c.in-At.now c.run.self c.step.new.self c.in-At.is (c.in_ok-mode-in-At.ensures) c.run.invariant.ends

pub run-preserved : goal.run-preserved
run-preserved g c = record {
  ends = turn_ends c.args.code.now g.limit c.run.mode c.in_ok-mode-in-At.mode c.in-At.now c.run.self c.step.new.self c.in-At.is (c.in_ok-mode-in-At.ensures) c.run.invariant.ends;
  same = turn_same c.args.code.now g.limit c.run.mode c.in_ok-mode-in-At.mode c.in-At.now c.run.self c.step.new.self c.in-At.is (c.in_ok-mode-in-At.ensures) c.run.invariant.ends _ c.run.invariant.same;
}

pub returns-in-Over : goal.returns-in-Over
returns-in-Over g c = turn_over c.args.code.now g.limit c.run.mode c.in-Over.told c.run.self _ c.in-Over.is c.run.invariant.same
