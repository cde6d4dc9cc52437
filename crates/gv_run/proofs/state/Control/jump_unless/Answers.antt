use Rattle.std.proofs.lemmas.Result.{IfOk-weaker}
use Rattle.gv_run.proofs.Picks.{jumps, jumps_not}
use Rattle.gv_run.proofs.state.Control.jump_unless.Goals as goal

pub returns-then-is_true : goal.returns-then-is_true
returns-then-is_true c =
    IfOk-weaker c.go_on.result _ _ (jumps_not c.args.code.now c.args.n c.args.now c.args.self.now c.in-Some.v _ (c.in-Some.ensures) (c.if-is_true.ensures)) c.go_on.ensures

pub returns-else-is_true : goal.returns-else-is_true
returns-else-is_true c =
    IfOk-weaker c.go_on-else-is_true.result _ _ (jumps c.args.code.now c.args.n c.args.now c.args.self.now c.in-Some.v _ (c.in-Some.ensures) (c.if-is_true.ensures)) c.go_on-else-is_true.ensures
