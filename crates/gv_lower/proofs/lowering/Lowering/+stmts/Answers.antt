use Rattle.gv_lower.proofs.Levels.{made_below}
use Rattle.gv_lower.proofs.lowering.Lowering.+stmts.Goals as goal

pub stmt-returns : goal.stmt-returns
stmt-returns t c =
    let self = c.args.self.now in
    rw (made_below self.known self.levels c.args.levels c.args.in_loop c.args.vars.now c.args.stmt.now c.if-levels-eq0.false) c.stmt_in.ensures
