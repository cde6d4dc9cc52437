use Rattle.gv_lower.proofs.Levels.{number_below}
use Rattle.gv_lower.proofs.lowering.Lowering.+numbers.Goals as goal

pub number-returns : goal.number-returns
number-returns t c = rw (number_below c.args.self.now.known c.args.levels c.args.vars.now c.args.expr.now c.if-levels-eq0.false) c.number_in.ensures
