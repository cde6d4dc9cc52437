use Rattle.gv_calls.proofs.methods.operate.Goals as goal

pub returns-in-ByZero : goal.returns-in-ByZero
returns-in-ByZero c = rw (← c.in-ByZero.ensures) c.raise.ensures
