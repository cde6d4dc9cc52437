use Rattle.gv_grammar.proofs.LongerOperators as longer
use Rattle.gv_exprs.proofs.ResultsOperators.{other_next}
use Rattle.gv_exprs.proofs.reader.Exprs.cond_tail.Goals as goal

pub returns : goal.returns
returns g c = longer.cond_tail_ends c.args.self.now.all (λ us q. other_next (c.if-sees.ensures) q) (λ us q. other_next (c.if-sees-2.ensures) q)
