use Rattle.gv_gathered.proofs.Put.{left_unknown, left_next, left_none}
use Rattle.gv_gathered.proofs.gathered.put_all.Goals as goal

pub put_new-requires-clause-unknown : goal.put_new-requires-clause-unknown
put_new-requires-clause-unknown c = left_unknown c.loop-entry.heap c.args.map c.in-Some.entry _ _ _ c.loop-entry.invariant c.in-Some.ensures.steps

pub loop-entry-preserved : goal.loop-entry-preserved
loop-entry-preserved c = left_next c.loop-entry.heap c.put_new.new.heap c.args.map c.in-Some.entry _ _ _ c.loop-entry.invariant c.in-Some.ensures.steps c.in_ok-put_new.ensures

pub returns : goal.returns
returns c = left_none c.loop-entry.heap c.args.map _ _ c.loop-entry.invariant c.in-None.ensures.steps.0
