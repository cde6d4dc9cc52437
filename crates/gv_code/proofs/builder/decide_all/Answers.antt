use Rattle.gv_code.specs.Pieces.{ways_of}
use Rattle.gv_code.proofs.Decided.{decided_more}
use Rattle.gv_code.proofs.builder.decide_all.Goals as goal

pub loop-item-preserved : goal.loop-item-preserved
loop-item-preserved c = decided_more (ways_of c.args.ways) _ _ _ _ _ _ _ _ c.in-Some.ensures.steps.0 c.loop-item.invariant.0 c.loop-item.invariant.1 c.decide.ensures c.in_ok-push.ensures.items
