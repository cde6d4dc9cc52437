use Rattle.gv_gathered.proofs.Lists.{left_next, left_none, finish}
use Rattle.gv_gathered.proofs.groups.make_paid.Goals as goal

pub loop-group-preserved : goal.loop-group-preserved
loop-group-preserved c = left_next c.loop-group.heap c.make_group.new.heap c.loop-group.entries c.make_group.new.entries c.in-Some.group _ _ _ _ c.loop-group.invariant c.in-Some.ensures.steps c.in_ok-make_group.ensures.0 c.in_ok-make_group.ensures.1

pub returns : goal.returns
returns c =
    let last = left_none c.loop-group.heap c.loop-group.entries _ _ _ c.loop-group.invariant c.in-None.ensures.steps.0 in
    finish c.args.heap.now c.loop-group.heap c.make.new.heap c.loop-group.entries c.args.groups.entries c.make.result c.requires last c.make.ensures
