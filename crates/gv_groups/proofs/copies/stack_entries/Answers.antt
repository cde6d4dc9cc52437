use Rattle.std.proofs.Common.{arith}
use Rattle.gv_texts.proofs.Backward.{drop_before}
use Rattle.gv_groups.proofs.Steps.{stacked_more}
use Rattle.gv_groups.proofs.copies.stack_entries.Goals as goal

pub loop-at-preserved : goal.loop-at-preserved
loop-at-preserved c =
    let held = drop_before c.args.held.now c.loop-at.at (c.at.result.0.now, c.at.result.1) (omega (arith, c.loop-at-test.true)) c.at.ensures in
    (omega (arith, c.loop-at.invariant), stacked_more _ c.in_ok-key.key (c.at.result.0.now, c.at.result.1) c.loop-at.entries c.push.new.self _ c.in_ok-key.ensures c.in_ok-push.ensures.ok c.loop-at.invariant.1 held)
