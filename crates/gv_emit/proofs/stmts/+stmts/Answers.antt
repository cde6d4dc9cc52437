use Rattle.std.proofs.Common.{◌∙◌, ap, ◌+◌}
use Rattle.gv_emit.proofs.Forms.{block_more, block_none, of_if, of_while}
use Rattle.gv_emit.proofs.stmts.+stmts.Goals as goal

pub piece_of-returns-in_ok-second-in-If : goal.piece_of-returns-in_ok-second-in-If
piece_of-returns-in_ok-second-in-If t c = rw (of_if _ _ _ _ _ _ _ _ _ _ _ c.in-If.is c.get.ensures c.get-in-If.ensures c.in_ok-test-in-If.ensures c.in_ok-first-in-If.ensures c.in_ok-second-in-If.ensures) c.choose.ensures

pub piece_of-returns-in_ok-body-in-While : goal.piece_of-returns-in_ok-body-in-While
piece_of-returns-in_ok-body-in-While t c = rw (of_while _ _ _ _ _ _ _ _ c.in-While.is c.get-in-While.ensures c.in_ok-test-in-While.ensures c.in_ok-body-in-While.ensures) c.repeat.ensures

pub piece_of_all-loop-stmt-init : goal.piece_of_all-loop-stmt-init
piece_of_all-loop-stmt-init t c = block_none c.args.height c.args.below.now c.args.all.now _ _ c.new.ensures.items c.bare-piece.ensures

pub piece_of_all-loop-stmt-preserved : goal.piece_of_all-loop-stmt-preserved
piece_of_all-loop-stmt-preserved t c = block_more _ _ _ _ _ _ _ _ _ _ _ c.loop-stmt-test.true c.loop-stmt.invariant c.stmt-item.is c.in_ok-more.ensures c.in_ok-piece.ensures (c.in_ok-scope.ensures ∙ ap (λ n. c.loop-stmt.scope + n) c.declares.ensures)
