use Rattle.gv_lists.proofs.calls.call_unless_null.Goals as goal

pub returns-then-is_null : goal.returns-then-is_null
returns-then-is_null c = rw c.if-is_null.true (c.null_argument.ensures c.args.heap.now)
