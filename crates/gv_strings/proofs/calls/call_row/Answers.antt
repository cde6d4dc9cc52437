use Rattle.std.proofs.Common.{sym, ◌∙◌}
use Rattle.gv_strings.proofs.calls.call_row.Goals as goal

pub returns-then-lacks_one : goal.returns-then-lacks_one
returns-then-lacks_one c = rw (sym c.lacks_one.ensures ∙ c.if-lacks_one.true) (c.null_argument.ensures c.args.heap.now)
