use Rattle.std.proofs.Common.{subst, sym}
use Rattle.gv_rows.specs.Reply.{Did}
use Rattle.gv_rows.specs.Takes.{row_at}
use Rattle.gv_strings.specs.Rows.{string_reply, object_of}
use Rattle.gv_strings.proofs.calls.call_string.Goals as goal

pub returns : goal.returns
returns c =
    let heap = c.args.heap.now in
    subst (λ receiver. Did heap (string_reply heap (row_at c.args.native) (object_of receiver) c.args.args.now) c.call_row.result c.call_row.new.heap) (sym c.in-Obj.is)
    (subst (λ row. Did heap (string_reply heap row c.in-Obj.string c.args.args.now) c.call_row.result c.call_row.new.heap) c.row_at-row.ensures c.call_row.ensures)
