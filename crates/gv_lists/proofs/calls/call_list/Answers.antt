use Rattle.std.proofs.Common.{subst, sym}
use Rattle.gv_rows.specs.Reply.{Did}
use Rattle.gv_rows.specs.Takes.{row_at}
use Rattle.gv_lists.specs.Rows.{list_reply, object_of}
use Rattle.gv_lists.proofs.calls.call_list.Goals as goal

pub returns : goal.returns
returns c =
    let heap = c.args.heap.now in
    subst (λ receiver. Did heap (list_reply heap (row_at c.args.native) (object_of receiver) c.args.args.now) c.call_row.result c.call_row.new.heap) (sym c.in-Obj.is)
    (subst (λ row. Did heap (list_reply heap row c.in-Obj.list c.args.args.now) c.call_row.result c.call_row.new.heap) c.row_at-row.ensures c.call_row.ensures)
