use Rattle.std.proofs.Common.{length, map, string_bytes, subst}
use Rattle.gv_rows.specs.Reply.{Did, new_list}
use Rattle.gv_strings.specs.Lists.{numbered}
use Rattle.gv_strings.proofs.Made.{did_list}
use Rattle.gv_strings.proofs.lists.make_list.Goals as goal

pub returns-in-Ok : goal.returns-in-Ok
returns-in-Ok c =
    let heap = c.args.heap.now in
    did_list heap (map string_bytes c.args.texts.now) c.new_list.result c.new_list.new.heap c.requires
    (subst (λ h. Did h (new_list h (numbered (length heap.objects) (map string_bytes c.args.texts.now))) c.new_list.result c.new_list.new.heap) c.in-Ok.ensures.heap
    (subst (λ strings. Did c.make_texts.new.heap (new_list c.make_texts.new.heap strings) c.new_list.result c.new_list.new.heap) c.in-Ok.ensures.strings c.new_list.ensures))
