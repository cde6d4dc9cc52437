use Rattle.std.proofs.Common.{sym, ◌∙◌, ap, Some}
use Rattle.gv_search.proofs.Found.{last_found, last_none}
use Rattle.gv_search.proofs.places.last_filled.Goals as goal

pub returns-in-Some : goal.returns-in-Some
returns-in-Some c =
    let cut = rw (c.in-Some.is, c.new.ensures, c.as_bytes.ensures.value) at c.cut_last-2.ensures in
    ap Some c.size.ensures ∙ sym (last_found c.args.text.now c.args.part.now c.utf8.part c.requires c.in-Some.before.now c.in-Some.field-0-1.now cut)

pub returns : goal.returns
returns c =
    let none = rw (c.in-None.is, c.new.ensures, c.as_bytes.ensures.value) at c.cut_last-2.ensures in
    sym (last_none c.args.text.now c.args.part.now c.utf8.part c.requires none)
