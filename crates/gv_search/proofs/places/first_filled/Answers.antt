use Rattle.std.proofs.Common.{sym, ◌∙◌, ap, Some}
use Rattle.gv_search.proofs.Found.{first_found, first_none}
use Rattle.gv_search.proofs.places.first_filled.Goals as goal

pub returns-in-Some : goal.returns-in-Some
returns-in-Some c =
    let cut = rw (c.in-Some.is, c.new.ensures, c.as_bytes.ensures.value) at c.cut_first-2.ensures in
    ap Some c.size.ensures ∙ sym (first_found c.args.text.now c.args.part.now c.utf8.part c.requires c.in-Some.before.now c.in-Some.field-0-1.now cut)

pub returns : goal.returns
returns c =
    let none = rw (c.in-None.is, c.new.ensures, c.as_bytes.ensures.value) at c.cut_first-2.ensures in
    sym (first_none c.args.text.now c.args.part.now c.utf8.part c.requires none)
