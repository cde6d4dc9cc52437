use Rattle.gv_search.proofs.Bytes.{IsCharBoundary-at_part, last_cut, no_cut}
use Rattle.gv_search.proofs.cut.cut_last.Goals as goal

pub split_at-requires : goal.split_at-requires
split_at-requires c =
    let found = rw (c.in-Some.is, c.as_bytes.ensures.value) at c.rfind.ensures in
    IsCharBoundary-at_part c.args.text.now c.args.part.now c.utf8.text c.requires.utf8 c.requires.filled c.in-Some.at found.1

pub returns-in-Some : goal.returns-in-Some
returns-in-Some c =
    let found = rw (c.in-Some.is, c.as_bytes.ensures.value) at c.rfind.ensures in
    rw (c.split_at.ensures.front, c.split_at.ensures.back)
    (last_cut c.args.text.now c.args.part.now c.utf8.text c.requires.utf8 c.requires.filled c.in-Some.at found.0.after found.1)

pub returns-in-None : goal.returns-in-None
returns-in-None c =
    let none = rw (c.in-None.is, c.as_bytes.ensures.value) at c.rfind.ensures in
    no_cut c.args.text.now c.args.part.now c.utf8.text c.requires.utf8 c.requires.filled none
