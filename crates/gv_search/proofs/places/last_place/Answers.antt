use Rattle.std.proofs.Common.{sym, ◌∙◌, ap, Some}
use Rattle.gv_search.proofs.Found.{last_empty}
use Rattle.gv_search.proofs.places.last_place.Goals as goal

pub returns-then-is_empty : goal.returns-then-is_empty
returns-then-is_empty c = ap Some c.size.ensures ∙ sym (last_empty c.args.text.now c.args.part.now (sym c.is_empty.ensures ∙ c.if-is_empty.true))
