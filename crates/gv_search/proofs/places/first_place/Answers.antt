use Rattle.std.proofs.Common.{sym, ◌∙◌}
use Rattle.gv_search.proofs.Found.{first_empty}
use Rattle.gv_search.proofs.places.first_place.Goals as goal

pub returns-then-is_empty : goal.returns-then-is_empty
returns-then-is_empty c = sym (first_empty c.args.text.now c.args.part.now (sym c.is_empty.ensures ∙ c.if-is_empty.true))
