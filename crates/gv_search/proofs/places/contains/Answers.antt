use Rattle.std.proofs.Common.{sym, ◌∙◌}
use Rattle.gv_search.proofs.Found.{contains_empty}
use Rattle.gv_search.proofs.places.contains.Goals as goal

pub returns-then-is_empty : goal.returns-then-is_empty
returns-then-is_empty c = c.if-is_empty.true ∙ sym (contains_empty c.args.text.now c.args.part.now (sym c.is_empty.ensures ∙ c.if-is_empty.true))
