use Rattle.std.proofs.Common.{◌∙◌}
use Rattle.std.specs.List.{each_same}
use Rattle.gv_base.proofs.Tables.{map-clones}
use Rattle.gv_base.proofs.names.Names.copy.Goals as goal

pub returns : goal.returns
returns c = map-clones _ _ c.in_ok-texts.ensures.cases ∙ c.self.view_is

pub invariant_of-result : goal.invariant_of-result
invariant_of-result c = rw (map-clones _ _ c.in_ok-texts.ensures.cases) (each_same _ _ c.in_ok-accessors.ensures.cases.0 ∙ c.self.invariant)
