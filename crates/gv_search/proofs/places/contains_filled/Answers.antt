use Rattle.std.proofs.Common.{◌∙◌}
use Rattle.gv_search.proofs.Found.{contains_found}
use Rattle.gv_search.proofs.places.contains_filled.Goals as goal

pub returns : goal.returns
returns c =
    let found = rw (c.new.ensures, c.as_bytes.ensures.value) at c.cut_first-2.ensures in
    c.is_some.ensures ∙ contains_found c.args.text.now c.args.part.now c.utf8.part c.requires c.cut_first-2.result (λ x. x.0.now) (λ x. x.1.now) found
