use Rattle.std.proofs.Common.{sym, ◌∙◌, ap, arith, ◌+◌}
use Rattle.gv_search.proofs.Bytes.{length-chars-le}
use Rattle.gv_search.proofs.Found.{count_empty}
use Rattle.gv_search.proofs.places.count_places.Goals as goal

pub overflow_add-result : goal.overflow_add-result
overflow_add-result c =
    let sizes = c.well_formed in
    omega (arith, length-chars-le c.args.text.now c.utf8.text)

pub returns-then-is_empty : goal.returns-then-is_empty
returns-then-is_empty c = ap (λ n. n + 1) c.size.ensures ∙ sym (count_empty c.args.text.now c.args.part.now (sym c.is_empty.ensures ∙ c.if-is_empty.true))
