use Rattle.std.proofs.Common.{rules}
use Rattle.std.proofs.lemmas.Fn.{always_returns_same}
use Rattle.gv_ranks.specs.Sorted.{is_before}
use Rattle.gv_ranks.proofs.Stable.{sorted-from_sort}
use Rattle.gv_ranks.proofs.Total.{is_before-order}
use Rattle.gv_ranks.proofs.ranking.put_in_order.Goals as goal

pub returns : goal.returns
returns c =
    let by = always_returns_same _ _ _ (λ a r f k. search rules) in
    sorted-from_sort is_before is_before-order _ _ (c.in_ok-sort_by.ensures.sorted is_before is_before-order by) (c.in_ok-sort_by.ensures.stable is_before is_before-order by)
