use Rattle.std.proofs.Common.{◌+◌, arith}
use Rattle.gv_gathered.proofs.Prices.{price_next}
use Rattle.gv_gathered.proofs.price.price_of.Goals as goal

pub loop-place-preserved : goal.loop-place-preserved
loop-place-preserved c =
    let left = price_next c.args.groups.now.entries c.loop-place.place c.index.result.now c.index.ensures in
    let counted = c.loop-place.invariant in
    let all = counted.2 in
    let size = c.len.ensures in
    (counted.0 + (2 + c.len.result), c.with_group-price.ensures counted.0 counted.1, omega arith)
