use Rattle.std.proofs.Common.{[], ◌≡◌, ap, sym, ◌∙◌, arith}
use Rattle.gv_maps.specs.Joining.{joined_heap}
use Rattle.gv_maps.proofs.Joined.{put_fits, put_next, joined_none, none_left}
use Rattle.gv_maps.proofs.joining.put_items.Goals as goal

pub put_item-requires-clause-fits : goal.put_item-requires-clause-fits
put_item-requires-clause-fits c = put_fits c.loop-item.heap c.args.id c.in-Some.item _ _ c.loop-item.invariant.fits c.in-Some.ensures.steps.0

pub loop-item-preserved : goal.loop-item-preserved
loop-item-preserved c =
    let next = put_next c.loop-item.heap c.put_item.new.heap c.args.id c.in-Some.item _ _ c.loop-item.invariant.kind c.loop-item.invariant.fits c.in-Some.ensures.steps.0 c.in_ok-put_item.ensures in
    record { kind = next.0; fits = next.1; left = next.2 ∙ c.loop-item.invariant.left }

pub returns : goal.returns
returns c =
    let none : c.loop-item.item-iterator.rest.items ≡ [] = none_left _ (omega (arith, c.in-None.ensures.steps.0)) in
    sym (joined_none c.loop-item.heap c.args.id c.loop-item.invariant.kind) ∙ ap (joined_heap c.loop-item.heap c.args.id) (sym none) ∙ c.loop-item.invariant.left
