use Rattle.std.proofs.Common.{get_or, slice_set, ap, ◌∙◌, arith}
use Rattle.gv_base.specs.declared.value.Value.TheVariants.{Null}
use Rattle.gv_heap.specs.Heap.{list_at, with_list}
use Rattle.gv_refill.proofs.Heaps.{begun_nothing, begun_more}
use Rattle.gv_refill.proofs.refilling.begin.Goals as goal

pub loop-at-init : goal.loop-at-init
loop-at-init c = begun_nothing c.args.heap.now c.args.list c.requires.kind c.args.elements.now

pub loop-at-preserved : goal.loop-at-preserved
loop-at-preserved c =
    let id = c.args.list in
    let i = c.loop-at.at in
    let elements = c.args.elements.now in
    c.set_item.ensures
    ∙ ap (λ heap. with_list heap id (slice_set (list_at heap id) i (get_or elements i Null))) c.loop-at.invariant
    ∙ begun_more c.args.heap.now id c.requires.kind elements i (omega arith) (omega arith)
