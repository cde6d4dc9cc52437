use Rattle.std.proofs.Common.{◌≡◌, ◌++◌, length}
use Rattle.gv_code.specs.Pieces.{directed_items, ways_of}
use Rattle.gv_code.proofs.builder.decide_all.Given as goal

abbrev pub invariant-loop-item : goal.invariant-loop-item
invariant-loop-item l =
    (l.after ≡ length l.item-iterator.rest.items) ×
    (l.decided.items ++ directed_items (ways_of l.ways) l.item-iterator.rest.items ≡ directed_items (ways_of l.ways) l.fn.items.items)
