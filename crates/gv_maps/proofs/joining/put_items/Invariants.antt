use Rattle.std.proofs.Common.{◌≡◌, ◌≤◌}
use Rattle.gv_heap.specs.Heap.{object_at, map_at}
use Rattle.gv_heap.specs.Kinds.{IsMapObject}
use Rattle.gv_maps.specs.Joining.{join_price, joined_heap}
use Rattle.gv_maps.proofs.joining.put_items.Given as goal

-- the items that are left decide, and their price is left
abbrev pub invariant-loop-item : goal.invariant-loop-item
invariant-loop-item l = record {
  kind : IsMapObject (object_at l.heap l.id);
  fits : join_price (map_at l.heap l.id) l.item-iterator.rest.items ≤ l.heap.cells;
  left : joined_heap l.heap l.id l.item-iterator.rest.items ≡ joined_heap l.fn.heap l.id l.fn.items.items;
}
