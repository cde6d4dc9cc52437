use Rattle.std.proofs.Common.{◌∙◌}
use Rattle.gv_maps.proofs.Joined.{made_next}
use Rattle.gv_maps.proofs.joining.make_paid.Goals as goal

pub put_items-requires-clause-kind : goal.put_items-requires-clause-kind
put_items-requires-clause-kind c = (made_next c.args.heap.now c.args.items.items c.make_map.new.self c.in_ok-map.map c.in_ok-map.ensures.1 c.in_ok-map.ensures.2 c.requires).0

pub put_items-requires-clause-fits : goal.put_items-requires-clause-fits
put_items-requires-clause-fits c = (made_next c.args.heap.now c.args.items.items c.make_map.new.self c.in_ok-map.map c.in_ok-map.ensures.1 c.in_ok-map.ensures.2 c.requires).1

pub returns : goal.returns
returns c =
    let made = made_next c.args.heap.now c.args.items.items c.make_map.new.self c.in_ok-map.map c.in_ok-map.ensures.1 c.in_ok-map.ensures.2 c.requires in
    (c.requires, c.in_ok-map.ensures.1, c.in_ok-put_items.ensures ∙ made.2)
