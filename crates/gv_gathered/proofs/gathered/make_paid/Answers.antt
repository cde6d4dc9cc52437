use Rattle.gv_gathered.proofs.Put.{made_all}
use Rattle.gv_gathered.proofs.gathered.make_paid.Goals as goal

pub returns : goal.returns
returns c = (c.requires, c.in_ok-map.ensures.1, made_all c.args.heap.now c.make_map.new.self c.put_all.new.heap c.in_ok-map.map c.args.entries.entries c.in_ok-map.ensures.1 c.in_ok-map.ensures.2 c.in_ok-put_all.ensures)
