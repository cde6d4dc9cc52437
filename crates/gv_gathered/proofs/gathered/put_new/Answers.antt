use Rattle.gv_gathered.proofs.Put.{put_new}
use Rattle.gv_gathered.proofs.gathered.put_new.Goals as goal

pub returns-in-Ok : goal.returns-in-Ok
returns-in-Ok c = put_new c.args.heap.now c.put.new.self c.args.map c.args.entry c.requires.unknown c.in-Ok.ensures.1
