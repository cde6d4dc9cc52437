use Rattle.std.proofs.Common.{sym, map}
use Rattle.std.proofs.lemmas.Iterator.Adapters.{position_from-zero}
use Rattle.gv_natives.specs.Table.{answers}
use Rattle.gv_natives.proofs.table.place_of.Goals as goal

pub loop-place-init : goal.loop-place-init
loop-place-init g c = sym (position_from-zero (λ method. answers method c.args.name.now c.args.kind c.args.arity) (map g.R.AsRow.method c.args.rows.now))
