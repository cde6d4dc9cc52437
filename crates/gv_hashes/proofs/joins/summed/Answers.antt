use Rattle.gv_hashes.proofs.Wrapped.{summed_is}
use Rattle.gv_hashes.proofs.joins.summed.Goals as goal

pub returns : goal.returns
returns c = summed_is c.args.sum c.args.key c.args.value c.ranges.sum c.ranges.key c.ranges.value
