use Rattle.gv_hashes.proofs.Wrapped.{joined_is}
use Rattle.gv_hashes.proofs.joins.joined.Goals as goal

pub returns : goal.returns
returns c = joined_is c.args.hash c.args.next c.ranges.hash c.ranges.next
