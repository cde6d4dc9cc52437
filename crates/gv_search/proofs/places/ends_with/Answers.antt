use Rattle.std.proofs.Common.{rules}
use Rattle.gv_search.proofs.Bytes.{ends_found}
use Rattle.gv_search.proofs.places.ends_with.Goals as goal

pub returns : goal.returns
returns c = search (rules, ends_found)
