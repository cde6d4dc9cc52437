use Rattle.std.proofs.Common.{rules}
use Rattle.gv_search.proofs.Bytes.{starts_found}
use Rattle.gv_search.proofs.places.starts_with.Goals as goal

pub returns : goal.returns
returns c = search (rules, starts_found)
