use Rattle.gv_searches.proofs.Told.{finds}
use Rattle.gv_searches.proofs.laws.searching.Goals as goal

pub returns : goal.returns
returns c = λ names classes heap wanted ts told. finds names classes heap wanted ts told
