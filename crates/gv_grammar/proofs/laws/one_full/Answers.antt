use Rattle.gv_grammar.proofs.Commands.{meet_full}
use Rattle.gv_grammar.proofs.laws.one_full.Goals as goal

pub returns : goal.returns
returns c = λ all x y ts us vs d d2. meet_full all d d2
