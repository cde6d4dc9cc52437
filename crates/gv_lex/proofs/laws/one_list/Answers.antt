use Rattle.std.proofs.Common.{sym, ◌∙◌}
use Rattle.gv_lex.proofs.Alike.{same-list}
use Rattle.gv_lex.proofs.laws.one_list.Goals as goal

pub returns : goal.returns
returns c = λ names file bytes ts us distinct ts_named us_named h k.
    let both = sym h ∙ k in
    same-list names distinct ts us ts_named us_named (cc both)
