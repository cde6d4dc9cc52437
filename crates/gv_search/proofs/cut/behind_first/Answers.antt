use Rattle.std.proofs.Common.{sym, ◌∙◌}
use Rattle.gv_search.proofs.Bytes.{behind_char}
use Rattle.gv_search.proofs.cut.behind_first.Goals as goal

pub returns-in-Some-clause-rest : goal.returns-in-Some-clause-rest
returns-in-Some-clause-rest c =
    let step = rw c.in-Some.is at c.next.ensures.steps in
    rw c.as_str.ensures (behind_char c.args.text.now c.next.new.self.rest.now c.in-Some.field-0 c.utf8.text (sym c.chars-characters.ensures.rest ∙ step.0))
