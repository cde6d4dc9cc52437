use Rattle.std.proofs.Common.{subst, sym, ◌∙◌}
use Rattle.gv_rows.specs.Reply.{Did}
use Rattle.gv_strings.specs.Reading.{long_or}
use Rattle.gv_strings.proofs.reading.long.Goals as goal

pub returns-in-None : goal.returns-in-None
returns-in-None c =
    let heap = c.args.heap.now in
    subst (λ n. Did heap (long_or heap c.args.text.now n) c.throw_no_number.result heap) (sym c.in-None.is ∙ c.integer_in.ensures) (c.throw_no_number.ensures heap)
