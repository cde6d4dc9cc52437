use Rattle.std.proofs.Common.{subst, sym, ◌∙◌}
use Rattle.gv_rows.specs.Reply.{Did}
use Rattle.gv_strings.specs.Reading.{integer_or}
use Rattle.gv_strings.proofs.reading.integer.Goals as goal

pub returns-in-None : goal.returns-in-None
returns-in-None c =
    let heap = c.args.heap.now in
    subst (λ n. Did heap (integer_or heap c.args.text.now n) c.throw_no_number.result heap) (sym c.in-None.is ∙ c.small_in.ensures) (c.throw_no_number.ensures heap)
