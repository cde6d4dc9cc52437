use Rattle.std.proofs.Common.{ap, sym, ◌∙◌}
use Rattle.gv_meaning.specs.Calls.{Else, row_called}
use Rattle.gv_calls.proofs.Steps.{called_row}
use Rattle.gv_calls.proofs.calls.call_paid.Goals as goal

pub returns-in_ok-told-in_default : goal.returns-in_ok-told-in_default
returns-in_ok-told-in_default c =
    let w = c.args.world.now in
    let row = rw (c.kinds_of-kinds.ensures, c.text.ensures) at c.row_for-row.ensures in
    ap Else (c.in_ok-told-in_default.ensures ∙ ap (λ o. row_called o c.args.name c.args.receiver c.args.args.now w) row)
    ∙ sym (called_row c.args.name c.args.receiver c.args.args.now w c.in_default.not-Null)
