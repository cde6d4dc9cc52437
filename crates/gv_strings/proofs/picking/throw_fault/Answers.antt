use Rattle.std.proofs.Common.{rules, to_z, of_z, subst, sym, w64, ◌≡◌}
use Rattle.std.proofs.lemmas.Int.{to_z-of_z}
use Rattle.gv_rows.specs.Reply.{Did}
use Rattle.gv_strings.specs.Parts.{fault_reply}
use Rattle.gv_strings.specs.Throwing.{out_of_range}
use Rattle.gv_strings.proofs.picking.throw_fault.Goals as goal

pub returns-in-Outside : goal.returns-in-Outside
returns-in-Outside c =
    let heap = c.args._heap.now in
    let back : to_z w64 (of_z w64 c.in-Outside.given) ≡ c.in-Outside.given = to_z-of_z w64 c.in-Outside.given (search rules) in
    subst (λ fault. Did heap (fault_reply fault) c.throw_outside.result heap) (sym c.in-Outside.is)
    (subst (λ n. Did heap (out_of_range n) c.throw_outside.result heap) back (c.throw_outside.ensures heap))
