use Rattle.std.proofs.Common.{rules, to_z, of_z, subst, sym, w64, ◌≡◌}
use Rattle.std.proofs.lemmas.Int.{to_z-of_z}
use Rattle.gv_rows.specs.Reply.{Did}
use Rattle.gv_lists.specs.Reading.{fault_reply}
use Rattle.gv_lists.specs.Throwing.{outside}
use Rattle.gv_lists.proofs.picking.throw_fault.Goals as goal

pub returns-in-Before : goal.returns-in-Before
returns-in-Before c heap =
    let back : to_z w64 (of_z w64 c.in-Before.given) ≡ c.in-Before.given = to_z-of_z w64 c.in-Before.given (search rules) in
    subst (λ fault. Did heap (fault_reply c.args.size fault) c.throw_outside.result heap) (sym c.in-Before.is)
    (subst (λ n. Did heap (outside n c.args.size) c.throw_outside.result heap) back (c.throw_outside.ensures heap))
