use Rattle.std.proofs.Common.{subst, sym, w64}
use Rattle.std.proofs.lemmas.Int.{to_z-of_z}
use Rattle.gv_rows.specs.Reply.{Did}
use Rattle.gv_strings.specs.Parts as spec
use Rattle.gv_strings.specs.Throwing.{out_of_range}
use Rattle.gv_strings.proofs.parts.get_found.Goals as goal

pub returns-in-None : goal.returns-in-None
returns-in-None c =
    let heap = c.args.heap.now in
    subst (λ place. Did heap (spec.char_or heap c.args.given place) c.throw_outside.result heap) (sym c.in-None.is)
    (subst (λ n. Did heap (out_of_range n) c.throw_outside.result heap) (to_z-of_z w64 c.args.given c.ranges.given) (c.throw_outside.ensures heap))
