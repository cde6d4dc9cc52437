use Rattle.std.proofs.Common.{length, drop, ap, ◌∙◌, arith}
use Rattle.std.proofs.lemmas.List.{take_rest}
use Rattle.gv_refill.proofs.Heaps.{extended}
use Rattle.gv_refill.specs.Refill.{grown}
use Rattle.gv_refill.proofs.refilling.extend.Goals as goal

pub returns : goal.returns
returns c =
    let id = c.args.list in
    let elements = c.args.elements.now in
    let size = length c.list-size.result.now in
    c.in_ok-push_each.ensures
    ∙ ap (grown c.begin.new.heap id) (take_rest elements size)
    ∙ ap (λ heap. grown heap id (drop size elements)) c.begin.ensures
    ∙ extended c.args.heap.now id c.requires.kind elements size (ap length c.list-size.ensures) (grind arith)
