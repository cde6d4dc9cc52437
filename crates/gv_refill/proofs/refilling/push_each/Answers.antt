use Rattle.std.proofs.Common.{◌≡◌, ◌+◌, ◌∷◌, ◌++◌, [], take, get_or, ap, sym, add-one, ◌∙◌, arith}
use Rattle.std.proofs.Math.Seq.{take-suc}
use Rattle.gv_base.specs.declared.value.Value.TheVariants.{Null}
use Rattle.gv_refill.proofs.Heaps.{grown_more}
use Rattle.gv_refill.specs.Refill.{grown}
use Rattle.gv_refill.proofs.refilling.push_each.Goals as goal

pub loop-x-preserved : goal.loop-x-preserved
loop-x-preserved c =
    let last = c.args.last.now in
    let i = c.loop-x.x-index in
    let x = get_or last i Null in
    let more : take (i + 1) last ≡ take i last ++ x ∷ [] = ap (λ n. take n last) (add-one i) ∙ take-suc last i Null (omega arith) in
    c.in_ok-push_one.ensures
    ∙ ap (λ heap. grown heap c.args.list (x ∷ [])) c.loop-x.invariant
    ∙ grown_more c.args.heap.now c.args.list c.requires (take i last) x
    ∙ ap (grown c.args.heap.now c.args.list) (sym more)
