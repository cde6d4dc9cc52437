use Rattle.std.proofs.Common.{◌≡◌, ◌+◌, ◌∷◌, ◌++◌, [], take, get_or, ap, sym, add-one, ◌∙◌, arith}
use Rattle.std.proofs.Math.Seq.{take-suc}
use Rattle.gv_base.specs.declared.value.Value.TheVariants.{Null}
use Rattle.gv_lists.proofs.Heaps.{grown_more}
use Rattle.gv_lists.specs.Writing.{grown}
use Rattle.gv_lists.proofs.writing.push_each.Goals as goal

pub loop-x-preserved : goal.loop-x-preserved
loop-x-preserved c =
    let new = c.args.new.now in
    let i = c.loop-x.x-index in
    let x = get_or new i Null in
    let more : take (i + 1) new ≡ take i new ++ x ∷ [] = ap (λ n. take n new) (add-one i) ∙ take-suc new i Null (omega arith) in
    c.in_ok-push_one.ensures
    ∙ ap (λ heap. grown heap c.args.list (x ∷ [])) c.loop-x.invariant
    ∙ grown_more c.args.heap.now c.args.list (take i new) x c.requires
    ∙ ap (grown c.args.heap.now c.args.list) (sym more)
