use Rattle.std.proofs.Common.{[], ◌∷◌, ◌++◌, ap, ◌∙◌}
use Rattle.gv_maps.proofs.Steps.{copied_more}
use Rattle.gv_maps.proofs.copies.push_entries.Goals as goal

pub loop-place-preserved : goal.loop-place-preserved
loop-place-preserved c =
    let put = c.in_ok-push.ensures.items ∙ ap (λ key. c.loop-place.items.items ++ (key, c.at.result.1) ∷ []) c.in_ok-key.ensures in
    copied_more c.args.entries.now c.loop-place.place _ c.loop-place.items.items c.push.new.self.items c.at.ensures put ∙ c.loop-place.invariant
