use Rattle.std.proofs.Common.{◌∙◌}
use Rattle.gv_maps.proofs.Steps.{taken_more}
use Rattle.gv_maps.proofs.reading.shown_keys.Goals as goal

pub loop-place-preserved : goal.loop-place-preserved
loop-place-preserved c = taken_more (λ e. e.1.shown) c.args.entries.now c.loop-place.place _ c.loop-place.keys.items c.push.new.self.items c.at.ensures c.in_ok-push.ensures.items ∙ c.loop-place.invariant
