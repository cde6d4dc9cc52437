use Rattle.gv_chars.proofs.Texts.{picked_written}
use Rattle.gv_chars.proofs.places.picked_from.Goals as goal

pub loop-place-preserved : goal.loop-place-preserved
loop-place-preserved c =
    picked_written _ _ c.args.places.now c.args.characters.now c.loop-place.place-index _ c.loop-place-test.true c.requires c.index-characters-place.is c.in_ok-push.ensures.bytes c.loop-place.invariant
