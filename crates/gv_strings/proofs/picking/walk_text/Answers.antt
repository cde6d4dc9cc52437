use Rattle.std.proofs.Common.{length, subst, sym, ◌<◌, ◌∙◌, All}
use Rattle.std.specs.Str.{chars}
use Rattle.gv_strings.proofs.Places.{walk_inside}
use Rattle.gv_strings.proofs.picking.walk_text.Goals as goal

pub picked-requires : goal.picked-requires
picked-requires c =
    let size = length (chars c.args.text.now) in
    subst (All (λ place. place < size)) (sym (c.as_slice.ensures.value ∙ c.in_ok-places.ensures)) (walk_inside size c.args.walk.now c.requires)
