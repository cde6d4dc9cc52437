use Rattle.std.proofs.Common.{ap, length, map, subst, sym, ◌<◌, ◌∙◌, All}
use Rattle.std.specs.Str.{chars}
use Rattle.gv_strings.specs.Parts.{item_place}
use Rattle.gv_strings.proofs.Places.{items_inside}
use Rattle.gv_strings.proofs.picking.items_text.Goals as goal

pub picked-requires : goal.picked-requires
picked-requires c =
    let size = length (chars c.args.text.now) in
    subst (All (λ place. place < size)) (sym (c.as_slice.ensures.value ∙ c.in_ok-places.ensures ∙ ap (λ n. map (item_place n) c.args.items.now) c.char_count-size.ensures))
    (items_inside size c.args.items.now c.requires)
