use Rattle.std.proofs.Common.{refl}
use Rattle.gv_strings.proofs.Sizes.{left_price}
use Rattle.gv_strings.proofs.padding.left_filled.Goals as goal

pub returns-then-is_too_dear : goal.returns-then-is_too_dear
returns-then-is_too_dear c =
    (left_price c.args.heap.now.cells c.args.size c.args.unit.now c.args.text.now c.utf8.unit c.requires (c.is_too_dear.ensures.yes c.if-is_too_dear.true), refl)
