use Rattle.std.proofs.Common.{refl}
use Rattle.gv_strings.proofs.Sizes.{right_price}
use Rattle.gv_strings.proofs.padding.right_filled.Goals as goal

pub returns-then-is_too_dear : goal.returns-then-is_too_dear
returns-then-is_too_dear c =
    (right_price c.args.heap.now.cells c.args.size c.args.unit.now c.args.text.now c.utf8.unit c.requires (c.is_too_dear.ensures.yes c.if-is_too_dear.true), refl)
