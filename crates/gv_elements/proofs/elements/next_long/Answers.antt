use Rattle.std.proofs.Common.{◌≡◌, true, int_lt, arith}
use Rattle.std.proofs.lemmas.Int.{to_z-of_z}
use Rattle.gv_elements.proofs.Numbers.{between_up, between_down}
use Rattle.gv_elements.proofs.elements.next_long.Goals as goal

pub returns-then-next-last-2 : goal.returns-then-next-last-2
returns-then-next-last-2 c =
    let before : int_lt c.args.last c.args.next ≡ true = grind (arith, to_z-of_z) in
    let here = between_down c.args.next c.args.last before in
    grind (arith, to_z-of_z, here)

pub returns-then-next-last-3 : goal.returns-then-next-last-3
returns-then-next-last-3 c = grind (arith, to_z-of_z, between_up)
