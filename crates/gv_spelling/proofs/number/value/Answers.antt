use Rattle.std.proofs.Common.{arith}
use Rattle.std.proofs.lemmas.Grind.{common_steps}
use Rattle.std.proofs.lemmas.Bool.Decides.{nat_tests}
use Rattle.std.proofs.Common.{◌+◌, ◌*◌, ◌^◌, ◌<◌, get_or, drop}
use Rattle.std.proofs.lemmas.List.{at_drop_more}
use Rattle.std.specs.Char.{digit_value}
use Rattle.gv_spelling.specs.Table.{value}
use Rattle.gv_spelling.proofs.Digits.{le-value}
use Rattle.gv_spelling.proofs.number.value.Goals as goal

pub returns-then-next : goal.returns-then-next
returns-then-next c =
    let l = c.digits in
    let ds = c.args.digits.now in
    let radix = c.args.radix in
    let i = l.c-index in
    let next = l.value * radix + digit_value (get_or ds i 0) in
    let turn = at_drop_more (value radix l.value) ds i 0 c.digits-test.true in
    let grown = le-value radix next (drop (i + 1) ds) (omega (arith, c.requires.low)) in
    let large : 2 ^ 63 < value radix 0 ds = grind (arith, common_steps) in
    grind (arith, nat_tests, common_steps)
