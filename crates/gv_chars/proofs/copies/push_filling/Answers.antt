use Rattle.std.proofs.Common.{sym, subst, ◌<◌}
use Rattle.gv_chars.proofs.Texts.{some_chars, filled}
use Rattle.gv_chars.proofs.copies.push_filling.Goals as goal

pub nonzero_div-count : goal.nonzero_div-count
nonzero_div-count c = subst (λ k. 0 < k) (sym c.char_count-size.ensures) (some_chars c.args.unit.now c.utf8.unit c.requires)

pub nonzero_rem-count : goal.nonzero_rem-count
nonzero_rem-count c = subst (λ k. 0 < k) (sym c.char_count-size.ensures) (some_chars c.args.unit.now c.utf8.unit c.requires)

pub returns : goal.returns
returns c =
    filled _ _ _ c.args.unit.now c.front.result.now c.args.count c.char_count-size.result c.front.utf8 c.char_count-size.ensures
    (subst (λ k. 0 < k) (sym c.char_count-size.ensures) (some_chars c.args.unit.now c.utf8.unit c.requires))
    c.in_ok-push_str.ensures.bytes c.in_ok-push_copies.ensures c.front.ensures
