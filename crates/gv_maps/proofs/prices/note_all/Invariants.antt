use Rattle.std.proofs.Common.{◌≡◌, [], drop, option_copied, unwrap_or}
use Rattle.gv_maps.specs.Prices.{count_noted}
use Rattle.gv_maps.proofs.prices.note_all.Given as goal

-- the items that are left decide
abbrev pub invariant-loop-item : goal.invariant-loop-item
invariant-loop-item l =
    count_noted (unwrap_or (option_copied l.entries) []) l.keys.keys (drop l.item-index l.items) ≡ count_noted (unwrap_or (option_copied l.entries) []) l.fn.keys.keys l.items
