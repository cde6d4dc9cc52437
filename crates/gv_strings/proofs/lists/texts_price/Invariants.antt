use Rattle.std.proofs.Common.{◌≡◌, ◌+◌, drop, map, string_bytes}
use Rattle.gv_strings.specs.Lists.{texts_price}
use Rattle.gv_strings.proofs.lists.texts_price.Given as goal

abbrev pub invariant-loop-text : goal.invariant-loop-text
invariant-loop-text l = l.price + texts_price (map string_bytes (drop l.text-index l.texts)) ≡ texts_price (map string_bytes l.texts)
