-- What groups cost, one by one.
use Rattle.std.proofs.Common.{◌≡◌, ℕ, zero, suc, ◌+◌, List, [], ◌∷◌, length, drop, slice_get, Some, ap, sym, ◌∙◌, add-one, arith}
use Rattle.std.specs.Map.{values_of}
use Rattle.gv_heap.specs.declared.key.MapKey.{MapKey}
use Rattle.gv_gathered.specs.Making.{lists_price}
use Rattle.gv_gathered.specs.declared.groups.Members.{Members}

abbrev pub all_prices : List (MapKey × Members) → ℕ
all_prices groups = lists_price groups + length groups

next : (groups : List (MapKey × Members)) (place : ℕ) (members : Members) → slice_get (values_of groups) place ≡ Some members
    → all_prices (drop place groups) ≡ (2 + length members.elements) + all_prices (drop (suc place) groups)
next [] place members h = cc
next (g ∷ groups) zero members h = let own : g.1 ≡ members = cc in let size = ap (λ m. length m.elements) own in omega arith
next (g ∷ groups) (suc place) members h = next groups place members h

pub price_next : (groups : List (MapKey × Members)) (place : ℕ) (members : Members) → slice_get (values_of groups) place ≡ Some members
    → all_prices (drop place groups) ≡ (2 + length members.elements) + all_prices (drop (place + 1) groups)
price_next groups place members h = next groups place members h ∙ ap (λ n. (2 + length members.elements) + all_prices (drop n groups)) (sym (add-one place))
