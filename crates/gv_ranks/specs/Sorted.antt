-- Elements in order, and the greatest and the smallest one.
use Rattle.std.specs.Prelude.{Bool, true, false, List, [], ◌∷◌, map, Option, Some, None, if◌then◌else◌}
use Rattle.std.specs.Ordering.{is_lt, is_gt}
use Rattle.gv_base.specs.declared.value.Value.{Value}
use Rattle.gv_ranks.specs.Ranks.{compared}
use Rattle.gv_ranks.specs.declared.ranking.Ranked.{Ranked}

abbrev pub element : Ranked → Value
element r = r.element

abbrev pub elements : List Ranked → List Value
elements rs = map element rs

abbrev pub is_before : Ranked → Ranked → Bool
is_before r s = is_lt (compared r.rank s.rank)

-- ---- in order

-- x stood before all of these: it goes in front of the first that isn't before it
abbrev pub put : {X : Type 0} → (X → X → Bool) → X → List X → List X
put before x [] = x ∷ []
put before x (y ∷ ys) = if before y x then y ∷ put before x ys else x ∷ y ∷ ys

-- what ties stays in its order
abbrev pub sorted : {X : Type 0} → (X → X → Bool) → List X → List X
sorted before [] = []
sorted before (x ∷ xs) = put before x (sorted before xs)

-- ---- the greatest and the smallest

abbrev pub is_ahead : Bool → Ranked → Ranked → Bool
is_ahead true r s = is_gt (compared r.rank s.rank)
is_ahead false r s = is_lt (compared r.rank s.rank)

-- the first of two, unless the one behind it is ahead
abbrev pub of_two : Bool → Ranked → Option Ranked → Ranked
of_two greatest r None = r
of_two greatest r (Some s) = if is_ahead greatest s r then s else r

-- the greatest one, or the smallest: the first one, unless one behind it is ahead
abbrev pub extreme : Bool → List Ranked → Option Ranked
extreme greatest [] = None
extreme greatest (r ∷ rs) = Some (of_two greatest r (extreme greatest rs))
