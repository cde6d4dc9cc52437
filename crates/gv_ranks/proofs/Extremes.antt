-- The greatest or the smallest one, found from the last one on.
use Rattle.std.proofs.Common.{◌≡◌, Bool, List, [], ◌∷◌, ◌++◌, Option, Some, None, refl, ap}
use Rattle.gv_ranks.specs.Sorted.{of_two, extreme}
use Rattle.gv_ranks.specs.declared.ranking.Ranked.{Ranked}

-- the same of those before one that was found
abbrev pub extreme_before : Bool → List Ranked → Option Ranked → Option Ranked
extreme_before greatest [] found = found
extreme_before greatest (r ∷ rs) found = Some (of_two greatest r (extreme_before greatest rs found))

pub extreme_before-last : (greatest : Bool) (rs : List Ranked) (r : Ranked) (found : Option Ranked)
    → extreme_before greatest (rs ++ r ∷ []) found ≡ extreme_before greatest rs (Some (of_two greatest r found))
extreme_before-last greatest [] r found = refl
extreme_before-last greatest (s ∷ rs) r found = ap (λ it. Some (of_two greatest s it)) (extreme_before-last greatest rs r found)

pub extreme_before-none : (greatest : Bool) (rs : List Ranked) → extreme_before greatest rs None ≡ extreme greatest rs
extreme_before-none greatest [] = refl
extreme_before-none greatest (r ∷ rs) = ap (λ it. Some (of_two greatest r it)) (extreme_before-none greatest rs)
