-- One more of some is passed.
use Rattle.std.proofs.Common.{◌≡◌, ◌∙◌, ap, sym, ℕ, ◌+◌, ◌<◌, List, ◌∷◌, drop, get_or, length}
use Rattle.std.proofs.lemmas.List.{drop_more}
use Rattle.gv_accessors.specs.Accessors.{each}

pub passed : {X S : Type 0} (f : X → S → S) (xs : List X) (i : ℕ) (x : X) (s t : S) → i < length xs → x ≡ get_or xs i x → t ≡ f x s
    → each f (drop (i + 1) xs) t ≡ each f (drop i xs) s
passed f xs i x s t within is e =
    ap (each f (drop (i + 1) xs)) e
    ∙ sym (ap (λ ys. each f ys s) (drop_more xs i x within ∙ ap (λ y. y ∷ drop (i + 1) xs) (sym is)))
