-- A set of keys, and the list of what they hold.
use Rattle.std.proofs.Common.{◌≡◌, ℕ, Bool, true, false, List, [], ◌∷◌, ◌++◌, map, nat_eq, refl, if◌then◌else◌}
use Rattle.std.specs.Cmp.Lexicographic.{pointwise}
use Rattle.std.specs.List.{list_any}
use Rattle.std.proofs.lemmas.List.{map_push}
use Rattle.gv_base.proofs.Tables.{list_any-map}
use Rattle.gv_keys.specs.Keys.{with_key}

module _ {V : Type 0} (f : V → List ℕ) where
  chosen : (keys : List V) (v : V) (b : Bool) → map f (if b then keys else keys ++ v ∷ []) ≡ (if b then map f keys else map f keys ++ f v ∷ [])
  chosen keys v true = refl
  chosen keys v false = map_push f keys v

  pub with_key-map : (keys : List V) (v : V) → map f (if list_any (λ x. pointwise nat_eq (f v) (f x)) keys then keys else keys ++ v ∷ []) ≡ with_key (map f keys) (f v)
  with_key-map keys v = rw (list_any-map f (pointwise nat_eq (f v)) keys) (chosen keys v (list_any (λ x. pointwise nat_eq (f v) (f x)) keys))
