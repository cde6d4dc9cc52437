-- A step of a loop that puts what it takes of each element behind what it has.
use Rattle.std.proofs.Common.{◌≡◌, ℕ, zero, suc, ◌+◌, List, [], ◌∷◌, ◌++◌, drop, map, slice_get, Some, ap, sym, ◌∙◌, append_assoc, add-one}

module _ {X : Type 0} where
  drop_next : (xs : List X) (i : ℕ) (x : X) → slice_get xs i ≡ Some x → drop i xs ≡ x ∷ drop (suc i) xs
  drop_next [] i x h = cc
  drop_next (y ∷ ys) zero x h = cc
  drop_next (y ∷ ys) (suc i) x h = drop_next ys i x h

  pub drop_at : (xs : List X) (i : ℕ) (x : X) → slice_get xs i ≡ Some x → drop i xs ≡ x ∷ drop (i + 1) xs
  drop_at xs i x h = drop_next xs i x h ∙ ap (λ n. x ∷ drop n xs) (sym (add-one i))

module _ {X Y : Type 0} (f : X → Y) (xs : List X) (i : ℕ) where
  pub taken_more : (x : X) (ys zs : List Y) → slice_get xs i ≡ Some x → zs ≡ ys ++ f x ∷ [] → zs ++ map f (drop (i + 1) xs) ≡ ys ++ map f (drop i xs)
  taken_more x ys zs h e =
      ap (λ ws. ws ++ map f (drop (i + 1) xs)) e ∙ append_assoc ys (f x ∷ []) (map f (drop (i + 1) xs)) ∙ ap (λ ws. ys ++ map f ws) (sym (drop_at xs i x h))

pub copied_more : {X : Type 0} (xs : List X) (i : ℕ) (x : X) (ys zs : List X) → slice_get xs i ≡ Some x → zs ≡ ys ++ x ∷ [] → zs ++ drop (i + 1) xs ≡ ys ++ drop i xs
copied_more xs i x ys zs h e =
    ap (λ ws. ws ++ drop (i + 1) xs) e ∙ append_assoc ys (x ∷ []) (drop (i + 1) xs) ∙ ap (λ ws. ys ++ ws) (sym (drop_at xs i x h))
