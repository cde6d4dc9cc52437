-- Parts of lists.
use Rattle.std.proofs.Common.{Some, slice_get, ◌≡◌, ℕ, zero, suc, ◌+◌, List, [], ◌∷◌, ◌++◌, take, drop, ap, sym, add-one, ◌∙◌}

-- the element at a place, and those before and behind it
module _ {X : Type 0} where
  drop_suc : (xs : List X) (i : ℕ) (x : X) → slice_get xs i ≡ Some x → drop i xs ≡ x ∷ drop (suc i) xs
  drop_suc [] i x h = cc
  drop_suc (y ∷ ys) zero x h = cc
  drop_suc (y ∷ ys) (suc i) x h = drop_suc ys i x h

  pub drop_at : (xs : List X) (i : ℕ) (x : X) → slice_get xs i ≡ Some x → drop i xs ≡ x ∷ drop (i + 1) xs
  drop_at xs i x h = drop_suc xs i x h ∙ ap (λ n. x ∷ drop n xs) (sym (add-one i))

  take_suc : (xs : List X) (i : ℕ) (x : X) → slice_get xs i ≡ Some x → take (suc i) xs ≡ take i xs ++ x ∷ []
  take_suc [] i x h = cc
  take_suc (y ∷ ys) zero x h = cc
  take_suc (y ∷ ys) (suc i) x h = ap (λ zs. y ∷ zs) (take_suc ys i x h)

  pub take_at : (xs : List X) (i : ℕ) (x : X) → slice_get xs i ≡ Some x → take (i + 1) xs ≡ take i xs ++ x ∷ []
  take_at xs i x h = ap (λ n. take n xs) (add-one i) ∙ take_suc xs i x h
