-- Parts of lists, and lists that are repeated.
use Rattle.std.proofs.Common.{Some, slice_get, ◌≡◌, ℕ, zero, suc, ◌+◌, ◌*◌, ◌-◌, List, [], ◌∷◌, ◌++◌, length, take, drop, min, refl, ap, sym, add-one, append_assoc, length-append, append-nil, ◌∙◌, arith}
use Rattle.std.proofs.lemmas.List.{drop_min, take_rest}
use Rattle.gv_base.specs.declared.value.Value.{Value}
use Rattle.gv_lists.specs.Joining.{repeated}

-- what is left after so many, or after all
pub dropped_rest : {X : Type 0} → (xs : List X) (n : ℕ) → take (length xs - min n (length xs)) (drop (min n (length xs)) xs) ≡ drop n xs
dropped_rest xs n = take_rest xs (min n (length xs)) ∙ drop_min n xs

-- once more, at the end
at_the_end : (n : ℕ) (xs : List Value) → repeated n xs ++ xs ≡ repeated (suc n) xs
at_the_end zero xs = sym (append-nil xs)
at_the_end (suc n) xs = append_assoc xs (repeated n xs) xs ∙ ap (λ ys. xs ++ ys) (at_the_end n xs)

pub repeated_more : (n : ℕ) (xs : List Value) → repeated n xs ++ xs ≡ repeated (n + 1) xs
repeated_more n xs = rw (add-one n) (at_the_end n xs)

-- an empty list stays empty
pub repeated_none : (n : ℕ) (xs : List Value) → length xs ≡ 0 → repeated n xs ≡ []
repeated_none zero xs h = refl
repeated_none (suc n) [] h = repeated_none n [] h
repeated_none (suc n) (x ∷ xs) h = absurd (omega arith)

pub length_repeated : (n : ℕ) (xs : List Value) → length (repeated n xs) ≡ n * length xs
length_repeated zero xs = omega arith
length_repeated (suc n) xs = length-append xs (repeated n xs) ∙ omega (arith, length_repeated n xs)

-- the element at a place, and those before and behind it
module _ {X : Type 0} where
  drop_suc : (xs : List X) (i : ℕ) (x : X) → slice_get xs i ≡ Some x → drop i xs ≡ x ∷ drop (suc i) xs
  drop_suc [] i x h = cc
  drop_suc (y ∷ ys) zero x h = cc
  drop_suc (y ∷ ys) (suc i) x h = drop_suc ys i x h

  pub drop_at : (xs : List X) (i : ℕ) (x : X) → slice_get xs i ≡ Some x → drop i xs ≡ x ∷ drop (i + 1) xs
  drop_at xs i x h = drop_suc xs i x h ∙ ap (λ n. x ∷ drop n xs) (sym (add-one i))

  take_suc : (xs : List X) (i : ℕ) (x : X) → slice_get xs i ≡ Some x → take (suc i) xs ≡ take i xs ++ x ∷ []
  take_suc [] i x h = cc
  take_suc (y ∷ ys) zero x h = cc
  take_suc (y ∷ ys) (suc i) x h = ap (λ zs. y ∷ zs) (take_suc ys i x h)

  pub take_at : (xs : List X) (i : ℕ) (x : X) → slice_get xs i ≡ Some x → take (i + 1) xs ≡ take i xs ++ x ∷ []
  take_at xs i x h = ap (λ n. take n xs) (add-one i) ∙ take_suc xs i x h
