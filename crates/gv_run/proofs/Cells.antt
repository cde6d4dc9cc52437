-- Variables and operands, as the code takes them.
use Rattle.std.proofs.Common.{◌≡◌, ℕ, zero, suc, ◌+◌, ◌-◌, ◌<◌, ◌≤◌, List, [], ◌∷◌, ◌++◌, length, drop, take, reverse, Option, Some, None, refl, sym, ap, ◌∙◌, arith, append_assoc, append-nil}
use Rattle.std.proofs.lemmas.List.{reverse-append}
use Rattle.std.specs.Prelude.{slice_get, slice_set}
use Rattle.gv_base.specs.declared.value.Value.{Value}
use Rattle.gv_base.specs.declared.value.Value.TheVariants.{Null}
use Rattle.gv_meaning.specs.declared.world.Cell.{Cell}
use Rattle.gv_meaning.specs.declared.world.Cell.TheVariants.{Own}
use Rattle.gv_meaning.specs.Meaning.{cell_of, with_cell, fitted, filled}
use Rattle.gv_meaning.specs.Machine.{popped}

abbrev pub or_null : Option Cell → Cell
or_null None = Own Null
or_null (Some c) = c

pub cell_is : (slots : List Cell) (k : ℕ) → cell_of slots k ≡ or_null (slice_get slots k)
cell_is [] k = refl
cell_is (c ∷ cs) zero = refl
cell_is (c ∷ cs) (suc k) = cell_is cs k

pub set_is : (k : ℕ) (v : Value) (slots : List Cell) → with_cell k v slots ≡ slice_set slots k (Own v)
set_is k v [] = refl
set_is zero v (c ∷ cs) = refl
set_is (suc k) v (c ∷ cs) = ap (λ xs. c ∷ xs) (set_is k v cs)

fitted_one : (m i : ℕ) (ps : List ℕ) → fitted (suc m) (drop i ps) ≡ fitted 1 (drop i ps) ++ fitted m (drop (suc i) ps)
fitted_one m zero [] = refl
fitted_one m zero (p ∷ ps) = refl
fitted_one m (suc i) [] = refl
fitted_one m (suc i) (p ∷ ps) = fitted_one m i ps

filled_one : (m i : ℕ) (vs : List Value) → filled (suc m) (drop i vs) ≡ filled 1 (drop i vs) ++ filled m (drop (suc i) vs)
filled_one m zero [] = refl
filled_one m zero (v ∷ vs) = refl
filled_one m (suc i) [] = refl
filled_one m (suc i) (v ∷ vs) = filled_one m i vs

next : (n i : ℕ) (part : ℕ → ℕ → List Cell) (cell : Cell) (cells cells2 all : List Cell) → ((m : ℕ) → part (suc m) i ≡ part 1 i ++ part m (suc i)) → i < n → part 1 i ≡ cell ∷ [] → cells2 ≡ cells ++ cell ∷ [] → cells ++ part (n - i) i ≡ all → cells2 ++ part (n - (i + 1)) (i + 1) ≡ all
next n i part cell cells cells2 all one lt e f inv =
    let m : n - i ≡ suc (n - (i + 1)) = omega arith in
    let s : suc i ≡ i + 1 = omega arith in
    let p : part (n - i) i ≡ (cell ∷ []) ++ part (n - (i + 1)) (i + 1) = ap (λ k. part k i) m ∙ one (n - (i + 1)) ∙ ap (λ l. l ++ part (n - (i + 1)) (suc i)) e ∙ ap (λ k. (cell ∷ []) ++ part (n - (i + 1)) k) s in
    ap (λ l. l ++ part (n - (i + 1)) (i + 1)) f ∙ append_assoc cells (cell ∷ []) (part (n - (i + 1)) (i + 1)) ∙ ap (λ l. cells ++ l) (sym p) ∙ inv

pub fitted_next : (n i : ℕ) (ps : List ℕ) (cell : Cell) (cells cells2 all : List Cell) → i < n → fitted 1 (drop i ps) ≡ cell ∷ [] → cells2 ≡ cells ++ cell ∷ [] → cells ++ fitted (n - i) (drop i ps) ≡ all → cells2 ++ fitted (n - (i + 1)) (drop (i + 1) ps) ≡ all
fitted_next n i ps cell cells cells2 all lt e f inv = next n i (λ k i. fitted k (drop i ps)) cell cells cells2 all (λ m. fitted_one m i ps) lt e f inv

pub filled_next : (n i : ℕ) (vs : List Value) (cell : Cell) (cells cells2 all : List Cell) → i < n → filled 1 (drop i vs) ≡ cell ∷ [] → cells2 ≡ cells ++ cell ∷ [] → cells ++ filled (n - i) (drop i vs) ≡ all → cells2 ++ filled (n - (i + 1)) (drop (i + 1) vs) ≡ all
filled_next n i vs cell cells cells2 all lt e f inv = next n i (λ k i. filled k (drop i vs)) cell cells cells2 all (λ m. filled_one m i vs) lt e f inv

pub set_beyond : (k : ℕ) (v : Value) (slots : List Cell) → length slots ≤ k → slots ≡ with_cell k v slots
set_beyond k v [] le = refl
set_beyond zero v (c ∷ cs) le = absurd (omega arith)
set_beyond (suc k) v (c ∷ cs) le = ap (λ xs. c ∷ xs) (set_beyond k v cs (omega arith))

-- operands from the top
popped_onto : (n : ℕ) (args stack : List Value) → popped n args stack ≡ (reverse (take n stack) ++ args, drop n stack)
popped_onto zero args stack = refl
popped_onto (suc n) args [] = refl
popped_onto (suc n) args (v ∷ stack) =
    popped_onto n (v ∷ args) stack ∙ ap (λ l. (l, drop n stack)) (sym (ap (λ l. l ++ args) (reverse-append (v ∷ []) (take n stack)) ∙ append_assoc (reverse (take n stack)) (v ∷ []) args))

pub popped_is : (n : ℕ) (stack : List Value) → popped n [] stack ≡ (reverse (take n stack), drop n stack)
popped_is n stack = popped_onto n [] stack ∙ ap (λ l. (l, drop n stack)) (append-nil (reverse (take n stack)))
