-- The first place of a walk that is before the start, by its first and its last place.
use Rattle.std.proofs.Common.{◌≡◌, ℕ, zero, suc, ◌<◌, ◌≤◌, ◌-◌, ℤ, pos, negsuc, ◌<ℤ◌, ◌≤ℤ◌, ◌-ℤ◌, ◌+ℤ◌, Bool, true, false, List, [], ◌∷◌, length, slice_get, Some, None, refl, ap, sym, subst, ◌+◌, ◌∙◌, arith}
use Rattle.std.proofs.lemmas.Int.{ints}
use Rattle.gv_rows.proofs.Numbers.{get_numbers, length_numbers}
use Rattle.gv_rows.specs.Values.{numbers}
use Rattle.gv_lists.specs.Reading.{IsRun, fault_between, walk_fault}
use Rattle.gv_lists.specs.declared.faults.Fault.TheVariants.{Before}

-- upward from a place that is there
up_clear : (n k : ℕ) → walk_fault (numbers n false (pos k)) ≡ None
up_clear zero k = refl
up_clear (suc n) k = up_clear n (k + 1)

one_less : (k : ℕ) → pos (suc k) -ℤ pos 1 ≡ pos k
one_less k = omega (arith, ints)

-- downward, to the start at most, and past it
down_clear : (n k : ℕ) → n ≤ suc k → walk_fault (numbers n true (pos k)) ≡ None
down_clear zero k h = refl
down_clear (suc zero) zero h = refl
down_clear (suc (suc n)) zero h = absurd (omega arith)
down_clear (suc n) (suc k) h = ap (λ z. walk_fault (numbers n true z)) (one_less k) ∙ down_clear n k (omega arith)

down_fault : (n k : ℕ) → suc k < n → walk_fault (numbers n true (pos k)) ≡ Some (Before (negsuc 0))
down_fault zero k h = absurd (omega arith)
down_fault (suc zero) zero h = absurd (omega arith)
down_fault (suc (suc n)) zero h = refl
down_fault (suc n) (suc k) h = ap (λ z. walk_fault (numbers n true z)) (one_less k) ∙ down_fault n k (omega arith)

-- where the last place is
down_last : (n k : ℕ) (last : ℤ) → slice_get (numbers (suc n) true (pos k)) n ≡ Some last → last ≡ pos k -ℤ pos n
down_last n k last h = let at : slice_get (numbers (suc n) true (pos k)) n ≡ Some (pos k -ℤ pos n) = get_numbers (suc n) true (pos k) n (omega arith) in cc

fault_none : (n : ℕ) (down : Bool) (first last : ℤ) → slice_get (numbers (suc n) down first) n ≡ Some last → pos 0 ≤ℤ first → pos 0 ≤ℤ last → walk_fault (numbers (suc n) down first) ≡ None
fault_none n down (negsuc m) last h i j = absurd (omega (arith, ints))
fault_none n false (pos k) last h i j = up_clear (suc n) k
fault_none n true (pos k) last h i j = let e = down_last n k last h in down_clear (suc n) k (omega (arith, ints))

fault_down : (n : ℕ) (down : Bool) (first last : ℤ) → slice_get (numbers (suc n) down first) n ≡ Some last → pos 0 ≤ℤ first → last <ℤ pos 0 → walk_fault (numbers (suc n) down first) ≡ Some (Before (negsuc 0))
fault_down n down (negsuc m) last h i j = absurd (omega (arith, ints))
fault_down n false (pos k) last h i j = let at : slice_get (numbers (suc n) false (pos k)) n ≡ Some (pos k +ℤ pos n) = get_numbers (suc n) false (pos k) n (omega arith) in let e : last ≡ pos k +ℤ pos n = cc in absurd (omega (arith, ints))
fault_down n true (pos k) last h i j = let e = down_last n k last h in down_fault (suc n) k (omega (arith, ints))

-- with as many places as a walk has
of_run : (n : ℕ) (down : Bool) (first last : ℤ) → slice_get (numbers (suc n) down first) n ≡ Some last → fault_between first last ≡ walk_fault (numbers (suc n) down first)
of_run n down (negsuc m) last h = refl
of_run n down (pos k) (negsuc m) h = sym (fault_down n down (pos k) (negsuc m) h (omega (arith, ints)) (omega (arith, ints)))
of_run n down (pos k) (pos m) h = sym (fault_none n down (pos k) (pos m) h (omega (arith, ints)) (omega (arith, ints)))

run_of : (n : ℕ) (down : Bool) (start first last : ℤ) → slice_get (numbers n down start) 0 ≡ Some first → slice_get (numbers n down start) (length (numbers n down start) - 1) ≡ Some last → fault_between first last ≡ walk_fault (numbers n down start)
run_of zero down start first last h i = cc
run_of (suc n) down start first last h i =
    let place : length (numbers (suc n) down start) - 1 ≡ n = omega (arith, length_numbers (suc n) down start) in
    let same : first ≡ start = cc in
    ap (λ z. fault_between z last) same ∙ of_run n down start last (subst (λ k. slice_get (numbers (suc n) down start) k ≡ Some last) place i)

pub fault_of_walk : (places : List ℤ) (first last : ℤ) → IsRun places → slice_get places 0 ≡ Some first → slice_get places (length places - 1) ≡ Some last → fault_between first last ≡ walk_fault places
fault_of_walk places first last run h i =
    let e = run.3 in
    run_of run.0 run.1 run.2 first last (subst (λ ps. slice_get ps 0 ≡ Some first) e h) (subst (λ ps. slice_get ps (length ps - 1) ≡ Some last) e i) ∙ ap walk_fault (sym e)

pub fault_of_none : (places : List ℤ) → length places ≡ 0 → walk_fault places ≡ None
fault_of_none [] h = refl
fault_of_none (x ∷ xs) h = absurd (omega arith)

pub ruleset faults = (fault_of_walk, fault_of_none)
