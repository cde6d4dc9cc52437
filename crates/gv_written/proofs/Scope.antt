-- Variables, slots and operands. The slots of a body are the variables in scope, and behind them those whose scope is over.
use Rattle.std.proofs.Common.{◌≡◌, ℕ, zero, suc, ◌+◌, ◌<◌, ◌≤◌, List, [], ◌∷◌, ◌++◌, length, true, false, refl, sym, ap, ◌∙◌, arith, length-append}
use Rattle.std.specs.Prelude.{take, drop, nat_lt}
use Rattle.std.proofs.lemmas.Bool.Decides.{nat_tests}
use Rattle.std.proofs.lemmas.List.{length-take-le}
use Rattle.std.proofs.Math.Seq.{take-append_seam}
use Rattle.gv_base.specs.declared.value.Value.{Value}
use Rattle.gv_base.specs.declared.value.Value.TheVariants.{Null}
use Rattle.gv_meaning.specs.declared.world.Cell.{Cell}
use Rattle.gv_meaning.specs.declared.world.Cell.TheVariants.{Own}
use Rattle.gv_meaning.specs.Meaning.{Scope, cell_of, with_cell, fitted, filled}
use Rattle.gv_meaning.specs.Machine.{popped}

-- operands pushed one after the other
abbrev pub onto : List Value → List Value → List Value
onto [] stack = stack
onto (v ∷ vs) stack = onto vs (v ∷ stack)

pub onto-append : (vs xs ys : List Value) → onto vs (xs ++ ys) ≡ onto vs xs ++ ys
onto-append [] xs ys = refl
onto-append (v ∷ vs) xs ys = onto-append vs (v ∷ xs) ys

popped_more : (n : ℕ) (us t : List Value) → popped (suc n) us t ≡ popped 1 (popped n us t).0 (popped n us t).1
popped_more zero us t = refl
popped_more (suc n) us [] = refl
popped_more (suc n) us (v ∷ t) = popped_more n (v ∷ us) t

popped_onto : (vs stack : List Value) → popped (length vs) [] (onto vs stack) ≡ (vs, stack)
popped_onto [] stack = refl
popped_onto (v ∷ vs) stack =
    popped_more (length vs) [] (onto vs (v ∷ stack)) ∙ ap (λ (r : List Value × List Value). popped 1 r.0 r.1) (popped_onto vs (v ∷ stack))

pub popped_operands : (vs operands above base : List Value) (n : ℕ) → length vs ≡ n → popped n [] ((onto vs operands ++ above) ++ base) ≡ (vs, (operands ++ above) ++ base)
popped_operands vs operands above base n e =
    ap (λ m. popped m [] ((onto vs operands ++ above) ++ base)) (sym e) ∙ ap (λ l. popped (length vs) [] l) (ap (λ l. l ++ base) (sym (onto-append vs operands above)) ∙ sym (onto-append vs (operands ++ above) base)) ∙ popped_onto vs ((operands ++ above) ++ base)

pub append_none : {A : Type 0} (xs : List A) → xs ++ [] ≡ xs
append_none [] = refl
append_none (x ∷ xs) = ap (λ l. x ∷ l) (append_none xs)

-- ---- slots

pub cell_within : (scope junk : Scope) (k : ℕ) → k < length scope → cell_of (scope ++ junk) k ≡ cell_of scope k
cell_within [] junk k lt = absurd (omega arith)
cell_within (c ∷ cs) junk zero lt = refl
cell_within (c ∷ cs) junk (suc k) lt = cell_within cs junk k (omega arith)

pub cell_outside : (scope : Scope) (k : ℕ) → length scope ≤ k → cell_of scope k ≡ Own Null
cell_outside [] k le = refl
cell_outside (c ∷ cs) zero le = absurd (omega arith)
cell_outside (c ∷ cs) (suc k) le = cell_outside cs k (omega arith)

pub with_cell_within : (scope junk : Scope) (k : ℕ) (v : Value) → k < length scope → with_cell k v (scope ++ junk) ≡ with_cell k v scope ++ junk
with_cell_within [] junk k v lt = absurd (omega arith)
with_cell_within (c ∷ cs) junk zero v lt = refl
with_cell_within (c ∷ cs) junk (suc k) v lt = ap (λ l. c ∷ l) (with_cell_within cs junk k v (omega arith))

pub with_cell_outside : (scope : Scope) (k : ℕ) (v : Value) → length scope ≤ k → with_cell k v scope ≡ scope
with_cell_outside [] zero v le = refl
with_cell_outside [] (suc k) v le = refl
with_cell_outside (c ∷ cs) zero v le = absurd (omega arith)
with_cell_outside (c ∷ cs) (suc k) v le = ap (λ l. c ∷ l) (with_cell_outside cs k v (omega arith))

pub length-with_cell : (scope : Scope) (k : ℕ) (v : Value) → length (with_cell k v scope) ≡ length scope
length-with_cell [] zero v = refl
length-with_cell [] (suc k) v = refl
length-with_cell (c ∷ cs) zero v = refl
length-with_cell (c ∷ cs) (suc k) v = ap suc (length-with_cell cs k v)

-- a slot is one of the first n, or it isn't
pub in_scope : (k n : ℕ) → true ≡ nat_lt k n → k < n
in_scope k n e = grind (arith, nat_tests)

pub out_of_scope : (k n : ℕ) → false ≡ nat_lt k n → n ≤ k
out_of_scope k n e = grind (arith, nat_tests)

-- a new variable takes the place of those whose scope is over
pub declared_slots : (scope junk : Scope) (n : ℕ) (c : Cell) → length scope ≡ n → take n (scope ++ junk) ++ c ∷ [] ≡ (scope ++ c ∷ []) ++ []
declared_slots scope junk n c e =
    ap (λ n. take n (scope ++ junk) ++ c ∷ []) (sym e) ∙ ap (λ l. l ++ c ∷ []) (take-append_seam scope junk) ∙ sym (append_none (scope ++ c ∷ []))

pub declared_length : (scope : Scope) (n : ℕ) (c : Cell) → length scope ≡ n → length (scope ++ c ∷ []) ≡ n + 1
declared_length scope n c e = omega (arith, length-append scope (c ∷ []))

-- what is given up is over
pub slots_cut : (n : ℕ) (scope junk : Scope) → scope ++ junk ≡ take n scope ++ (drop n scope ++ junk)
slots_cut zero scope junk = refl
slots_cut (suc n) [] junk = refl
slots_cut (suc n) (c ∷ cs) junk = ap (λ l. c ∷ l) (slots_cut n cs junk)

pub length-cut : (scope : Scope) (n m : ℕ) → length scope ≡ n + m → length (take n scope) ≡ n
length-cut scope n m e = length-take-le n scope (omega arith)

-- ---- where a body begins

length-fitted : (n : ℕ) (ps : List ℕ) → length (fitted n ps) ≡ n
length-fitted zero ps = refl
length-fitted (suc n) [] = ap suc (length-fitted n [])
length-fitted (suc n) (p ∷ ps) = ap suc (length-fitted n ps)

length-filled : (n : ℕ) (vs : List Value) → length (filled n vs) ≡ n
length-filled zero vs = refl
length-filled (suc n) [] = ap suc (length-filled n [])
length-filled (suc n) (v ∷ vs) = ap suc (length-filled n vs)

pub opening_length : (captured parameters : ℕ) (ps : List ℕ) (args : List Value) → length (fitted captured ps ++ filled parameters args) ≡ captured + parameters
opening_length captured parameters ps args =
    omega (arith, length-append (fitted captured ps) (filled parameters args), length-fitted captured ps, length-filled parameters args)
