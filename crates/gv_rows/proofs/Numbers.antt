-- The numbers of a range, by their places.
use Rattle.std.proofs.Common.{◌≡◌, ℕ, zero, suc, ◌+◌, ◌<◌, ℤ, Bool, true, false, List, [], ◌∷◌, ◌++◌, length, take, drop, get_or, map, option_map, int_lt, slice_get, Some, refl, ap, add-one, length-drop, ◌∙◌, arith}
use Rattle.std.proofs.Math.Seq.{take-suc}
use Rattle.std.proofs.lemmas.List.{get_or-drop}
use Rattle.std.proofs.lemmas.Option.{slice_get_within, get_or_from_slice_get}
use Rattle.std.proofs.lemmas.Int.{ints}
use Rattle.gv_rows.specs.Sources.{stepped}
use Rattle.gv_heap.specs.Ranges.{range_size}
use Rattle.gv_rows.specs.Values.{numbers, number, range_numbers, range_elements}

pub length_numbers : (n : ℕ) (down : Bool) (first : ℤ) → length (numbers n down first) ≡ n
length_numbers zero down first = refl
length_numbers (suc n) down first = ap suc (length_numbers n down _)

pub length_mapped : {X Y : Type 0} (f : X → Y) (xs : List X) → length (map f xs) ≡ length xs
length_mapped f [] = refl
length_mapped f (x ∷ xs) = ap suc (length_mapped f xs)

pub get_mapped : {X Y : Type 0} (f : X → Y) (xs : List X) (k : ℕ) (x : X) → slice_get xs k ≡ Some x → slice_get (map f xs) k ≡ Some (f x)
get_mapped f [] k x h = cc
get_mapped f (y ∷ ys) zero x h = ap (λ z. option_map f z) h
get_mapped f (y ∷ ys) (suc k) x h = get_mapped f ys k x h

-- no step, and one more
stepped-none : (down : Bool) (first : ℤ) → first ≡ stepped down first 0
stepped-none true first = omega (arith, ints)
stepped-none false first = omega (arith, ints)

stepped-more : (down : Bool) (first : ℤ) (k : ℕ) → stepped down (stepped down first 1) k ≡ stepped down first (suc k)
stepped-more true first k = omega (arith, ints)
stepped-more false first k = omega (arith, ints)

pub get_numbers : (n : ℕ) (down : Bool) (first : ℤ) (k : ℕ) → k < n → slice_get (numbers n down first) k ≡ Some (stepped down first k)
get_numbers zero down first k h = absurd (omega arith)
get_numbers (suc n) down first zero h = ap Some (stepped-none down first)
get_numbers (suc n) down first (suc k) h =
    get_numbers n down (stepped down first 1) k (omega arith) ∙ ap Some (stepped-more down first k)

-- the elements of a range
pub length_range : (first last : ℤ) (open_end long : Bool) → length (range_elements first last open_end long) ≡ range_size first last open_end
length_range first last open_end long = length_mapped (number long) (range_numbers first last open_end) ∙ length_numbers (range_size first last open_end) (int_lt last first) first

pub get_range : (first last : ℤ) (open_end long : Bool) (k : ℕ) → k < range_size first last open_end → slice_get (range_elements first last open_end long) k ≡ Some (number long (stepped (int_lt last first) first k))
get_range first last open_end long k h = get_mapped (number long) (range_numbers first last open_end) k _ (get_numbers (range_size first last open_end) (int_lt last first) first k h)

-- what was taken from a place on, and the next element
pub taken_more : {X : Type 0} (xs : List X) (from i : ℕ) (x : X) → slice_get xs (from + i) ≡ Some x → take (i + 1) (drop from xs) ≡ take i (drop from xs) ++ x ∷ []
taken_more xs from i x h =
    let within = slice_get_within xs (from + i) x h in
    let at : get_or (drop from xs) i x ≡ x = get_or-drop from xs i x ∙ get_or_from_slice_get xs (from + i) x x h in
    ap (λ n. take n (drop from xs)) (add-one i) ∙ take-suc (drop from xs) i x (omega (arith, length-drop from xs)) ∙ ap (λ y. take i (drop from xs) ++ y ∷ []) at
