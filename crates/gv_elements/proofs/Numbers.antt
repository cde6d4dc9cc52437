-- The numbers between two, one by one, and those of ranges.
use Rattle.std.proofs.Common.{◌≡◌, ℕ, suc, ◌+◌, ℤ, pos, ◌+ℤ◌, ◌-ℤ◌, Bool, true, false, ◌∷◌, map, int_lt, unsigned_abs, refl, ap, add-one, ◌∙◌, arith}
use Rattle.std.proofs.lemmas.Int.{ints}
use Rattle.gv_rows.specs.Values.{numbers, number, range_elements}
use Rattle.gv_elements.specs.Elements.{between}

pub between_up : (n last : ℤ) → int_lt n last ≡ true → between n last false ≡ n ∷ between (n +ℤ pos 1) last false
between_up n last h =
    let here : int_lt last n ≡ false = grind (arith, ints) in
    let there : int_lt last (n +ℤ pos 1) ≡ false = grind (arith, ints) in
    let steps : unsigned_abs (last -ℤ n) ≡ suc (unsigned_abs (last -ℤ (n +ℤ pos 1))) = omega (arith, ints, h) in
    rw (here, there, steps) refl

pub between_down : (n last : ℤ) → int_lt last n ≡ true → between n last true ≡ n ∷ between (n -ℤ pos 1) last true
between_down n last h =
    let here : int_lt n last ≡ false = grind (arith, ints) in
    let there : int_lt (n -ℤ pos 1) last ≡ false = grind (arith, ints) in
    let steps : unsigned_abs (last -ℤ n) ≡ suc (unsigned_abs (last -ℤ (n -ℤ pos 1))) = omega (arith, ints, h) in
    rw (here, there, steps) refl

-- the numbers of a range whose end isn't open, and one step before an open end
closed : (first last : ℤ) (down : Bool) → int_lt last first ≡ down → numbers (unsigned_abs (last -ℤ first) + 1) down first ≡ between first last down
closed first last true h =
    let here : int_lt first last ≡ false = grind (arith, ints) in
    rw (here, add-one (unsigned_abs (last -ℤ first))) refl
closed first last false h = rw (h, add-one (unsigned_abs (last -ℤ first))) refl

pub range_closed : (first last : ℤ) (long : Bool) → range_elements first last false long ≡ map (number long) (between first last (int_lt last first))
range_closed first last long = ap (map (number long)) (closed first last (int_lt last first) refl)

pub range_open_up : (first last : ℤ) (long : Bool) → int_lt first last ≡ true → range_elements first last true long ≡ map (number long) (between first (last -ℤ pos 1) false)
range_open_up first last long h =
    let up : int_lt last first ≡ false = grind (arith, ints) in
    let there : int_lt (last -ℤ pos 1) first ≡ false = grind (arith, ints) in
    let steps : unsigned_abs (last -ℤ first) + 0 ≡ suc (unsigned_abs (last -ℤ pos 1 -ℤ first)) = omega (arith, ints, h) in
    rw (up, there, steps) refl

pub range_open_down : (first last : ℤ) (long : Bool) → int_lt last first ≡ true → range_elements first last true long ≡ map (number long) (between first (last +ℤ pos 1) true)
range_open_down first last long h =
    let there : int_lt first (last +ℤ pos 1) ≡ false = grind (arith, ints) in
    let steps : unsigned_abs (last -ℤ first) + 0 ≡ suc (unsigned_abs (last +ℤ pos 1 -ℤ first)) = omega (arith, ints, h) in
    rw (h, there, steps) refl
