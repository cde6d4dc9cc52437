-- Places of a text that can be read are inside.
use Rattle.std.proofs.Common.{◌≡◌, ℕ, ℤ, pos, ◌<◌, List, [], ◌∷◌, map, Option, Some, None, unwrap_or, refl, arith, All}
use Rattle.std.specs.Option.{option_or}
use Rattle.std.proofs.lemmas.Bool.Decides.{nat_tests}
use Rattle.std.proofs.lemmas.List.Elements.{All-cons, All-nil}
use Rattle.gv_base.specs.declared.value.Value.{Value}
use Rattle.gv_rows.specs.Values.{from_end, natural, number_in}
use Rattle.gv_strings.specs.Parts.{first_fault, inside, item_fault, item_place, outside, walk_fault, walk_place}

module _ {X : Type 0} where
  or_first : (a b : Option X) → option_or a b ≡ None → a ≡ None
  or_first None b h = refl
  or_first (Some x) b h = cc

  or_rest : (a b : Option X) → option_or a b ≡ None → b ≡ None
  or_rest None b h = h
  or_rest (Some x) b h = cc

place_within : (size : ℕ) (given : ℤ) (place : Option ℕ) → outside given (inside size place) ≡ None → unwrap_or place 0 < size
place_within size given None h = cc
place_within size given (Some at) h = grind (arith, nat_tests)

item_within : (size : ℕ) (number : Option ℤ) → item_fault size number ≡ None → unwrap_or (natural (from_end size (unwrap_or number (pos 0)))) 0 < size
item_within size None h = cc
item_within size (Some n) h = place_within size n (natural (from_end size n)) h

pub items_inside : (size : ℕ) (items : List Value) → first_fault size items ≡ None → All (λ place. place < size) (map (item_place size) items)
items_inside size [] h = All-nil (λ place. place < size)
items_inside size (item ∷ items) h =
    All-cons (λ place. place < size) (item_place size item) (map (item_place size) items)
    (item_within size (number_in item) (or_first (item_fault size (number_in item)) (first_fault size items) h))
    (items_inside size items (or_rest (item_fault size (number_in item)) (first_fault size items) h))

pub walk_inside : (size : ℕ) (places : List ℤ) → walk_fault size places ≡ None → All (λ place. place < size) (map walk_place places)
walk_inside size [] h = All-nil (λ place. place < size)
walk_inside size (n ∷ places) h =
    All-cons (λ place. place < size) (walk_place n) (map walk_place places)
    (place_within size n (natural n) (or_first (outside n (inside size (natural n))) (walk_fault size places) h))
    (walk_inside size places (or_rest (outside n (inside size (natural n))) (walk_fault size places) h))
