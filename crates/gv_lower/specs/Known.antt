-- The names that the rules themselves speak of.
use Rattle.std.specs.Prelude.{◌≡◌, ℕ, List, Some, codes}
use Rattle.gv_base.specs.Names.{name_of, with_name}
use Rattle.gv_lower.specs.declared.known.Known.{Known}

-- the table with these names
abbrev pub with_known : List (List ℕ) → List (List ℕ)
with_known names =
    with_name (with_name (with_name (with_name (with_name names (codes "plus")) (codes "minus")) (codes "multiply")) (codes "compareTo")) (codes "println")

-- each is the name of its text
pub record AreKnown (names : List (List ℕ)) (k : Known) : Type 0 where
  pub plus : name_of names (codes "plus") ≡ Some k.plus
  pub minus : name_of names (codes "minus") ≡ Some k.minus
  pub multiply : name_of names (codes "multiply") ≡ Some k.multiply
  pub compare_to : name_of names (codes "compareTo") ≡ Some k.compare_to
  pub println : name_of names (codes "println") ≡ Some k.println
