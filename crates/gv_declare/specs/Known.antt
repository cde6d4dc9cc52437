-- The names that the rules themselves speak of.
use Rattle.std.specs.Prelude.{◌≡◌, ℕ, List, [], ◌∷◌, Some, codes}
use Rattle.gv_base.specs.Names.{name_of, with_name}
use Rattle.gv_declare.specs.declared.known.Known.{Known}

-- the texts of these names, in the order in which they are put into a table
abbrev pub texts : List (List ℕ)
texts =
    codes "Object" ∷ codes "Integer" ∷ codes "Long" ∷ codes "Boolean"
    ∷ codes "Script" ∷ codes "GroovyInterceptable" ∷ []

-- the table with these texts
abbrev pub with_names : List (List ℕ) → List (List ℕ) → List (List ℕ)
with_names names [] = names
with_names names (text ∷ more) = with_names (with_name names text) more

-- each is the name of its text
pub record AreKnown (names : List (List ℕ)) (k : Known) : Type 0 where
  pub object : name_of names (codes "Object") ≡ Some k.object
  pub integer : name_of names (codes "Integer") ≡ Some k.integer
  pub long : name_of names (codes "Long") ≡ Some k.long
  pub boolean : name_of names (codes "Boolean") ≡ Some k.boolean
  pub script : name_of names (codes "Script") ≡ Some k.script
  pub interceptable : name_of names (codes "GroovyInterceptable") ≡ Some k.interceptable
