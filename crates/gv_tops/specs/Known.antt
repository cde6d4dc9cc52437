-- The names that the rules themselves speak of.
use Rattle.std.specs.Prelude.{◌≡◌, ℕ, List, [], ◌∷◌, Some, codes}
use Rattle.gv_base.specs.Names.{name_of, with_name}
use Rattle.gv_tops.specs.declared.known.Known.{Known}

-- the texts of these names, in the order in which they are put into a table
abbrev pub texts : List (List ℕ)
texts =
    codes "groovy" ∷ codes "transform" ∷ codes "lang"
    ∷ codes "ToString" ∷ codes "EqualsAndHashCode" ∷ codes "TupleConstructor" ∷ codes "Field"
    ∷ codes "Delegate" ∷ codes "Singleton" ∷ codes "Lazy"
    ∷ codes "getProperty" ∷ codes "setProperty" ∷ []

-- the table with these texts
abbrev pub with_names : List (List ℕ) → List (List ℕ) → List (List ℕ)
with_names names [] = names
with_names names (text ∷ more) = with_names (with_name names text) more

-- each is the name of its text
pub record AreKnown (names : List (List ℕ)) (k : Known) : Type 0 where
  pub groovy : name_of names (codes "groovy") ≡ Some k.groovy
  pub transform : name_of names (codes "transform") ≡ Some k.transform
  pub lang : name_of names (codes "lang") ≡ Some k.lang
  pub to_string : name_of names (codes "ToString") ≡ Some k.to_string
  pub equals_and_hash_code : name_of names (codes "EqualsAndHashCode") ≡ Some k.equals_and_hash_code
  pub tuple_constructor : name_of names (codes "TupleConstructor") ≡ Some k.tuple_constructor
  pub field : name_of names (codes "Field") ≡ Some k.field
  pub delegate : name_of names (codes "Delegate") ≡ Some k.delegate
  pub singleton : name_of names (codes "Singleton") ≡ Some k.singleton
  pub lazy : name_of names (codes "Lazy") ≡ Some k.lazy
  pub get_property : name_of names (codes "getProperty") ≡ Some k.get_property
  pub set_property : name_of names (codes "setProperty") ≡ Some k.set_property
