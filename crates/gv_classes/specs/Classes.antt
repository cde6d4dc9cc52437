-- The known classes by their numbers: which stands above which, and which arguments fit which parameters.
use Rattle.std.specs.Prelude.{◌≡◌, ◌≤◌, ℕ, zero, suc, Bool, true, false, ◌&&◌, ◌||◌, ◌==◌, List, [], ◌∷◌, length, Option, Some, None, position, slice_get, unwrap_or, if◌then◌else◌}
use Rattle.std.specs.List.{list_any, list_all}
use Rattle.std.specs.Option.{option_map_or}
use Rattle.std.specs.Int.Bits.{bit_and}
use Rattle.gv_classes.specs.declared.ids.TheConstants.{OBJECT, INTEGER, LONG, STRING, GSTRING, BUILT_IN}
use Rattle.gv_classes.specs.declared.declared.TheConstants.{REST}
use Rattle.gv_classes.specs.declared.declared.Declared.{Declared}
use Rattle.gv_classes.specs.declared.declared.Member.{Member}
use Rattle.gv_classes.specs.declared.declared.MemberKind.{MemberKind}
use Rattle.gv_classes.specs.declared.declared.MemberKind.TheVariants.{Method, Constructor, Field}

-- the class of a name: the first that bears it
abbrev pub named : List Declared → ℕ → Option ℕ
named classes name = position (λ c. c.name == name) classes

-- one step up: the class of the name of the superclass, or Object where no class has it
abbrev pub up : List Declared → ℕ → ℕ
up classes c = unwrap_or (option_map_or (λ d. named classes d.above) (slice_get classes c) None) OBJECT

-- whether going up comes to Object, in at most so many steps
unfoldable pub comes_up : ℕ → List Declared → ℕ → Bool
comes_up zero classes c = c == OBJECT
comes_up (suc n) classes c = c == OBJECT || comes_up n classes (up classes c)

-- the superclass; a class from which going up never comes to Object has Object for it
abbrev pub above : List Declared → ℕ → ℕ
above classes c = if comes_up (length classes) classes c then up classes c else OBJECT

-- a class, its superclass, and so on up to Object, in at most so many steps
unfoldable pub chain_within : ℕ → List Declared → ℕ → List ℕ
chain_within zero classes c = c ∷ []
chain_within (suc n) classes c = c ∷ (if c == OBJECT then [] else chain_within n classes (above classes c))

abbrev pub chain : List Declared → ℕ → List ℕ
chain classes c = chain_within (length classes) classes c

-- an instance of class a is one of class b
abbrev pub is_kind : List Declared → ℕ → ℕ → Bool
is_kind classes a b = list_any (λ c. c == b) (chain classes a)

-- an argument of class a fits a parameter of type b: besides, an Integer fits a Long, and a GString a String
abbrev pub fits : List Declared → ℕ → ℕ → Bool
fits classes a b = is_kind classes a b || (b == LONG && is_kind classes a INTEGER) || (b == STRING && is_kind classes a GSTRING)

abbrev pub is_method : MemberKind → Bool
is_method Method = true
is_method Constructor = false
is_method Field = false

abbrev pub is_method_named : ℕ → Member → Bool
is_method_named name m = is_method m.kind && m.name == name

-- a class declares a method of a name itself; it, or one above it, does
abbrev pub has_method : ℕ → Option Declared → Bool
has_method name None = false
has_method name (Some d) = list_any (is_method_named name) d.members

abbrev pub declares : List Declared → ℕ → ℕ → Bool
declares classes c name = list_any (λ k. has_method name (slice_get classes k)) (chain classes c)

-- a member whose last parameter is a rest parameter has a parameter
abbrev pub not_empty : List ℕ → Bool
not_empty [] = false
not_empty (t ∷ ts) = true

abbrev pub has_rest_type : Member → Bool
has_rest_type m = bit_and m.flags REST == 0 || not_empty m.types

abbrev pub rests_typed : Declared → Bool
rests_typed d = list_all has_rest_type d.members

abbrev pub AreRestsTyped : Declared → Type 0
AreRestsTyped d = rests_typed d ≡ true

-- the first class has its own name for its superclass's
abbrev pub IsFirstOwn : List Declared → Type 0
IsFirstOwn [] = ⊥
IsFirstOwn (d ∷ ds) = d.above ≡ d.name

-- what holds of the known classes: the built-in ones are there, Object first, and each rest parameter has a type
pub record AreKnown (classes : List Declared) : Type 0 where
  pub built_in : BUILT_IN ≤ length classes
  pub object : IsFirstOwn classes
  pub rests : list_all rests_typed classes ≡ true
