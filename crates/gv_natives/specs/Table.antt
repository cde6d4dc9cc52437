-- Methods as contracts see them, which of them agree, and which one a call finds in a list of them.
use Rattle.std.specs.Prelude.{ℕ, Bool, true, not, ◌&&◌, ◌==◌, List, [], ◌∷◌, Option, position, bytes_eq}
use Rattle.std.specs.List.{list_any}
use Rattle.std.specs.Option.{option_or}
use denote.Enum.Bare.{sameb}
use Rattle.gv_natives.specs.contracts.kinds.Kind.{the_type as kinds}
use Rattle.gv_natives.specs.declared.kinds.TheConstants.{ANY_ARITY}
use Rattle.gv_natives.specs.declared.kinds.Kind.{Kind}
use Rattle.gv_natives.specs.declared.kinds.Takes.{Takes}
use Rattle.gv_natives.specs.declared.kinds.Row.{Row}

-- a row, with its name as bytes
pub record Method : Type 0 where
  pub name : List ℕ
  pub kind : Kind
  pub arity : ℕ
  pub first : Takes
  pub second : Takes
  pub walks : Bool

abbrev pub method_of : Row → Method
method_of row = record {
  name = row.name.now;
  kind = row.kind;
  arity = row.arity;
  first = row.first;
  second = row.second;
  walks = row.walks;
}

-- the method has this name, kind and arity
abbrev pub answers : Method → List ℕ → Kind → ℕ → Bool
answers method name kind arity = bytes_eq method.name name && sameb kinds method.kind kind && method.arity == arity

-- two methods agree in name, kind and arity
abbrev pub agree : Method → Method → Bool
agree method other = answers method other.name other.kind other.arity

-- no two methods agree
abbrev pub are_distinct : List Method → Bool
are_distinct [] = true
are_distinct (method ∷ methods) = not (list_any (agree method) methods) && are_distinct methods

-- the place of the method for so many arguments: the one of exactly this arity, else the one of any arity
abbrev pub found : List Method → List ℕ → Kind → ℕ → Option ℕ
found methods name kind arity =
    option_or (position (λ m. answers m name kind arity) methods) (position (λ m. answers m name kind ANY_ARITY) methods)
