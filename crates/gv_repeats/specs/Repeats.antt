-- The refusals of what a script declares a second time: classes, fields, methods and constructors.
use Rattle.std.specs.Prelude.{ℕ, ◌+◌, Bool, false, ◌==◌, List, [], ◌∷◌, Option, if◌then◌else◌}
use Rattle.std.specs.Option.{option_map_or}
use Rattle.gv_base.specs.declared.refusal.Place.{Place}
use Rattle.gv_base.specs.declared.refusal.Refusal.{Refusal}
use Rattle.gv_base.specs.declared.refusal.RefusalKind.{RefusalKind}
use Rattle.gv_base.specs.declared.refusal.RefusalKind.TheVariants.{NameDeclaredTwice, MethodDeclaredTwice}
use Rattle.gv_classes.specs.Classes.{named}
use Rattle.gv_classes.specs.declared.declared.Declared.{Declared}
use Rattle.gv_classes.specs.declared.declared.Member.{Member}
use Rattle.gv_classes.specs.declared.declared.MemberKind.{MemberKind}
use Rattle.gv_classes.specs.declared.declared.MemberKind.TheVariants as kind
use Rattle.gv_keys.specs.Keys.{key, is_there, with_key}
use Rattle.gv_refusals.specs.Order.{earlier}

abbrev pub Found : Type 0
Found = Option Refusal → Option Refusal

-- a refusal in the script's own file, of which `file` is the number
abbrev pub noted : ℕ → RefusalKind → Place → Found
noted file kind place first = if place.file == file then earlier first (record { kind = kind; place = place }) else first

-- ---- members

abbrev pub refusal_of : MemberKind → RefusalKind
refusal_of kind.Field = NameDeclaredTwice
refusal_of kind.Method = MethodDeclaredTwice
refusal_of kind.Constructor = MethodDeclaredTwice

-- a member behind others of its class, of which these are the keys
abbrev pub member_refused : ℕ → List (List ℕ) → Member → Found
member_refused file keys m first = if is_there keys (key m) then noted file (refusal_of m.kind) m.place first else first

abbrev pub members_refused : ℕ → List (List ℕ) → List Member → Found
members_refused file keys [] first = first
members_refused file keys (m ∷ ms) first = members_refused file (with_key keys (key m)) ms (member_refused file keys m first)

-- ---- classes

-- a class is the first of its name
abbrev pub is_first : List Declared → ℕ → Declared → Bool
is_first classes number d = option_map_or (λ c. c == number) (named classes d.name) false

abbrev pub name_refused : List Declared → ℕ → ℕ → Declared → Found
name_refused classes file number d first = if is_first classes number d then first else noted file NameDeclaredTwice d.place first

abbrev pub class_refused : List Declared → ℕ → ℕ → Declared → Found
class_refused classes file number d first = members_refused file [] d.members (name_refused classes file number d first)

-- classes from a number on
abbrev pub each_refused : List Declared → ℕ → ℕ → List Declared → Found
each_refused classes file number [] first = first
each_refused classes file number (d ∷ ds) first = each_refused classes file (number + 1) ds (class_refused classes file number d first)

-- the first refusal in a file, or the one found before where that stands first
abbrev pub repeats_refused : List Declared → ℕ → Found
repeats_refused classes file first = each_refused classes file 0 classes first
