-- Classes that are among their own superclasses.
use Rattle.std.specs.Prelude.{ℕ, zero, suc, min, nat_le, Bool, ◌==◌, ◌&&◌, List, [], ◌∷◌, Option, if◌then◌else◌}
use Rattle.gv_base.specs.declared.refusal.Refusal.{Refusal}
use Rattle.gv_base.specs.declared.refusal.RefusalKind.TheVariants.{SuperclassCircle}
use Rattle.gv_refusals.specs.Order.{earlier}
use Rattle.gv_classes.specs.Classes.{up}
use Rattle.gv_classes.specs.declared.declared.Declared.{Declared}
use Rattle.gv_classes.specs.declared.ids.TheConstants.{BUILT_IN}

-- the class where going up 2 ^ r times comes
unfoldable pub far : ℕ → List Declared → ℕ → ℕ
far zero classes c = up classes c
far (suc r) classes c = far r classes (far r classes c)

-- the one that comes first, by number, of the classes met on these 2 ^ r steps
unfoldable pub lowest : ℕ → List Declared → ℕ → ℕ
lowest zero classes c = up classes c
lowest (suc r) classes c = min (lowest r classes c) (lowest r classes (far r classes c))

-- 2 ^ 32 steps are more than there are classes
abbrev pub doublings : ℕ
doublings = 32

-- a class of a script, and the first class met by going up from it
abbrev pub begins_at : ℕ → ℕ → Bool
begins_at c first_met = nat_le BUILT_IN c && first_met == c

-- a class of a script that is met again by going up from it, before which no class of the circle comes
abbrev pub begins_circle : List Declared → ℕ → Bool
begins_circle classes c = begins_at c (lowest doublings classes c)

abbrev pub Found : Type 0
Found = Option Refusal → Option Refusal

-- a class is refused at its place where it begins a circle, and stands in this file
abbrev pub class_refused : Bool → ℕ → Declared → Found
class_refused begins file d first =
    if begins && d.place.file == file then earlier first (record { kind = SuperclassCircle; place = d.place }) else first

-- the classes from a number on, in order
abbrev pub classes_refused : List Declared → ℕ → ℕ → List Declared → Found
classes_refused classes file number [] first = first
classes_refused classes file number (d ∷ ds) first =
    classes_refused classes file (suc number) ds (class_refused (begins_circle classes number) file d first)

-- the first refusal of a file's classes, or the one found before where that stands first
abbrev pub circles_refused : List Declared → ℕ → Found
circles_refused classes file first = classes_refused classes file 0 classes first
