-- Names of classes that aren't known, and classes that can't be extended.
use Rattle.std.specs.Prelude.{ℕ, Bool, nat_le, ◌==◌, ◌&&◌, ◌||◌, not, List, [], ◌∷◌, Option, Some, None, false, if◌then◌else◌}
use Rattle.std.specs.Option.{is_some, option_map_or}
use Rattle.gv_base.specs.declared.refusal.Refusal.{Refusal}
use Rattle.gv_base.specs.declared.refusal.RefusalKind.TheVariants.{UnknownClass}
use Rattle.gv_tree.specs.declared.ops.Ident.{Ident}
use Rattle.gv_tree.specs.declared.top.Script.{Script}
use Rattle.gv_tree.specs.declared.top.Top.{Top}
use Rattle.gv_tree.specs.declared.top.Top.TheVariants as top
use Rattle.gv_events.specs.declared.event.Event.{Event}
use Rattle.gv_events.specs.declared.event.Event.TheVariants as event
use Rattle.gv_refusals.specs.Order.{earlier}
use Rattle.gv_classes.specs.Classes.{named}
use Rattle.gv_classes.specs.declared.declared.Declared.{Declared}
use Rattle.gv_classes.specs.declared.ids.TheConstants.{OBJECT, THROWABLE, BUILT_IN}

abbrev pub Found : Type 0
Found = Option Refusal → Option Refusal

-- a name is refused unless it may stand there
abbrev pub name_refused : Bool → Ident → Found
name_refused may_stand i first = if may_stand then first else earlier first (record { kind = UnknownClass; place = i.place })

-- each of some
abbrev pub each : {X : Type 0} → (X → Found) → List X → Found
each f [] first = first
each f (x ∷ xs) first = each f xs (f x first)

-- ---- types written in bodies, fields and parameters

-- a class has the name
abbrev pub event_refused : List Declared → Event → Found
event_refused classes (event.Class i) first = name_refused (is_some (named classes i.name)) i first
event_refused classes other first = first

abbrev pub events_refused : List Declared → List Event → Found
events_refused classes events first = each (event_refused classes) events first

-- ---- the heads of classes

-- the script's own class comes right behind the built-in ones
abbrev pub script_class : ℕ
script_class = BUILT_IN

-- what a class may extend: Object, an exception class, or a class that a script declares
abbrev pub may_extend : ℕ → Bool
may_extend c = c == OBJECT || (nat_le THROWABLE c && not (c == script_class))

abbrev pub superclass_refused : List Declared → Option Ident → Found
superclass_refused classes None first = first
superclass_refused classes (Some i) first = name_refused (option_map_or may_extend (named classes i.name) false) i first

-- what it may implement: GroovyInterceptable
abbrev pub interface_refused : ℕ → Option Ident → Found
interface_refused interceptable None first = first
interface_refused interceptable (Some i) first = name_refused (i.name == interceptable) i first

abbrev pub top_refused : List Declared → ℕ → Top → Found
top_refused classes interceptable (top.Class c) first = interface_refused interceptable c.interface (superclass_refused classes c.superclass first)
top_refused classes interceptable other first = first

abbrev pub heads_refused : List Declared → ℕ → List Top → Found
heads_refused classes interceptable tops first = each (top_refused classes interceptable) tops first

-- the first refusal of a script, or the one found before where that stands first
abbrev pub types_refused : List Declared → ℕ → Script → List Event → Found
types_refused classes interceptable script events first =
    heads_refused classes interceptable script.tops (events_refused classes events first)
