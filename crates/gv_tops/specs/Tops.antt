-- The refusals of what stands at the top of a script and in its classes. Each definition takes the first refusal that
-- was found before, and gives the first one then.
use Rattle.std.specs.Prelude.{◌==◌, ◌||◌, List, [], ◌∷◌, Option, Some, None, if◌then◌else◌}
use Rattle.gv_base.specs.declared.refusal.Place.{Place}
use Rattle.gv_base.specs.declared.refusal.Refusal.{Refusal}
use Rattle.gv_base.specs.declared.refusal.RefusalKind.{RefusalKind}
use Rattle.gv_base.specs.declared.refusal.RefusalKind.TheVariants as kind
use Rattle.gv_refusals.specs.Order.{earlier}
use Rattle.gv_tree.specs.declared.ops.Ident.{Ident}
use Rattle.gv_tree.specs.declared.top.Annotation.{Annotation}
use Rattle.gv_tree.specs.declared.top.ClassTree.{ClassTree}
use Rattle.gv_tree.specs.declared.top.Constructor.{Constructor}
use Rattle.gv_tree.specs.declared.top.Field.{Field}
use Rattle.gv_tree.specs.declared.top.Import.{Import}
use Rattle.gv_tree.specs.declared.top.Member.{Member}
use Rattle.gv_tree.specs.declared.top.Member.TheVariants as member
use Rattle.gv_tree.specs.declared.top.Method.{Method}
use Rattle.gv_tree.specs.declared.top.Script.{Script}
use Rattle.gv_tree.specs.declared.top.Top.{Top}
use Rattle.gv_tree.specs.declared.top.Top.TheVariants as top
use Rattle.gv_tops.specs.Transforms.{is_in_profile, imported_of, annotation_of, target_of, may_stand}
use Rattle.gv_tops.specs.declared.imports.Imported.{Imported}
use Rattle.gv_tops.specs.declared.known.Known.{Known}
use Rattle.gv_tops.specs.declared.target.Target.{Target}
use Rattle.gv_tops.specs.declared.target.Target.TheVariants as target
use Rattle.gv_tops.specs.declared.transform.Transform.{Transform}

abbrev pub Found : Type 0
Found = Option Refusal → Option Refusal

abbrev pub noted : RefusalKind → Place → Found
noted kind place first = earlier first (record { kind = kind; place = place })

-- each of some
abbrev pub each : {X : Type 0} → (X → Found) → List X → Found
each f [] first = first
each f (x ∷ xs) first = each f xs (f x first)

-- ---- imports and annotations

abbrev pub import_refused : Known → Import → Found
import_refused k i first = if is_in_profile k i then first else noted kind.ImportOutsideProfile i.place first

-- an annotation that isn't known, and one that is
abbrev pub use_refused : Option Transform → Target → Place → Found
use_refused None where_to place first = noted kind.UnknownClass place first
use_refused (Some t) where_to place first = if may_stand t where_to then first else noted kind.AnnotationOutOfPlace place first

abbrev pub annotation_refused : Known → Imported → Target → Annotation → Found
annotation_refused k s where_to a first = use_refused (annotation_of k s a.path) where_to a.place first

abbrev pub annotations_refused : Known → Imported → Target → List Annotation → Found
annotations_refused k s where_to annotations first = each (annotation_refused k s where_to) annotations first

-- ---- methods

abbrev pub method_name_refused : Known → Ident → Found
method_name_refused k i first = if i.name == k.get_property || i.name == k.set_property then noted kind.PropertyOverride i.place first else first

-- ---- members of classes

abbrev pub method_refused : Known → Imported → Method → Found
method_refused k s m first = method_name_refused k m.ident (annotations_refused k s target.Other m.annotations first)

abbrev pub constructor_refused : Known → Imported → Constructor → Found
constructor_refused k s c first = annotations_refused k s target.Other c.annotations first

abbrev pub field_refused : Known → Imported → Field → Found
field_refused k s f first = annotations_refused k s (target_of f.modifiers) f.annotations first

abbrev pub member_refused : Known → Imported → Member → Found
member_refused k s (member.Method m) first = method_refused k s m first
member_refused k s (member.Constructor c) first = constructor_refused k s c first
member_refused k s (member.Field f) first = field_refused k s f first

abbrev pub class_refused : Known → Imported → ClassTree → Found
class_refused k s c first = each (member_refused k s) c.members (annotations_refused k s target.Class c.annotations first)

-- ---- the top

abbrev pub top_refused : Known → Imported → Top → Found
top_refused k s (top.Import i) first = import_refused k i first
top_refused k s (top.Class c) first = class_refused k s c first
top_refused k s (top.Method m) first = method_refused k s m first
top_refused k s (top.Decl annotations d) first = annotations_refused k s target.Declaration annotations first
top_refused k s (top.Stmt x) first = first

-- the first refusal of a script, or the one found before where that stands first
abbrev pub tops_refused : Known → Script → Found
tops_refused k script first = each (top_refused k (imported_of k script.tops)) script.tops first
