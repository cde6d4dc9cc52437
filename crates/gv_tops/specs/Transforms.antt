-- The annotations of the profile: their names, the imports that make them known, and where they may stand.
use Rattle.std.specs.Prelude.{ℕ, Bool, true, false, ◌==◌, ◌&&◌, ◌||◌, not, List, [], ◌∷◌, Option, Some, None, if◌then◌else◌}
use Rattle.std.specs.Option.{is_some}
use Rattle.gv_tree.specs.declared.ops.Ident.{Ident}
use Rattle.gv_tree.specs.declared.ops.Modifiers.{Modifiers}
use Rattle.gv_tree.specs.declared.top.Import.{Import}
use Rattle.gv_tree.specs.declared.top.Top.{Top}
use Rattle.gv_tree.specs.declared.top.Top.TheVariants as top
use Rattle.gv_tops.specs.declared.imports.Imported.{Imported}
use Rattle.gv_tops.specs.declared.known.Known.{Known}
use Rattle.gv_tops.specs.declared.target.Target.{Target}
use Rattle.gv_tops.specs.declared.target.Target.TheVariants as target
use Rattle.gv_tops.specs.declared.transform.Transform.{Transform}
use Rattle.gv_tops.specs.declared.transform.Transform.TheVariants as transform

-- ---- names and packages

-- the annotation of a name
abbrev pub named : Known → ℕ → Option Transform
named k name =
    if name == k.to_string then Some transform.ToString
    else if name == k.equals_and_hash_code then Some transform.EqualsAndHashCode
    else if name == k.tuple_constructor then Some transform.TupleConstructor
    else if name == k.field then Some transform.Field
    else if name == k.delegate then Some transform.Delegate
    else if name == k.singleton then Some transform.Singleton
    else if name == k.lazy then Some transform.Lazy
    else None

-- its package in `groovy`
abbrev pub package_of : Known → Transform → ℕ
package_of k transform.ToString = k.transform
package_of k transform.EqualsAndHashCode = k.transform
package_of k transform.TupleConstructor = k.transform
package_of k transform.Field = k.transform
package_of k transform.Delegate = k.lang
package_of k transform.Singleton = k.lang
package_of k transform.Lazy = k.lang

-- an annotation if it is of this package
abbrev pub if_of : Known → ℕ → Option Transform → Option Transform
if_of k within None = None
if_of k within (Some t) = if within == package_of k t then Some t else None

-- the annotation that is named with its package
abbrev pub named_in_full : Known → List Ident → Option Transform
named_in_full k (root ∷ within ∷ name ∷ []) = if root.name == k.groovy then if_of k within.name (named k name.name) else None
named_in_full k path = None

-- the names between the dots are those of a package of `groovy`
abbrev pub is_package : Known → ℕ → List Ident → Bool
is_package k name (root ∷ within ∷ []) = root.name == k.groovy && within.name == name
is_package k name path = false

-- ---- imports

-- all of a package, or one of its annotations
abbrev pub is_in_profile : Known → Import → Bool
is_in_profile k i =
    if i.is_all then is_package k k.transform i.path || is_package k k.lang i.path
    else is_some (named_in_full k i.path)

-- what is imported with one annotation more; those of `groovy.lang` need no import
abbrev pub with_one : Option Transform → Imported → Imported
with_one (Some transform.ToString) s = record s { to_string = true }
with_one (Some transform.EqualsAndHashCode) s = record s { equals_and_hash_code = true }
with_one (Some transform.TupleConstructor) s = record s { tuple_constructor = true }
with_one (Some transform.Field) s = record s { field = true }
with_one other s = s

abbrev pub with_import : Known → Import → Imported → Imported
with_import k i s =
    if i.is_all then (if is_package k k.transform i.path then record s { all = true } else s)
    else with_one (named_in_full k i.path) s

abbrev pub with_top : Known → Top → Imported → Imported
with_top k (top.Import i) s = with_import k i s
with_top k other s = s

abbrev pub with_tops : Known → List Top → Imported → Imported
with_tops k [] s = s
with_tops k (t ∷ ts) s = with_tops k ts (with_top k t s)

abbrev pub nothing : Imported
nothing = record { all = false; to_string = false; equals_and_hash_code = false; tuple_constructor = false; field = false }

-- what the imports of a script make known, before and behind them
abbrev pub imported_of : Known → List Top → Imported
imported_of k tops = with_tops k tops nothing

-- an annotation is known by its name alone
abbrev pub is_imported : Imported → Transform → Bool
is_imported s transform.ToString = s.all || s.to_string
is_imported s transform.EqualsAndHashCode = s.all || s.equals_and_hash_code
is_imported s transform.TupleConstructor = s.all || s.tuple_constructor
is_imported s transform.Field = s.all || s.field
is_imported s t = true

abbrev pub if_imported : Imported → Option Transform → Option Transform
if_imported s None = None
if_imported s (Some t) = if is_imported s t then Some t else None

-- the annotation that stands behind an `@`, if it is known
abbrev pub annotation_of : Known → Imported → List Ident → Option Transform
annotation_of k s (name ∷ []) = if_imported s (named k name.name)
annotation_of k s path = named_in_full k path

-- ---- places

-- a declaration in a class declares properties: it has no access modifier, and may be static
abbrev pub declares_properties : Modifiers → Bool
declares_properties m = not (m.is_public || m.is_private || m.is_protected)

-- what an annotation of a declaration in a class stands on
abbrev pub target_of : Modifiers → Target
target_of m = if declares_properties m && not m.is_static then target.Property else target.Other

abbrev pub may_stand : Transform → Target → Bool
may_stand transform.ToString target.Class = true
may_stand transform.EqualsAndHashCode target.Class = true
may_stand transform.TupleConstructor target.Class = true
may_stand transform.Singleton target.Class = true
may_stand transform.Delegate target.Property = true
may_stand transform.Lazy target.Property = true
may_stand transform.Field target.Declaration = true
may_stand t w = false
