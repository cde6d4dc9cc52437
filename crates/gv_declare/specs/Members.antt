-- What the classes of a script declare. Each definition puts what its tree declares behind what was declared before.
use Rattle.std.specs.Prelude.{ℕ, zero, suc, ◌+◌, ◌-◌, ◌==◌, ◌||◌, Bool, false, not, List, [], ◌∷◌, ◌++◌, map, Option, if◌then◌else◌}
use Rattle.std.specs.List.{list_any}
use Rattle.std.specs.Option.{option_map_or, is_some}
use Rattle.gv_classes.specs.declared.declared.Declared.{Declared}
use Rattle.gv_classes.specs.declared.declared.Member.{Member}
use Rattle.gv_classes.specs.declared.declared.MemberKind.{MemberKind}
use Rattle.gv_classes.specs.declared.declared.MemberKind.TheVariants as kind
use Rattle.gv_classes.specs.declared.declared.TheConstants.{STATIC, FINAL, PRIVATE, PROPERTY, REST}
use Rattle.gv_declare.specs.declared.known.Known.{Known}
use Rattle.gv_events.specs.Events.{has_field}
use Rattle.gv_events.specs.declared.words.Words.{Words}
use Rattle.gv_tree.specs.declared.expr.Param.{Param, out-Param}
use Rattle.gv_tree.specs.declared.ops.Ident.{Ident}
use Rattle.gv_tree.specs.declared.ops.Modifiers.{Modifiers}
use Rattle.gv_tree.specs.declared.ops.TypeTree.{TypeTree}
use Rattle.gv_tree.specs.declared.ops.TypeTree.TheVariants as type_tree
use Rattle.gv_tree.specs.declared.ops.VarType.{VarType}
use Rattle.gv_tree.specs.declared.ops.VarType.TheVariants as written
use Rattle.gv_tree.specs.declared.stmt.Decl.{Decl, out-Decl}
use Rattle.gv_tree.specs.declared.stmt.Var.{Var, out-Var}
use Rattle.gv_tree.specs.declared.top.ClassTree.{ClassTree}
use Rattle.gv_tree.specs.declared.top.Constructor.{Constructor}
use Rattle.gv_tree.specs.declared.top.Member.{Member as MemberTree}
use Rattle.gv_tree.specs.declared.top.Member.TheVariants as member
use Rattle.gv_tree.specs.declared.top.Method.{Method}
use Rattle.gv_tree.specs.declared.top.Script.{Script}
use Rattle.gv_tree.specs.declared.top.Top.{Top}
use Rattle.gv_tree.specs.declared.top.Top.TheVariants as top

-- what was declared so far, and with what is declared next
abbrev pub Made : Type 0
Made = List Member → List Member

abbrev pub put : {Y : Type 0} → Y → List Y → List Y
put y so_far = so_far ++ y ∷ []

-- each of some, in order
abbrev pub each : {X Y : Type 0} → (X → List Y → List Y) → List X → List Y → List Y
each f [] so_far = so_far
each f (x ∷ xs) so_far = each f xs (f x so_far)

-- ---- types, by their names

-- int, long and boolean are Integer, Long and Boolean; def and no type are Object
abbrev pub type_name : Known → TypeTree → ℕ
type_name k (type_tree.Int p) = k.integer
type_name k (type_tree.Long p) = k.long
type_name k (type_tree.Boolean p) = k.boolean
type_name k (type_tree.Class name) = name.name

abbrev pub written_name : Known → VarType → ℕ
written_name k written.Def = k.object
written_name k (written.Typed t) = type_name k t

abbrev pub param_type : Known → Param → ℕ
param_type k x = option_map_or (written_name k) (out-Param x).written k.object

-- ---- parameters with defaults

abbrev pub has_default : Param → Bool
has_default x = is_some (out-Param x).initial

-- how many there are
abbrev pub defaults : List Param → ℕ
defaults [] = 0
defaults (x ∷ xs) = if has_default x then suc (defaults xs) else defaults xs

-- the parameters without defaults, and the first n of those with one
abbrev pub kept : ℕ → List Param → List Param
kept n [] = []
kept n (x ∷ xs) = if has_default x then (if n == 0 then kept 0 xs else x ∷ kept (n - 1) xs) else x ∷ kept n xs

abbrev pub param_types : Known → ℕ → List Param → List ℕ
param_types k n params = map (param_type k) (kept n params)

abbrev pub has_rest : ℕ → List Param → Bool
has_rest n params = list_any (λ x. (out-Param x).is_rest) (kept n params)

-- ---- methods and constructors

abbrev pub flag : Bool → ℕ → ℕ
flag b n = if b then n else 0

abbrev pub method_flags : Modifiers → Bool → ℕ
method_flags m rest = flag m.is_static STATIC + flag m.is_final FINAL + flag m.is_private PRIVATE + flag rest REST

-- the one with the first n of its defaults
abbrev pub version : Known → MemberKind → Ident → Modifiers → List Param → ℕ → Member
version k what i m params n = record {
  name = i.name;
  types = param_types k n params;
  kind = what;
  flags = method_flags m (has_rest n params);
  place = i.place;
}

-- one with all its parameters, and for each default, from the right, one more without its parameter
abbrev pub versions : (ℕ → Member) → ℕ → Made
versions f zero so_far = put (f 0) so_far
versions f (suc n) so_far = versions f n (put (f (suc n)) so_far)

abbrev pub method_members : Known → Method → Made
method_members k m so_far = versions (version k kind.Method m.ident m.modifiers m.params) (defaults m.params) so_far

abbrev pub constructor_members : Known → Constructor → Made
constructor_members k c so_far = versions (version k kind.Constructor c.ident c.modifiers c.params) (defaults c.params) so_far

-- ---- fields

-- a declaration in a class declares properties where it has no access modifier
abbrev pub is_property : Modifiers → Bool
is_property m = not (m.is_public || m.is_private || m.is_protected)

abbrev pub field_flags : Modifiers → ℕ
field_flags m = flag m.is_static STATIC + flag m.is_final FINAL + flag m.is_private PRIVATE + flag (is_property m) PROPERTY

abbrev pub field_made : Known → VarType → ℕ → Var → Member
field_made k w flags v = record {
  name = (out-Var v).ident.name;
  types = written_name k w ∷ [];
  kind = kind.Field;
  flags = flags;
  place = (out-Var v).ident.place;
}

abbrev pub field_members : Known → VarType → ℕ → List Var → Made
field_members k w flags vars so_far = each (λ v. put (field_made k w flags v)) vars so_far

-- ---- classes

abbrev pub member_members : Known → MemberTree → Made
member_members k (member.Method m) so_far = method_members k m so_far
member_members k (member.Constructor c) so_far = constructor_members k c so_far
member_members k (member.Field f) so_far = field_members k f.written (field_flags f.modifiers) f.vars so_far

-- the superclass is Object where none is written
abbrev pub above : Known → Option Ident → ℕ
above k superclass = option_map_or (λ i. i.name) superclass k.object

abbrev pub intercepts : Known → Option Ident → Bool
intercepts k interface = option_map_or (λ i. i.name == k.interceptable) interface false

abbrev pub class_declared : Known → ClassTree → Declared
class_declared k c = record {
  name = c.ident.name;
  above = above k c.superclass;
  intercepts = intercepts k c.interface;
  place = c.ident.place;
  members = each (member_members k) c.members [];
}

-- ---- scripts

-- the variables of a declaration with `@Field` are properties of the script's class
abbrev pub decl_flags : Decl → ℕ
decl_flags d = flag (out-Decl d).is_final FINAL + PROPERTY

-- what stands at the top of a script declares members of the script's class
abbrev pub top_members : Known → Words → Top → Made
top_members k words (top.Method m) so_far = method_members k m so_far
top_members k words (top.Decl notes d) so_far =
    if has_field words notes then field_members k (out-Decl d).written (decl_flags d) (out-Decl d).vars so_far else so_far
top_members k words other so_far = so_far

abbrev pub script_members : Known → Words → List Top → Made
script_members k words tops so_far = each (top_members k words) tops so_far

-- the script's class, of all its files' members
abbrev pub script_declared : Known → List Member → Declared
script_declared k members = record {
  name = k.script;
  above = k.object;
  intercepts = false;
  place = record { file = 0; line = 1; column = 1 };
  members = members;
}

-- a class at the top of a script, and all of them
abbrev pub top_class : Known → Top → List Declared → List Declared
top_class k (top.Class c) so_far = put (class_declared k c) so_far
top_class k other so_far = so_far

abbrev pub classes_declared : Known → List Top → List Declared → List Declared
classes_declared k tops so_far = each (top_class k) tops so_far

-- of all scripts
abbrev pub all_members : Known → Words → List Script → List Member
all_members k words scripts = each (λ s. script_members k words s.tops) scripts []

abbrev pub scripts_classes : Known → List Script → List Declared → List Declared
scripts_classes k scripts so_far = each (λ s. classes_declared k s.tops) scripts so_far

-- the script's class, and behind it each class of each script
abbrev pub all_declared : Known → Words → List Script → List Declared
all_declared k words scripts = scripts_classes k scripts (script_declared k (all_members k words scripts) ∷ [])
