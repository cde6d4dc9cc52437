-- The getters and setters that conversion adds. Each definition takes what was added before, and gives it with what its tree adds.
use Rattle.std.specs.Prelude.{ℕ, Bool, true, false, List, [], ◌∷◌, ◌++◌, map, Some, None, unwrap_or, if◌then◌else◌}
use Rattle.gv_accessors.specs.declared.adding.Adding.{Adding}
use Rattle.gv_accessors.specs.declared.known.Known.{Known}
use Rattle.gv_accessors.specs.declared.property.Property.{Property}
use Rattle.gv_base.specs.Names.{name_of, text_of, with_name, accessor_text}
use Rattle.gv_base.specs.declared.refusal.Place.{Place}
use Rattle.gv_classes.specs.declared.declared.MemberKind.TheVariants as kind
use Rattle.gv_declare.specs.Members.{written_name, is_property, class_declared, all_members}
use Rattle.gv_events.specs.Events.{has_field}
use Rattle.gv_keys.specs.Keys.{key_of, is_there, with_key, with_members}
use Rattle.gv_tree.specs.declared.expr.Atom.TheVariants as atom
use Rattle.gv_tree.specs.declared.expr.Expr.{Expr}
use Rattle.gv_tree.specs.declared.expr.Expr.TheVariants as expr
use Rattle.gv_tree.specs.declared.expr.Param.{Param, roll-Param}
use Rattle.gv_tree.specs.declared.ops.AssignOp.TheVariants as assign_op
use Rattle.gv_tree.specs.declared.ops.TypeTree.{TypeTree}
use Rattle.gv_tree.specs.declared.ops.TypeTree.TheVariants as type_tree
use Rattle.gv_tree.specs.declared.ops.VarType.{VarType}
use Rattle.gv_tree.specs.declared.ops.VarType.TheVariants as written
use Rattle.gv_tree.specs.declared.stmt.Decl.{out-Decl}
use Rattle.gv_tree.specs.declared.stmt.Stmt.{Stmt}
use Rattle.gv_tree.specs.declared.stmt.Stmt.TheVariants as stmt
use Rattle.gv_tree.specs.declared.stmt.Var.{Var, out-Var}
use Rattle.gv_tree.specs.declared.top.Answer.{Answer}
use Rattle.gv_tree.specs.declared.top.Answer.TheVariants as answer
use Rattle.gv_tree.specs.declared.top.ClassTree.{ClassTree}
use Rattle.gv_tree.specs.declared.top.Member.{Member}
use Rattle.gv_tree.specs.declared.top.Member.TheVariants as member
use Rattle.gv_tree.specs.declared.top.Method.{Method}
use Rattle.gv_tree.specs.declared.top.Script.{Script}
use Rattle.gv_tree.specs.declared.top.Top.{Top}
use Rattle.gv_tree.specs.declared.top.Top.TheVariants as top

-- a table of names; the keys of a class's members
abbrev pub Table : Type 0
Table = List (List ℕ)

abbrev pub Keys : Type 0
Keys = List (List ℕ)

-- each of some, in order
abbrev pub each : {X S : Type 0} → (X → S → S) → List X → S → S
each f [] so_far = so_far
each f (x ∷ xs) so_far = each f xs (f x so_far)

-- ---- names

-- the table with the text of a property's accessor: of its setter, where it writes, and else of its getter
abbrev pub with_accessor : Bool → ℕ → Table → Table
with_accessor write property names = with_name names (accessor_text write (text_of names property))

-- its name in that table
abbrev pub accessor_name : Bool → ℕ → Table → ℕ
accessor_name write property names = unwrap_or (name_of (with_accessor write property names) (accessor_text write (text_of names property))) 0

-- ---- the trees, each part of which has the property's place

abbrev pub type_at : Place → TypeTree → TypeTree
type_at place (type_tree.Int p) = type_tree.Int place
type_at place (type_tree.Long p) = type_tree.Long place
type_at place (type_tree.Boolean p) = type_tree.Boolean place
type_at place (type_tree.Class i) = type_tree.Class (record { place = place; name = i.name })

abbrev pub written_at : Place → VarType → VarType
written_at place written.Def = written.Def
written_at place (written.Typed t) = written.Typed (type_at place t)

-- a method of one statement, static where the property is
abbrev pub accessor : Property → ℕ → Answer → List Param → Stmt → Method
accessor p name answer params s = record {
  annotations = [];
  modifiers = record { is_public = false; is_private = false; is_protected = false; is_static = p.is_static; is_final = false };
  answer = answer;
  ident = record { place = p.ident.place; name = name };
  params = params;
  body = s ∷ [];
}

-- a name as an expression
abbrev pub named : Place → ℕ → Expr
named place name = expr.Atom place (atom.Name name)

-- `T getP() { return p }`
abbrev pub getter : Property → ℕ → Method
getter p name =
    accessor p name (answer.Value (written_at p.ident.place p.written)) []
    (stmt.Return p.ident.place (Some (named p.ident.place p.ident.name)))

-- `T #v`
abbrev pub parameter : ℕ → Property → Param
parameter value p = roll-Param (record {
  ident = record { place = p.ident.place; name = value };
  is_final = false;
  written = Some (written_at p.ident.place p.written);
  is_rest = false;
  initial = None;
})

-- `void setP(T #v) { p = #v }`
abbrev pub setter : ℕ → Property → ℕ → Method
setter value p name =
    accessor p name answer.Void (parameter value p ∷ [])
    (stmt.Expr (expr.Assign p.ident.place assign_op.Plain (named p.ident.place p.ident.name) (named p.ident.place value)))

-- ---- what is added to a class

-- a method is added where the class has none of its name and its parameters' types
abbrev pub added_unless_there : List ℕ → Method → Adding → Adding
added_unless_there key m a = record {
  keys = with_key a.keys key;
  added = if is_there a.keys key then a.added else a.added ++ m ∷ [];
}

-- a table of names, and what was added so far
abbrev pub State : Type 0
State = Table × Adding

abbrev pub getter_added : Property → State → State
getter_added p so_far =
    let name = accessor_name false p.ident.name so_far.0 in
    (with_accessor false p.ident.name so_far.0, added_unless_there (key_of kind.Method name 0 []) (getter p name) so_far.1)

abbrev pub setter_added : Known → Property → State → State
setter_added k p so_far =
    let name = accessor_name true p.ident.name so_far.0 in
    (with_accessor true p.ident.name so_far.0, added_unless_there (key_of kind.Method name 0 (written_name k.declare p.written ∷ [])) (setter k.value p name) so_far.1)

-- a final property has no setter
abbrev pub property_added : Known → Property → State → State
property_added k p so_far = if p.is_final then getter_added p so_far else setter_added k p (getter_added p so_far)

abbrev pub property_of : VarType → Bool → Bool → Var → Property
property_of w is_static is_final v = record { ident = (out-Var v).ident; written = w; is_static = is_static; is_final = is_final }

abbrev pub vars_added : Known → VarType → Bool → Bool → List Var → State → State
vars_added k w is_static is_final vars so_far = each (λ v. property_added k (property_of w is_static is_final v)) vars so_far

-- ---- classes

abbrev pub member_added : Known → Member → State → State
member_added k (member.Field f) so_far =
    if is_property f.modifiers then vars_added k f.written f.modifiers.is_static f.modifiers.is_final f.vars so_far else so_far
member_added k other so_far = so_far

-- a class's accessors stand behind its other members
abbrev pub class_added : Known → ClassTree → Table → State
class_added k c names = each (member_added k) c.members (names, record { keys = with_members [] (class_declared k.declare c).members; added = [] })

abbrev pub class_converted : Known → ClassTree → Table → Table × ClassTree
class_converted k c names =
    let s = class_added k c names in
    (s.0, record c { members = c.members ++ map (λ m. member.Method m) s.1.added })

-- ---- scripts

-- the tops of a script with its classes converted, behind those before
abbrev pub top_converted : Known → Top → Table × List Top → Table × List Top
top_converted k (top.Class c) so_far =
    let s = class_converted k c so_far.0 in
    (s.0, so_far.1 ++ top.Class s.1 ∷ [])
top_converted k other so_far = (so_far.0, so_far.1 ++ other ∷ [])

abbrev pub tops_converted : Known → List Top → Table → Table × List Top
tops_converted k tops names = each (top_converted k) tops (names, [])

-- the variables of a declaration with `@Field` are properties of the script's class
abbrev pub top_added : Known → Top → State → State
top_added k (top.Decl notes d) so_far =
    if has_field k.words notes then vars_added k (out-Decl d).written false (out-Decl d).is_final (out-Decl d).vars so_far else so_far
top_added k other so_far = so_far

abbrev pub fields_added : Known → List Top → Keys → Table → State
fields_added k tops keys names = each (top_added k) tops (names, record { keys = keys; added = [] })

-- their accessors stand behind all else of the script; the keys are those of the script's class by then
abbrev pub script_converted : Known → Script → Keys → Table → Table × (Keys × Script)
script_converted k script keys names =
    let s = tops_converted k script.tops names in
    let a = fields_added k s.1 keys s.0 in
    (a.0, (a.1.keys, record { tops = s.1 ++ map (λ m. top.Method m) a.1.added }))

-- scripts that are converted, and what the next one goes on with
pub record Converted : Type 0 where
  pub names : Table
  pub keys : Keys
  pub scripts : List Script

abbrev pub next_converted : Known → Script → Converted → Converted
next_converted k script so_far =
    let s = script_converted k script so_far.keys so_far.names in
    record { names = s.0; keys = s.1.0; scripts = so_far.scripts ++ s.1.1 ∷ [] }

-- the scripts' methods, of all files, are those of one class
abbrev pub script_keys : Known → List Script → Keys
script_keys k scripts = with_members [] (all_members k.declare k.words scripts)

abbrev pub converted : Known → Table → List Script → Converted
converted k names scripts = each (next_converted k) scripts (record { names = names; keys = script_keys k scripts; scripts = [] })
