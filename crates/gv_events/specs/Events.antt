-- What a script says, in reading order. Each definition puts what its tree says behind what was said before it.
use Rattle.std.specs.Prelude.{ℕ, zero, suc, ◌==◌, ◌&&◌, ◌||◌, Bool, true, false, List, [], ◌∷◌, ◌++◌, Option, Some, None, if◌then◌else◌}
use Rattle.std.specs.List.{list_any}
use Rattle.gv_base.specs.declared.refusal.Place.{Place}
use Rattle.gv_tree.specs.declared.expr.Arg.{Arg, out-Arg}
use Rattle.gv_tree.specs.declared.expr.Arg.TheOpen.{Arg-F, Closure-F, Entry-F, Expr-F, Item-F, Key-F, Label-F, Stmt-F}
use Rattle.gv_tree.specs.declared.expr.Atom.{Atom}
use Rattle.gv_tree.specs.declared.expr.Atom.TheVariants as atom
use Rattle.gv_tree.specs.declared.expr.Closure.{Closure, out-Closure}
use Rattle.gv_tree.specs.declared.expr.Entry.{Entry, out-Entry}
use Rattle.gv_tree.specs.declared.expr.Expr.{Expr, out-Expr}
use Rattle.gv_tree.specs.declared.expr.GString.{GString, out-GString}
use Rattle.gv_tree.specs.declared.expr.Item.{Item, out-Item}
use Rattle.gv_tree.specs.declared.expr.Key.{Key, out-Key}
use Rattle.gv_tree.specs.declared.expr.Label.{Label, out-Label}
use Rattle.gv_tree.specs.declared.expr.Param.{Param, out-Param}
use Rattle.gv_tree.specs.declared.expr.Part.{Part, out-Part}
use Rattle.gv_tree.specs.declared.ops.Ident.{Ident}
use Rattle.gv_tree.specs.declared.ops.MemberOp.{MemberOp}
use Rattle.gv_tree.specs.declared.ops.MemberOp.TheVariants as member_op
use Rattle.gv_tree.specs.declared.ops.TypeTree.{TypeTree}
use Rattle.gv_tree.specs.declared.ops.TypeTree.TheVariants as type_tree
use Rattle.gv_tree.specs.declared.ops.VarType.{VarType}
use Rattle.gv_tree.specs.declared.ops.VarType.TheVariants as written
use Rattle.gv_tree.specs.declared.stmt.Case.{Case, out-Case}
use Rattle.gv_tree.specs.declared.stmt.Catch.{Catch, out-Catch}
use Rattle.gv_tree.specs.declared.stmt.Decl.{Decl, out-Decl}
use Rattle.gv_tree.specs.declared.stmt.Stmt.{Stmt, out-Stmt}
use Rattle.gv_tree.specs.declared.stmt.Var.{Var, out-Var}
use Rattle.gv_tree.specs.declared.top.Annotation.{Annotation}
use Rattle.gv_tree.specs.declared.top.Answer.{Answer}
use Rattle.gv_tree.specs.declared.top.Answer.TheVariants as answer
use Rattle.gv_tree.specs.declared.top.ClassTree.{ClassTree}
use Rattle.gv_tree.specs.declared.top.Constructor.{Constructor}
use Rattle.gv_tree.specs.declared.top.Field.{Field}
use Rattle.gv_tree.specs.declared.top.Member.{Member}
use Rattle.gv_tree.specs.declared.top.Member.TheVariants as member
use Rattle.gv_tree.specs.declared.top.Method.{Method}
use Rattle.gv_tree.specs.declared.top.Script.{Script}
use Rattle.gv_tree.specs.declared.top.Top.{Top}
use Rattle.gv_tree.specs.declared.top.Top.TheVariants as top
use Rattle.gv_events.specs.declared.event.Event.{Event}
use Rattle.gv_events.specs.declared.event.Event.TheVariants.{Open, Close, OpenClass, CloseClass, Declare, Parameter, Implicit, Use, UseOfThis, Class as Named, Leave, This, SuperCall, OutOfPlace}
use Rattle.gv_events.specs.declared.event.Scope.{Scope}
use Rattle.gv_events.specs.declared.event.Scope.TheVariants as scope
use Rattle.gv_events.specs.declared.words.Words.{Words}

-- what was said so far, and with what is said next
abbrev pub Said : Type 0
Said = List Event → List Event

abbrev pub say : Event → Said
say e so_far = so_far ++ e ∷ []

-- each of some, in order; one that may be left out; one in a scope of its own
abbrev pub each : {X : Type 0} → (X → Said) → List X → Said
each f [] so_far = so_far
each f (x ∷ xs) so_far = each f xs (f x so_far)

abbrev pub if_there : {X : Type 0} → (X → Said) → Option X → Said
if_there f None so_far = so_far
if_there f (Some x) so_far = f x so_far

abbrev pub inside : Scope → Said → Said
inside s f so_far = say Close (f (say (Open s) so_far))

-- ---- annotations

-- the names between the dots are these
abbrev pub path_is : List ℕ → List Ident → Bool
path_is [] [] = true
path_is (n ∷ ns) (i ∷ is) = n == i.name && path_is ns is
path_is ns is = false

-- `@Field`, with its package or without
abbrev pub is_field : Words → Annotation → Bool
is_field w a = path_is (w.field ∷ []) a.path || path_is (w.groovy ∷ w.transform ∷ w.field ∷ []) a.path

-- a declaration at the top with one of these annotations declares fields of the script
abbrev pub has_field : Words → List Annotation → Bool
has_field w annotations = list_any (is_field w) annotations

-- ---- types

abbrev pub type_said : TypeTree → Said
type_said (type_tree.Class name) so_far = say (Named name) so_far
type_said t so_far = so_far

abbrev pub written_said : VarType → Said
written_said written.Def so_far = so_far
written_said (written.Typed t) so_far = type_said t so_far

abbrev pub answer_said : Answer → Said
answer_said answer.Void so_far = so_far
answer_said (answer.Value w) so_far = written_said w so_far

-- ---- expressions

abbrev pub Layer : Type 0
Layer = Expr-F Arg Closure Entry Expr Item Key Label Stmt GString Param Part Case Catch Decl Var

abbrev pub atom_said : Place → Atom → Said
atom_said p (atom.Name name) so_far = say (Use (record { place = p; name = name })) so_far
atom_said p atom.This so_far = say (This p) so_far
atom_said p atom.Super so_far = say (OutOfPlace p) so_far
atom_said p a so_far = so_far

-- the place of `super` before a `.`, of `this` or `super` that is called
abbrev pub super_in : MemberOp → Layer → Option Place
super_in member_op.Dot (Expr-F.Atom p atom.Super) = Some p
super_in op x = None

-- whether a member of `this` is named, by `.` or `.@`
abbrev pub is_this : Layer → Bool
is_this (Expr-F.Atom p atom.This) = true
is_this x = false

abbrev pub is_of_this : MemberOp → Layer → Bool
is_of_this member_op.Dot x = is_this x
is_of_this op x = false

abbrev pub own_said : Bool → Ident → Said
own_said true name so_far = say (UseOfThis name) so_far
own_said false name so_far = so_far

-- a member that is named by a name
abbrev pub member_in : Bool → Label-F Arg Closure Entry Expr Item Key Label Stmt GString Param Part Case Catch Decl Var → Said
member_in of_this (Label-F.Name name) so_far = own_said of_this name so_far
member_in of_this other so_far = so_far

abbrev pub constructor_in : Layer → Option Place
constructor_in (Expr-F.Atom p atom.This) = Some p
constructor_in (Expr-F.Atom p atom.Super) = Some p
constructor_in x = None

abbrev pub method_scope : Bool → Scope
method_scope is_static = if is_static then scope.StaticMethod else scope.Method

abbrev pub field_scope : Bool → Scope
field_scope is_static = if is_static then scope.StaticField else scope.Field

abbrev pub name_said : Ident → Said
name_said name so_far = say (Declare name) so_far

module _ (it : ℕ) (expr : Expr → Said) (stmt : Stmt → Said) where
  abbrev pub part_said : Part → Said
  part_said part so_far = expr (out-Part part).value so_far

  abbrev pub gstring_said : GString → Said
  gstring_said g so_far = each part_said (out-GString g).parts so_far

  abbrev pub label_in : Label-F Arg Closure Entry Expr Item Key Label Stmt GString Param Part Case Catch Decl Var → Said
  label_in (Label-F.«Label::GString» p g) so_far = gstring_said g so_far
  label_in other so_far = so_far

  abbrev pub label_said : Label → Said
  label_said l so_far = label_in (out-Label l) so_far

  abbrev pub key_in : Key-F Arg Closure Entry Expr Item Key Label Stmt GString Param Part Case Catch Decl Var → Said
  key_in (Key-F.Label l) so_far = label_said l so_far
  key_in other so_far = so_far

  abbrev pub key_said : Key → Said
  key_said k so_far = key_in (out-Key k) so_far

  abbrev pub item_in : Item-F Arg Closure Entry Expr Item Key Label Stmt GString Param Part Case Catch Decl Var → Said
  item_in (Item-F.«Item::Plain» x) so_far = expr x so_far
  item_in (Item-F.«Item::Spread» p x) so_far = expr x so_far

  abbrev pub item_said : Item → Said
  item_said i so_far = item_in (out-Item i) so_far

  abbrev pub entry_in : Entry-F Arg Closure Entry Expr Item Key Label Stmt GString Param Part Case Catch Decl Var → Said
  entry_in (Entry-F.«Entry::Keyed» k x) so_far = expr x (key_said k so_far)
  entry_in (Entry-F.Computed p k x) so_far = expr x (expr k so_far)
  entry_in (Entry-F.«Entry::Spread» p x) so_far = expr x so_far

  abbrev pub entry_said : Entry → Said
  entry_said e so_far = entry_in (out-Entry e) so_far

  abbrev pub arg_in : Arg-F Arg Closure Entry Expr Item Key Label Stmt GString Param Part Case Catch Decl Var → Said
  arg_in (Arg-F.«Arg::Plain» x) so_far = expr x so_far
  arg_in (Arg-F.«Arg::Keyed» k x) so_far = expr x (key_said k so_far)
  arg_in (Arg-F.«Arg::Spread» p x) so_far = expr x so_far
  arg_in (Arg-F.SpreadMap p x) so_far = expr x so_far

  abbrev pub arg_said : Arg → Said
  arg_said a so_far = arg_in (out-Arg a) so_far

  abbrev pub args_said : List Arg → Said
  args_said args so_far = each arg_said args so_far

  -- a name is held from behind its own initial value on
  abbrev pub param_said : Param → Said
  param_said x so_far = say (Parameter (out-Param x).ident) (if_there expr (out-Param x).initial (if_there written_said (out-Param x).written so_far))

  -- a closure without a parameter list has `it`
  abbrev pub params_said : Option (List Param) → Said
  params_said None so_far = say (Implicit it) so_far
  params_said (Some params) so_far = each param_said params so_far

  abbrev pub body_in : Closure-F Arg Closure Entry Expr Item Key Label Stmt GString Param Part Case Catch Decl Var → Said
  body_in (Closure-F.Read params stmts) so_far = each stmt stmts (params_said params so_far)
  body_in (Closure-F.Unread from to) so_far = say (Implicit it) so_far

  abbrev pub closure_said : Closure → Said
  closure_said c so_far = inside scope.Closure (body_in (out-Closure c)) so_far

  -- the receiver of a call; what is called
  abbrev pub receiver_said : Option Place → Expr → Said
  receiver_said (Some p) x so_far = say (SuperCall p) so_far
  receiver_said None x so_far = expr x so_far

  abbrev pub callee_said : Option Place → Expr → Layer → Said
  callee_said (Some p) x layer so_far = say (OutOfPlace p) so_far
  callee_said None x (Expr-F.Member p op y l) so_far = label_said l (receiver_said (super_in op (out-Expr y)) y so_far)
  callee_said None x layer so_far = expr x so_far

  abbrev pub expr_in : Layer → Said
  expr_in (Expr-F.Atom p a) so_far = atom_said p a so_far
  expr_in (Expr-F.«Expr::GString» p g) so_far = gstring_said g so_far
  expr_in (Expr-F.Paren p x) so_far = expr x so_far
  expr_in (Expr-F.List p items) so_far = each item_said items so_far
  expr_in (Expr-F.Map p entries) so_far = each entry_said entries so_far
  expr_in (Expr-F.Closure p c) so_far = closure_said c so_far
  expr_in (Expr-F.New p name args) so_far = args_said args (say (Named name) so_far)
  expr_in (Expr-F.Unary p op x) so_far = expr x so_far
  expr_in (Expr-F.Binary p op x y) so_far = expr y (expr x so_far)
  expr_in (Expr-F.Typed p op x t) so_far = type_said t (expr x so_far)
  expr_in (Expr-F.Choice p x y z) so_far = expr z (if_there expr y (expr x so_far))
  expr_in (Expr-F.Assign p op x y) so_far = expr y (expr x so_far)
  expr_in (Expr-F.Member p op x l) so_far = member_in (is_of_this op (out-Expr x)) (out-Label l) (label_said l (expr x so_far))
  expr_in (Expr-F.Field p x name) so_far = own_said (is_this (out-Expr x)) name (expr x so_far)
  expr_in (Expr-F.Index p x xs) so_far = each expr xs (expr x so_far)
  expr_in (Expr-F.Call p x args) so_far = args_said args (callee_said (constructor_in (out-Expr x)) x (out-Expr x) so_far)

  -- ---- statements

  -- a name is held from behind its own initial value on
  abbrev pub var_said : Var → Said
  var_said v so_far = say (Declare (out-Var v).ident) (if_there expr (out-Var v).initial so_far)

  abbrev pub decl_said : Decl → Said
  decl_said d so_far = each var_said (out-Decl d).vars (written_said (out-Decl d).written so_far)

  abbrev pub block_said : List Stmt → Said
  block_said stmts so_far = inside scope.Block (each stmt stmts) so_far

  abbrev pub branch_said : Stmt → Said
  branch_said s so_far = inside scope.Block (stmt s) so_far

  abbrev pub case_said : Case → Said
  case_said c so_far = block_said (out-Case c).body (if_there expr (out-Case c).value so_far)

  abbrev pub catch_said : Catch → Said
  catch_said c so_far = inside scope.Block (λ so_far. each stmt (out-Catch c).body (say (Declare (out-Catch c).ident) so_far)) (each type_said (out-Catch c).types so_far)

  abbrev pub stmt_in : Stmt-F Arg Closure Entry Expr Item Key Label Stmt GString Param Part Case Catch Decl Var → Said
  stmt_in (Stmt-F.Decl d) so_far = decl_said d so_far
  stmt_in (Stmt-F.Multiple p names x) so_far = each name_said names (expr x so_far)
  stmt_in (Stmt-F.Expr x) so_far = expr x so_far
  stmt_in (Stmt-F.Block p stmts) so_far = block_said stmts so_far
  stmt_in (Stmt-F.If p x s t) so_far = if_there branch_said t (branch_said s (expr x so_far))
  stmt_in (Stmt-F.While p x s) so_far = inside scope.Loop (stmt s) (expr x so_far)
  stmt_in (Stmt-F.ForIn p w name x s) so_far = inside scope.Loop (λ so_far. branch_said s (say (Declare name) (if_there written_said w so_far))) (expr x so_far)
  stmt_in (Stmt-F.For p first test step s) so_far = inside scope.Loop (λ so_far. branch_said s (if_there expr step (if_there expr test (if_there stmt first so_far)))) so_far
  stmt_in (Stmt-F.Switch p x cases) so_far = inside scope.Switch (each case_said cases) (expr x so_far)
  stmt_in (Stmt-F.Try p stmts catches last) so_far = if_there block_said last (each catch_said catches (block_said stmts so_far))
  stmt_in (Stmt-F.Throw p x) so_far = expr x so_far
  stmt_in (Stmt-F.Return p x) so_far = if_there expr x so_far
  stmt_in (Stmt-F.Leave p l) so_far = say (Leave p l) so_far
  stmt_in (Stmt-F.Assert p x message) so_far = if_there expr message (expr x so_far)

  -- the call that begins a constructor
  abbrev pub first_in : Option Place → Expr → List Arg → Said
  first_in (Some p) x args so_far = args_said args so_far
  first_in None x args so_far = expr x so_far

  abbrev pub first_expr_said : Expr → Layer → Said
  first_expr_said x (Expr-F.Call p y args) so_far = first_in (constructor_in (out-Expr y)) x args so_far
  first_expr_said x layer so_far = expr x so_far

  abbrev pub first_stmt_said : Stmt → Stmt-F Arg Closure Entry Expr Item Key Label Stmt GString Param Part Case Catch Decl Var → Said
  first_stmt_said s (Stmt-F.Expr x) so_far = first_expr_said x (out-Expr x) so_far
  first_stmt_said s layer so_far = stmt s so_far

  abbrev pub constructed_said : List Stmt → Said
  constructed_said [] so_far = so_far
  constructed_said (s ∷ stmts) so_far = each stmt stmts (first_stmt_said s (out-Stmt s) so_far)

  -- ---- methods, classes, scripts

  abbrev pub method_said : Method → Said
  method_said m so_far = inside (method_scope m.modifiers.is_static) (λ so_far. each stmt m.body (each param_said m.params so_far)) (answer_said m.answer so_far)

  abbrev pub constructor_said : Constructor → Said
  constructor_said c so_far = inside scope.Constructor (λ so_far. constructed_said c.body (each param_said c.params so_far)) so_far

  abbrev pub field_var_said : Var → Said
  field_var_said v so_far = if_there expr (out-Var v).initial so_far

  abbrev pub field_said : Bool → VarType → List Var → Said
  field_said is_static w vars so_far = inside (field_scope is_static) (each field_var_said vars) (written_said w so_far)

  abbrev pub class_member_said : Member → Said
  class_member_said (member.Method m) so_far = method_said m so_far
  class_member_said (member.Constructor c) so_far = constructor_said c so_far
  class_member_said (member.Field f) so_far = field_said f.modifiers.is_static f.written f.vars so_far

  abbrev pub class_said : ClassTree → Said
  class_said c so_far = say CloseClass (each class_member_said c.members (say (OpenClass c.ident) so_far))

  module _ (words : Words) where
    -- the statements of a script, which share a scope
    abbrev pub statement_said : Top → Said
    statement_said (top.Stmt s) so_far = stmt s so_far
    statement_said (top.Decl notes d) so_far = if has_field words notes then so_far else decl_said d so_far
    statement_said other so_far = so_far

    -- what else stands at the top
    abbrev pub other_said : Top → Said
    other_said (top.Class c) so_far = class_said c so_far
    other_said (top.Method m) so_far = method_said m so_far
    other_said (top.Decl notes d) so_far = if has_field words notes then field_said false (out-Decl d).written (out-Decl d).vars so_far else so_far
    other_said other so_far = so_far

    abbrev pub tops_said : List Top → Said
    tops_said tops so_far = each other_said tops (inside scope.Script (each statement_said tops) so_far)

-- ---- trees of any depth

-- as deep as `n` expressions and statements may stand in one another
module _ (it : ℕ) where
  abbrev pub tree_said : ℕ → (Expr → Said) × (Stmt → Said)
  tree_said zero = (λ x so_far. so_far, λ s so_far. so_far)
  tree_said (suc n) = (λ x so_far. expr_in it (tree_said n).0 (tree_said n).1 (out-Expr x) so_far, λ s so_far. stmt_in it (tree_said n).0 (tree_said n).1 (out-Stmt s) so_far)

  abbrev pub expr_said : ℕ → Expr → Said
  expr_said n = (tree_said n).0

  abbrev pub stmt_said : ℕ → Stmt → Said
  stmt_said n = (tree_said n).1

-- the levels that a tree of the grammar has at most, three for each of the 300 that may be open at a place, and some
abbrev pub most_levels : ℕ
most_levels = 1000

-- what a script says
abbrev pub events_of : Words → Script → List Event
events_of words script = tops_said words.it (expr_said words.it most_levels) (stmt_said words.it most_levels) words script.tops []
