-- The text of a script's tree. Each definition puts what its tree prints behind what was printed before it; `indent` is the level
-- at which its statement or member stands.
use Rattle.std.specs.Prelude.{ℕ, zero, suc, ◌==◌, Bool, true, false, List, [], ◌++◌, codes, length, Option, Some, None, if◌then◌else◌}
use Rattle.gv_base.specs.Names.{text_of}
use Rattle.gv_tree.specs.declared.expr.Arg.{Arg, out-Arg}
use Rattle.gv_tree.specs.declared.expr.Arg.TheOpen.{Arg-F, Closure-F, Entry-F, Expr-F, Item-F, Key-F, Label-F, Stmt-F}
use Rattle.gv_tree.specs.declared.expr.Atom.TheVariants as atom
use Rattle.gv_tree.specs.declared.expr.Closure.{Closure, out-Closure}
use Rattle.gv_tree.specs.declared.expr.Entry.{Entry, out-Entry}
use Rattle.gv_tree.specs.declared.expr.Expr.{Expr, out-Expr}
use Rattle.gv_tree.specs.declared.expr.GString.{GString, out-GString}
use Rattle.gv_tree.specs.declared.expr.Item.{Item, out-Item}
use Rattle.gv_tree.specs.declared.expr.Key.{Key, out-Key}
use Rattle.gv_tree.specs.declared.expr.Label.{Label, out-Label}
use Rattle.gv_tree.specs.declared.expr.Param.{Param, out-Param}
use Rattle.gv_tree.specs.declared.expr.Part.{Part, out-Part}
use Rattle.gv_tree.specs.declared.ops.Ident.{Ident}
use Rattle.gv_tree.specs.declared.ops.UnaryOp.{UnaryOp}
use Rattle.gv_tree.specs.declared.ops.VarType.{VarType}
use Rattle.gv_tree.specs.declared.stmt.Case.{Case, out-Case}
use Rattle.gv_tree.specs.declared.stmt.Catch.{Catch, out-Catch}
use Rattle.gv_tree.specs.declared.stmt.Decl.{Decl, out-Decl}
use Rattle.gv_tree.specs.declared.stmt.Stmt.{Stmt, out-Stmt}
use Rattle.gv_tree.specs.declared.stmt.Var.{Var, out-Var}
use Rattle.gv_tree.specs.declared.top.Annotation.{Annotation}
use Rattle.gv_tree.specs.declared.top.ClassTree.{ClassTree}
use Rattle.gv_tree.specs.declared.top.Constructor.{Constructor}
use Rattle.gv_tree.specs.declared.top.Field.{Field}
use Rattle.gv_tree.specs.declared.top.Import.{Import}
use Rattle.gv_tree.specs.declared.top.Member.{Member}
use Rattle.gv_tree.specs.declared.top.Member.TheVariants as member
use Rattle.gv_tree.specs.declared.top.Method.{Method}
use Rattle.gv_tree.specs.declared.top.Script.{Script}
use Rattle.gv_tree.specs.declared.top.Setting.{Setting}
use Rattle.gv_tree.specs.declared.top.Top.{Top}
use Rattle.gv_tree.specs.declared.top.Top.TheVariants as top
use Rattle.gv_print.specs.declared.strings.Quotes.TheVariants as quotes
use Rattle.gv_print.specs.Texts.{Printed, each, if_there, put_if, parted, listed, new_line, deeper, chars_printed, string_printed, unary_text, binary_text, type_op_text, assign_text, member_text, leave_text, is_behind, begins_with_sign, gap, ident_printed, atom_printed, type_printed, written_printed, answer_printed, param_type_printed, loop_type_printed, types_printed, modifiers_printed}

abbrev pub Layer : Type 0
Layer = Expr-F Arg Closure Entry Expr Item Key Label Stmt GString Param Part Case Catch Decl Var

abbrev pub StmtLayer : Type 0
StmtLayer = Stmt-F Arg Closure Entry Expr Item Key Label Stmt GString Param Part Case Catch Decl Var

-- whether the text of an expression begins with a digit or a sign
abbrev pub begins_signed_in : (Expr → Bool) → Layer → Bool
begins_signed_in begins (Expr-F.Atom p (atom.Int n)) = true
begins_signed_in begins (Expr-F.Atom p (atom.Long n)) = true
begins_signed_in begins (Expr-F.Unary p op x) = if is_behind op then begins x else begins_with_sign op
begins_signed_in begins (Expr-F.Binary p op x y) = begins x
begins_signed_in begins (Expr-F.Typed p op x t) = begins x
begins_signed_in begins (Expr-F.Choice p x y z) = begins x
begins_signed_in begins (Expr-F.Assign p op x y) = begins x
begins_signed_in begins (Expr-F.Member p op x l) = begins x
begins_signed_in begins (Expr-F.Field p x name) = begins x
begins_signed_in begins (Expr-F.Index p x xs) = begins x
begins_signed_in begins (Expr-F.Call p x args) = begins x
begins_signed_in begins layer = false

abbrev pub begins_signed : ℕ → Expr → Bool
begins_signed zero x = false
begins_signed (suc n) x = begins_signed_in (begins_signed n) (out-Expr x)

-- of trees of some depth: whether the text of one begins with a digit or a sign, and what one prints
pub record Trees : Type 0 where
  pub begins_signed : Expr → Bool
  pub expr : ℕ → Expr → Printed
  pub stmt : ℕ → Stmt → Printed

-- what a part of a string begins with
abbrev pub part_start : Bool → List ℕ
part_start is_lazy = if is_lazy then codes "${-> " else codes "${"

module _ (names : List (List ℕ)) (trees : Trees) where
  abbrev pub led_printed : ℕ → List ℕ → Expr → Printed
  led_printed indent before x so_far = trees.expr indent x (so_far ++ before)

  -- ---- strings with parts, labels

  abbrev pub part_printed : ℕ → Part → Printed
  part_printed indent part so_far = chars_printed quotes.Double (text_of names (out-Part part).behind) (trees.expr indent (out-Part part).value (so_far ++ part_start (out-Part part).is_lazy) ++ codes "}")

  abbrev pub gstring_printed : ℕ → GString → Printed
  gstring_printed indent g so_far = each (part_printed indent) (out-GString g).parts (chars_printed quotes.Double (text_of names (out-GString g).head) (so_far ++ codes "\"")) ++ codes "\""

  abbrev pub label_in : ℕ → Label-F Arg Closure Entry Expr Item Key Label Stmt GString Param Part Case Catch Decl Var → Printed
  label_in indent (Label-F.Name name) so_far = ident_printed names name so_far
  label_in indent (Label-F.Text text) so_far = string_printed (text_of names text.name) so_far
  label_in indent (Label-F.«Label::GString» p g) so_far = gstring_printed indent g so_far

  abbrev pub label_printed : ℕ → Label → Printed
  label_printed indent l so_far = label_in indent (out-Label l) so_far

  abbrev pub key_in : ℕ → Key-F Arg Closure Entry Expr Item Key Label Stmt GString Param Part Case Catch Decl Var → Printed
  key_in indent (Key-F.Label l) so_far = label_printed indent l so_far
  key_in indent (Key-F.Int p n) so_far = atom_printed names (atom.Int n) so_far
  key_in indent (Key-F.Long p n) so_far = atom_printed names (atom.Long n) so_far

  abbrev pub key_printed : ℕ → Key → Printed
  key_printed indent k so_far = key_in indent (out-Key k) so_far

  -- ---- elements, entries, arguments

  abbrev pub item_in : ℕ → Item-F Arg Closure Entry Expr Item Key Label Stmt GString Param Part Case Catch Decl Var → Printed
  item_in indent (Item-F.«Item::Plain» x) so_far = trees.expr indent x so_far
  item_in indent (Item-F.«Item::Spread» p x) so_far = led_printed indent (codes "*") x so_far

  abbrev pub item_printed : ℕ → Item → Printed
  item_printed indent i so_far = item_in indent (out-Item i) so_far

  abbrev pub entry_in : ℕ → Entry-F Arg Closure Entry Expr Item Key Label Stmt GString Param Part Case Catch Decl Var → Printed
  entry_in indent (Entry-F.«Entry::Keyed» k x) so_far = led_printed indent (codes ": ") x (key_printed indent k so_far)
  entry_in indent (Entry-F.Computed p k x) so_far = led_printed indent (codes "): ") x (led_printed indent (codes "(") k so_far)
  entry_in indent (Entry-F.«Entry::Spread» p x) so_far = led_printed indent (codes "*:") x so_far

  abbrev pub entry_printed : ℕ → Entry → Printed
  entry_printed indent e so_far = entry_in indent (out-Entry e) so_far

  abbrev pub map_printed : ℕ → List Entry → Printed
  map_printed indent entries so_far = if length entries == 0 then so_far ++ codes "[:]" else listed (entry_printed indent) true entries (so_far ++ codes "[") ++ codes "]"

  abbrev pub arg_in : ℕ → Arg-F Arg Closure Entry Expr Item Key Label Stmt GString Param Part Case Catch Decl Var → Printed
  arg_in indent (Arg-F.«Arg::Plain» x) so_far = trees.expr indent x so_far
  arg_in indent (Arg-F.«Arg::Keyed» k x) so_far = led_printed indent (codes ": ") x (key_printed indent k so_far)
  arg_in indent (Arg-F.«Arg::Spread» p x) so_far = led_printed indent (codes "*") x so_far
  arg_in indent (Arg-F.SpreadMap p x) so_far = led_printed indent (codes "*:") x so_far

  abbrev pub arg_printed : ℕ → Arg → Printed
  arg_printed indent a so_far = arg_in indent (out-Arg a) so_far

  abbrev pub args_printed : ℕ → List Arg → Printed
  args_printed indent args so_far = listed (arg_printed indent) true args (so_far ++ codes "(") ++ codes ")"

  -- ---- declarations

  abbrev pub var_printed : ℕ → Var → Printed
  var_printed indent v so_far = if_there (led_printed indent (codes " = ")) (out-Var v).initial (ident_printed names (out-Var v).ident so_far)

  abbrev pub vars_printed : ℕ → VarType → List Var → Printed
  vars_printed indent w vars so_far = listed (var_printed indent) true vars (written_printed names w so_far ++ codes " ")

  abbrev pub decl_printed : ℕ → Decl → Printed
  decl_printed indent d so_far = vars_printed indent (out-Decl d).written (out-Decl d).vars (put_if (out-Decl d).is_final (codes "final ") so_far)

  abbrev pub param_printed : ℕ → Param → Printed
  param_printed indent x so_far = if_there (led_printed indent (codes " = ")) (out-Param x).initial (ident_printed names (out-Param x).ident (if_there (param_type_printed names (out-Param x).is_rest) (out-Param x).written (put_if (out-Param x).is_final (codes "final ") so_far)))

  abbrev pub params_printed : ℕ → List Param → Printed
  params_printed indent params so_far = listed (param_printed indent) true params so_far

  -- ---- what stands in braces

  -- a statement on a line of its own
  abbrev pub line_printed : ℕ → Stmt → Printed
  line_printed indent s so_far = trees.stmt indent s (new_line indent so_far)

  -- what stands behind a `{`
  abbrev pub filled : ℕ → List Stmt → Printed
  filled indent stmts so_far = if length stmts == 0 then so_far ++ codes " }" else new_line indent (each (line_printed (deeper indent)) stmts so_far) ++ codes "}"

  abbrev pub block_printed : ℕ → List Stmt → Printed
  block_printed indent stmts so_far = filled indent stmts (so_far ++ codes "{")

  abbrev pub closure_params_printed : ℕ → List Param → Printed
  closure_params_printed indent params so_far = (if length params == 0 then so_far else params_printed indent params (so_far ++ codes " ")) ++ codes " ->"

  abbrev pub closure_in : ℕ → Closure-F Arg Closure Entry Expr Item Key Label Stmt GString Param Part Case Catch Decl Var → Printed
  closure_in indent (Closure-F.Read params stmts) so_far = filled indent stmts (if_there (closure_params_printed indent) params (so_far ++ codes "{"))
  closure_in indent (Closure-F.Unread from to) so_far = so_far ++ codes "{ }"

  abbrev pub closure_printed : ℕ → Closure → Printed
  closure_printed indent c so_far = closure_in indent (out-Closure c) so_far

  -- ---- expressions

  abbrev pub unary_printed : ℕ → UnaryOp → Expr → Printed
  unary_printed indent op x so_far =
      if is_behind op then trees.expr indent x so_far ++ unary_text op
      else trees.expr indent x (so_far ++ unary_text op ++ gap op (trees.begins_signed x))

  abbrev pub choice_printed : ℕ → Expr → Option Expr → Expr → Printed
  choice_printed indent x (Some y) z so_far = led_printed indent (codes " : ") z (led_printed indent (codes " ? ") y (trees.expr indent x so_far))
  choice_printed indent x None z so_far = led_printed indent (codes " ?: ") z (trees.expr indent x so_far)

  abbrev pub expr_in : ℕ → Layer → Printed
  expr_in indent (Expr-F.Atom p a) so_far = atom_printed names a so_far
  expr_in indent (Expr-F.«Expr::GString» p g) so_far = gstring_printed indent g so_far
  expr_in indent (Expr-F.Paren p x) so_far = led_printed indent (codes "(") x so_far ++ codes ")"
  expr_in indent (Expr-F.List p items) so_far = listed (item_printed indent) true items (so_far ++ codes "[") ++ codes "]"
  expr_in indent (Expr-F.Map p entries) so_far = map_printed indent entries so_far
  expr_in indent (Expr-F.Closure p c) so_far = closure_printed indent c so_far
  expr_in indent (Expr-F.New p name args) so_far = args_printed indent args (ident_printed names name (so_far ++ codes "new "))
  expr_in indent (Expr-F.Unary p op x) so_far = unary_printed indent op x so_far
  expr_in indent (Expr-F.Binary p op x y) so_far = led_printed indent (binary_text op) y (trees.expr indent x so_far)
  expr_in indent (Expr-F.Typed p op x t) so_far = type_printed names t (trees.expr indent x so_far ++ type_op_text op)
  expr_in indent (Expr-F.Choice p x y z) so_far = choice_printed indent x y z so_far
  expr_in indent (Expr-F.Assign p op x y) so_far = led_printed indent (assign_text op) y (trees.expr indent x so_far)
  expr_in indent (Expr-F.Member p op x l) so_far = label_printed indent l (trees.expr indent x so_far ++ member_text op)
  expr_in indent (Expr-F.Field p x name) so_far = ident_printed names name (trees.expr indent x so_far ++ codes ".@")
  expr_in indent (Expr-F.Index p x xs) so_far = listed (trees.expr indent) true xs (trees.expr indent x so_far ++ codes "[") ++ codes "]"
  expr_in indent (Expr-F.Call p x args) so_far = args_printed indent args (trees.expr indent x so_far)

  -- ---- statements

  -- what is done where a condition holds: a block, or a statement on a line of its own
  abbrev pub body_in : ℕ → Stmt → StmtLayer → Printed
  body_in indent s (Stmt-F.Block p stmts) so_far = block_printed indent stmts (so_far ++ codes " ")
  body_in indent s layer so_far = line_printed (deeper indent) s so_far

  abbrev pub body_printed : ℕ → Stmt → Printed
  body_printed indent s so_far = body_in indent s (out-Stmt s) so_far

  abbrev pub else_printed : ℕ → Stmt → Printed
  else_printed indent s so_far = body_printed indent s (new_line indent so_far ++ codes "else")

  abbrev pub for_printed : ℕ → Option Stmt → Option Expr → Option Expr → Printed
  for_printed indent first test step so_far = if_there (trees.expr indent) step (if_there (trees.expr indent) test (if_there (trees.stmt indent) first (so_far ++ codes "for (") ++ codes "; ") ++ codes "; ") ++ codes ")"

  -- a case of a switch, with its line; `indent` is that of the cases
  abbrev pub case_value_printed : ℕ → Option Expr → Printed
  case_value_printed indent None so_far = so_far ++ codes "default:"
  case_value_printed indent (Some x) so_far = led_printed indent (codes "case ") x so_far ++ codes ":"

  abbrev pub case_printed : ℕ → Case → Printed
  case_printed indent c so_far = each (line_printed (deeper indent)) (out-Case c).body (case_value_printed indent (out-Case c).value (new_line indent so_far))

  abbrev pub cases_printed : ℕ → List Case → Printed
  cases_printed indent cases so_far = if length cases == 0 then so_far ++ codes " }" else new_line indent (each (case_printed (deeper indent)) cases so_far) ++ codes "}"

  abbrev pub catch_printed : ℕ → Catch → Printed
  catch_printed indent c so_far = block_printed indent (out-Catch c).body (ident_printed names (out-Catch c).ident (types_printed names (out-Catch c).types (new_line indent so_far ++ codes "catch (")) ++ codes ") ")

  abbrev pub finally_printed : ℕ → List Stmt → Printed
  finally_printed indent stmts so_far = block_printed indent stmts (new_line indent so_far ++ codes "finally ")

  abbrev pub stmt_in : ℕ → StmtLayer → Printed
  stmt_in indent (Stmt-F.Decl d) so_far = decl_printed indent d so_far
  stmt_in indent (Stmt-F.Multiple p idents x) so_far = led_printed indent (codes ") = ") x (listed (ident_printed names) true idents (so_far ++ codes "def ("))
  stmt_in indent (Stmt-F.Expr x) so_far = trees.expr indent x so_far
  stmt_in indent (Stmt-F.Block p stmts) so_far = block_printed indent stmts so_far
  stmt_in indent (Stmt-F.If p x s t) so_far = if_there (else_printed indent) t (body_printed indent s (led_printed indent (codes "if (") x so_far ++ codes ")"))
  stmt_in indent (Stmt-F.While p x s) so_far = body_printed indent s (led_printed indent (codes "while (") x so_far ++ codes ")")
  stmt_in indent (Stmt-F.ForIn p w name x s) so_far = body_printed indent s (led_printed indent (codes " in ") x (ident_printed names name (if_there (loop_type_printed names) w (so_far ++ codes "for ("))) ++ codes ")")
  stmt_in indent (Stmt-F.For p first test step s) so_far = body_printed indent s (for_printed indent first test step so_far)
  stmt_in indent (Stmt-F.Switch p x cases) so_far = cases_printed indent cases (led_printed indent (codes "switch (") x so_far ++ codes ") {")
  stmt_in indent (Stmt-F.Try p stmts catches last) so_far = if_there (finally_printed indent) last (each (catch_printed indent) catches (block_printed indent stmts (so_far ++ codes "try ")))
  stmt_in indent (Stmt-F.Throw p x) so_far = led_printed indent (codes "throw ") x so_far
  stmt_in indent (Stmt-F.Return p x) so_far = if_there (led_printed indent (codes " ")) x (so_far ++ codes "return")
  stmt_in indent (Stmt-F.Leave p l) so_far = so_far ++ leave_text l
  stmt_in indent (Stmt-F.Assert p x message) so_far = if_there (led_printed indent (codes ": ")) message (led_printed indent (codes "assert ") x so_far)

  -- ---- annotations, methods, classes

  abbrev pub path_printed : List Ident → Printed
  path_printed path so_far = parted (codes ".") (ident_printed names) true path so_far

  abbrev pub setting_printed : ℕ → Setting → Printed
  setting_printed indent s so_far = led_printed indent (codes " = ") s.value (ident_printed names s.ident so_far)

  abbrev pub settings_printed : ℕ → List Setting → Printed
  settings_printed indent settings so_far = if length settings == 0 then so_far else listed (setting_printed indent) true settings (so_far ++ codes "(") ++ codes ")"

  -- with the line that follows it
  abbrev pub annotation_printed : ℕ → Annotation → Printed
  annotation_printed indent a so_far = new_line indent (settings_printed indent a.settings (path_printed a.path (so_far ++ codes "@")))

  abbrev pub annotations_printed : ℕ → List Annotation → Printed
  annotations_printed indent annotations so_far = each (annotation_printed indent) annotations so_far

  -- a name, its parameters and its statements
  abbrev pub called_printed : ℕ → Ident → List Param → List Stmt → Printed
  called_printed indent name params stmts so_far = block_printed indent stmts (params_printed indent params (ident_printed names name so_far ++ codes "(") ++ codes ") ")

  abbrev pub method_printed : ℕ → Method → Printed
  method_printed indent m so_far = called_printed indent m.ident m.params m.body (answer_printed names m.answer (modifiers_printed m.modifiers (annotations_printed indent m.annotations so_far)) ++ codes " ")

  abbrev pub constructor_printed : ℕ → Constructor → Printed
  constructor_printed indent c so_far = called_printed indent c.ident c.params c.body (modifiers_printed c.modifiers (annotations_printed indent c.annotations so_far))

  abbrev pub field_printed : ℕ → Field → Printed
  field_printed indent f so_far = vars_printed indent f.written f.vars (modifiers_printed f.modifiers (annotations_printed indent f.annotations so_far))

  abbrev pub class_member_printed : ℕ → Member → Printed
  class_member_printed indent (member.Method m) so_far = method_printed indent m so_far
  class_member_printed indent (member.Constructor c) so_far = constructor_printed indent c so_far
  class_member_printed indent (member.Field f) so_far = field_printed indent f so_far

  -- a member on a line of its own
  abbrev pub member_line_printed : ℕ → Member → Printed
  member_line_printed indent m so_far = class_member_printed indent m (new_line indent so_far)

  abbrev pub members_printed : List Member → Printed
  members_printed members so_far = if length members == 0 then so_far ++ codes " }" else each (member_line_printed 1) members so_far ++ codes "\n}"

  abbrev pub above_printed : List ℕ → Ident → Printed
  above_printed word name so_far = ident_printed names name (so_far ++ word)

  -- what stands before the `{` of a class, behind its annotations
  abbrev pub class_head_printed : ClassTree → Printed
  class_head_printed c so_far = if_there (above_printed (codes " implements ")) c.interface (if_there (above_printed (codes " extends ")) c.superclass (ident_printed names c.ident (modifiers_printed c.modifiers so_far ++ codes "class ")))

  abbrev pub class_printed : ClassTree → Printed
  class_printed c so_far = members_printed c.members (class_head_printed c (annotations_printed 0 c.annotations so_far) ++ codes " {")

  abbrev pub import_printed : Import → Printed
  import_printed i so_far = put_if i.is_all (codes ".*") (path_printed i.path (so_far ++ codes "import "))

  -- ---- scripts

  abbrev pub top_printed : Top → Printed
  top_printed (top.Import i) so_far = import_printed i so_far
  top_printed (top.Class c) so_far = class_printed c so_far
  top_printed (top.Method m) so_far = method_printed 0 m so_far
  top_printed (top.Decl annotations d) so_far = decl_printed 0 d (annotations_printed 0 annotations so_far)
  top_printed (top.Stmt s) so_far = trees.stmt 0 s so_far

  -- with the end of its last line
  abbrev pub top_line_printed : Top → Printed
  top_line_printed t so_far = top_printed t so_far ++ codes "\n"

-- ---- trees of any depth

-- as deep as `n` expressions and statements may stand in one another
module _ (names : List (List ℕ)) where
  abbrev pub tree_printed : ℕ → (ℕ → Expr → Printed) × (ℕ → Stmt → Printed)
  tree_printed zero = (λ indent x so_far. so_far, λ indent s so_far. so_far)
  tree_printed (suc n) = (
    λ indent x so_far. expr_in names (record { begins_signed = begins_signed n; expr = (tree_printed n).0; stmt = (tree_printed n).1 }) indent (out-Expr x) so_far,
    λ indent s so_far. stmt_in names (record { begins_signed = begins_signed n; expr = (tree_printed n).0; stmt = (tree_printed n).1 }) indent (out-Stmt s) so_far,
  )

  abbrev pub trees : ℕ → Trees
  trees n = record { begins_signed = begins_signed n; expr = (tree_printed n).0; stmt = (tree_printed n).1 }

-- the levels that a tree of the grammar has at most, three for each of the 300 that may be open at a place, and some
abbrev pub most_levels : ℕ
most_levels = 1000

-- the text of a script
abbrev pub printed : List (List ℕ) → Script → List ℕ
printed names script = each (top_line_printed names (trees names most_levels)) script.tops []
