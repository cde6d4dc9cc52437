-- The pieces of a script's text: each definition puts the pieces of its form behind those before it, as the one of the same name in
-- gv_print's `Printed` puts its text. `indent` is the level at which its statement or member stands.
use Rattle.std.specs.Prelude.{ℕ, zero, suc, ◌==◌, Bool, true, false, List, [], ◌∷◌, ◌++◌, length, Option, Some, None, if◌then◌else◌}
use Rattle.gv_tree.specs.declared.expr.Arg.{Arg, out-Arg}
use Rattle.gv_tree.specs.declared.expr.Arg.TheOpen.{Arg-F, Closure-F, Entry-F, Expr-F, Item-F, Key-F, Label-F, Stmt-F}
use Rattle.gv_tree.specs.declared.expr.Atom.TheVariants as atom
use Rattle.gv_tree.specs.declared.expr.Closure.{Closure, out-Closure}
use Rattle.gv_tree.specs.declared.expr.Entry.{Entry, out-Entry}
use Rattle.gv_tree.specs.declared.expr.Expr.{Expr, out-Expr}
use Rattle.gv_tree.specs.declared.expr.GString.{GString, out-GString}
use Rattle.gv_tree.specs.declared.expr.Item.{Item, out-Item}
use Rattle.gv_tree.specs.declared.expr.Key.{Key, out-Key}
use Rattle.gv_tree.specs.declared.expr.Label.{Label, out-Label}
use Rattle.gv_tree.specs.declared.expr.Param.{Param, out-Param}
use Rattle.gv_tree.specs.declared.expr.Part.{Part, out-Part}
use Rattle.gv_tree.specs.declared.ops.Ident.{Ident}
use Rattle.gv_tree.specs.declared.ops.UnaryOp.{UnaryOp}
use Rattle.gv_tree.specs.declared.ops.VarType.{VarType}
use Rattle.gv_tree.specs.declared.stmt.Case.{Case, out-Case}
use Rattle.gv_tree.specs.declared.stmt.Catch.{Catch, out-Catch}
use Rattle.gv_tree.specs.declared.stmt.Decl.{Decl, out-Decl}
use Rattle.gv_tree.specs.declared.stmt.Stmt.{Stmt, out-Stmt}
use Rattle.gv_tree.specs.declared.stmt.Var.{Var, out-Var}
use Rattle.gv_tree.specs.declared.top.Annotation.{Annotation}
use Rattle.gv_tree.specs.declared.top.ClassTree.{ClassTree}
use Rattle.gv_tree.specs.declared.top.Constructor.{Constructor}
use Rattle.gv_tree.specs.declared.top.Field.{Field}
use Rattle.gv_tree.specs.declared.top.Import.{Import}
use Rattle.gv_tree.specs.declared.top.Member.{Member}
use Rattle.gv_tree.specs.declared.top.Member.TheVariants as member
use Rattle.gv_tree.specs.declared.top.Method.{Method}
use Rattle.gv_tree.specs.declared.top.Script.{Script}
use Rattle.gv_tree.specs.declared.top.Setting.{Setting}
use Rattle.gv_tree.specs.declared.top.Top.{Top}
use Rattle.gv_tree.specs.declared.top.Top.TheVariants as top
use Rattle.gv_spelling.specs.declared.kinds.Keyword.TheVariants as keyword
use Rattle.gv_spelling.specs.declared.kinds.Symbol.TheVariants as symbol
use Rattle.gv_print.specs.declared.strings.Quotes.TheVariants as quotes
use Rattle.gv_print.specs.Texts.{deeper, is_behind}
use Rattle.gv_print.specs.Printed.{Layer, StmtLayer, begins_signed, most_levels}
use Rattle.gv_pieces.specs.Pieces.{Piece, Blank, Line, Symbol, Keyword, Name, Int, Long, Open, Chars, PartOpen, PartClose, Close}
use Rattle.gv_pieces.specs.Words.{Pieced, each_pieced, if_there_pieced, put_if_pieced, parted_pieced, listed_pieced, new_line_pieced, chars_pieced, string_pieced, unary_pieces, binary_pieces, type_op_pieces, assign_pieces, member_pieces, leave_pieces, gap_pieces, ident_pieced, atom_pieced, type_pieced, written_pieced, answer_pieced, param_type_pieced, loop_type_pieced, types_pieced, modifiers_pieced}

-- of trees of some depth: whether the text of one begins with a digit or a sign, and the pieces of one
pub record PieceTrees : Type 0 where
  pub begins_signed : Expr → Bool
  pub expr : ℕ → Expr → Pieced
  pub stmt : ℕ → Stmt → Pieced

-- what a part of a string begins with
abbrev pub part_start_pieces : Bool → List Piece
part_start_pieces is_lazy = if is_lazy then PartOpen ∷ Symbol symbol.Arrow ∷ Blank ∷ [] else PartOpen ∷ []

module _ (trees : PieceTrees) where
  abbrev pub led_pieced : ℕ → List Piece → Expr → Pieced
  led_pieced indent before x so_far = trees.expr indent x (so_far ++ before)

  -- ---- strings with parts, labels

  abbrev pub part_pieced : ℕ → Part → Pieced
  part_pieced indent part so_far = chars_pieced quotes.Double ((out-Part part).behind) (trees.expr indent (out-Part part).value (so_far ++ part_start_pieces (out-Part part).is_lazy) ++ PartClose ∷ [])

  abbrev pub gstring_pieced : ℕ → GString → Pieced
  gstring_pieced indent g so_far = each_pieced (part_pieced indent) (out-GString g).parts (chars_pieced quotes.Double ((out-GString g).head) (so_far ++ Open quotes.Double ∷ [])) ++ Close quotes.Double ∷ []

  abbrev pub label_pieced_in : ℕ → Label-F Arg Closure Entry Expr Item Key Label Stmt GString Param Part Case Catch Decl Var → Pieced
  label_pieced_in indent (Label-F.Name name) so_far = ident_pieced name so_far
  label_pieced_in indent (Label-F.Text text) so_far = string_pieced (text.name) so_far
  label_pieced_in indent (Label-F.«Label::GString» p g) so_far = gstring_pieced indent g so_far

  abbrev pub label_pieced : ℕ → Label → Pieced
  label_pieced indent l so_far = label_pieced_in indent (out-Label l) so_far

  abbrev pub key_pieced_in : ℕ → Key-F Arg Closure Entry Expr Item Key Label Stmt GString Param Part Case Catch Decl Var → Pieced
  key_pieced_in indent (Key-F.Label l) so_far = label_pieced indent l so_far
  key_pieced_in indent (Key-F.Int p n) so_far = atom_pieced (atom.Int n) so_far
  key_pieced_in indent (Key-F.Long p n) so_far = atom_pieced (atom.Long n) so_far

  abbrev pub key_pieced : ℕ → Key → Pieced
  key_pieced indent k so_far = key_pieced_in indent (out-Key k) so_far

  -- ---- elements, entries, arguments

  abbrev pub item_pieced_in : ℕ → Item-F Arg Closure Entry Expr Item Key Label Stmt GString Param Part Case Catch Decl Var → Pieced
  item_pieced_in indent (Item-F.«Item::Plain» x) so_far = trees.expr indent x so_far
  item_pieced_in indent (Item-F.«Item::Spread» p x) so_far = led_pieced indent (Symbol symbol.Star ∷ []) x so_far

  abbrev pub item_pieced : ℕ → Item → Pieced
  item_pieced indent i so_far = item_pieced_in indent (out-Item i) so_far

  abbrev pub entry_pieced_in : ℕ → Entry-F Arg Closure Entry Expr Item Key Label Stmt GString Param Part Case Catch Decl Var → Pieced
  entry_pieced_in indent (Entry-F.«Entry::Keyed» k x) so_far = led_pieced indent (Symbol symbol.Colon ∷ Blank ∷ []) x (key_pieced indent k so_far)
  entry_pieced_in indent (Entry-F.Computed p k x) so_far = led_pieced indent (Symbol symbol.RightParen ∷ Symbol symbol.Colon ∷ Blank ∷ []) x (led_pieced indent (Symbol symbol.LeftParen ∷ []) k so_far)
  entry_pieced_in indent (Entry-F.«Entry::Spread» p x) so_far = led_pieced indent (Symbol symbol.SpreadColon ∷ []) x so_far

  abbrev pub entry_pieced : ℕ → Entry → Pieced
  entry_pieced indent e so_far = entry_pieced_in indent (out-Entry e) so_far

  abbrev pub map_pieced : ℕ → List Entry → Pieced
  map_pieced indent entries so_far = if length entries == 0 then so_far ++ Symbol symbol.LeftBracket ∷ Symbol symbol.Colon ∷ Symbol symbol.RightBracket ∷ [] else listed_pieced (entry_pieced indent) true entries (so_far ++ Symbol symbol.LeftBracket ∷ []) ++ Symbol symbol.RightBracket ∷ []

  abbrev pub arg_pieced_in : ℕ → Arg-F Arg Closure Entry Expr Item Key Label Stmt GString Param Part Case Catch Decl Var → Pieced
  arg_pieced_in indent (Arg-F.«Arg::Plain» x) so_far = trees.expr indent x so_far
  arg_pieced_in indent (Arg-F.«Arg::Keyed» k x) so_far = led_pieced indent (Symbol symbol.Colon ∷ Blank ∷ []) x (key_pieced indent k so_far)
  arg_pieced_in indent (Arg-F.«Arg::Spread» p x) so_far = led_pieced indent (Symbol symbol.Star ∷ []) x so_far
  arg_pieced_in indent (Arg-F.SpreadMap p x) so_far = led_pieced indent (Symbol symbol.SpreadColon ∷ []) x so_far

  abbrev pub arg_pieced : ℕ → Arg → Pieced
  arg_pieced indent a so_far = arg_pieced_in indent (out-Arg a) so_far

  abbrev pub args_pieced : ℕ → List Arg → Pieced
  args_pieced indent args so_far = listed_pieced (arg_pieced indent) true args (so_far ++ Symbol symbol.LeftParen ∷ []) ++ Symbol symbol.RightParen ∷ []

  -- ---- declarations

  abbrev pub var_pieced : ℕ → Var → Pieced
  var_pieced indent v so_far = if_there_pieced (led_pieced indent (Blank ∷ Symbol symbol.Assign ∷ Blank ∷ [])) (out-Var v).initial (ident_pieced (out-Var v).ident so_far)

  abbrev pub vars_pieced : ℕ → VarType → List Var → Pieced
  vars_pieced indent w vars so_far = listed_pieced (var_pieced indent) true vars (written_pieced w so_far ++ Blank ∷ [])

  abbrev pub decl_pieced : ℕ → Decl → Pieced
  decl_pieced indent d so_far = vars_pieced indent (out-Decl d).written (out-Decl d).vars (put_if_pieced (out-Decl d).is_final (Keyword keyword.Final ∷ Blank ∷ []) so_far)

  abbrev pub param_pieced : ℕ → Param → Pieced
  param_pieced indent x so_far = if_there_pieced (led_pieced indent (Blank ∷ Symbol symbol.Assign ∷ Blank ∷ [])) (out-Param x).initial (ident_pieced (out-Param x).ident (if_there_pieced (param_type_pieced (out-Param x).is_rest) (out-Param x).written (put_if_pieced (out-Param x).is_final (Keyword keyword.Final ∷ Blank ∷ []) so_far)))

  abbrev pub params_pieced : ℕ → List Param → Pieced
  params_pieced indent params so_far = listed_pieced (param_pieced indent) true params so_far

  -- ---- what stands in braces

  -- a statement on a line of its own
  abbrev pub line_pieced : ℕ → Stmt → Pieced
  line_pieced indent s so_far = trees.stmt indent s (new_line_pieced indent so_far)

  -- what stands behind a `{`
  abbrev pub filled_pieced : ℕ → List Stmt → Pieced
  filled_pieced indent stmts so_far = if length stmts == 0 then so_far ++ Blank ∷ Symbol symbol.RightBrace ∷ [] else new_line_pieced indent (each_pieced (line_pieced (deeper indent)) stmts so_far) ++ Symbol symbol.RightBrace ∷ []

  abbrev pub block_pieced : ℕ → List Stmt → Pieced
  block_pieced indent stmts so_far = filled_pieced indent stmts (so_far ++ Symbol symbol.LeftBrace ∷ [])

  abbrev pub closure_params_pieced : ℕ → List Param → Pieced
  closure_params_pieced indent params so_far = (if length params == 0 then so_far else params_pieced indent params (so_far ++ Blank ∷ [])) ++ Blank ∷ Symbol symbol.Arrow ∷ []

  abbrev pub closure_pieced_in : ℕ → Closure-F Arg Closure Entry Expr Item Key Label Stmt GString Param Part Case Catch Decl Var → Pieced
  closure_pieced_in indent (Closure-F.Read params stmts) so_far = filled_pieced indent stmts (if_there_pieced (closure_params_pieced indent) params (so_far ++ Symbol symbol.LeftBrace ∷ []))
  closure_pieced_in indent (Closure-F.Unread from to) so_far = so_far ++ Symbol symbol.LeftBrace ∷ Blank ∷ Symbol symbol.RightBrace ∷ []

  abbrev pub closure_pieced : ℕ → Closure → Pieced
  closure_pieced indent c so_far = closure_pieced_in indent (out-Closure c) so_far

  -- ---- expressions

  abbrev pub unary_pieced : ℕ → UnaryOp → Expr → Pieced
  unary_pieced indent op x so_far =
      if is_behind op then trees.expr indent x so_far ++ unary_pieces op
      else trees.expr indent x (so_far ++ unary_pieces op ++ gap_pieces op (trees.begins_signed x))

  abbrev pub choice_pieced : ℕ → Expr → Option Expr → Expr → Pieced
  choice_pieced indent x (Some y) z so_far = led_pieced indent (Blank ∷ Symbol symbol.Colon ∷ Blank ∷ []) z (led_pieced indent (Blank ∷ Symbol symbol.Question ∷ Blank ∷ []) y (trees.expr indent x so_far))
  choice_pieced indent x None z so_far = led_pieced indent (Blank ∷ Symbol symbol.Elvis ∷ Blank ∷ []) z (trees.expr indent x so_far)

  abbrev pub expr_pieced_in : ℕ → Layer → Pieced
  expr_pieced_in indent (Expr-F.Atom p a) so_far = atom_pieced a so_far
  expr_pieced_in indent (Expr-F.«Expr::GString» p g) so_far = gstring_pieced indent g so_far
  expr_pieced_in indent (Expr-F.Paren p x) so_far = led_pieced indent (Symbol symbol.LeftParen ∷ []) x so_far ++ Symbol symbol.RightParen ∷ []
  expr_pieced_in indent (Expr-F.List p items) so_far = listed_pieced (item_pieced indent) true items (so_far ++ Symbol symbol.LeftBracket ∷ []) ++ Symbol symbol.RightBracket ∷ []
  expr_pieced_in indent (Expr-F.Map p entries) so_far = map_pieced indent entries so_far
  expr_pieced_in indent (Expr-F.Closure p c) so_far = closure_pieced indent c so_far
  expr_pieced_in indent (Expr-F.New p name args) so_far = args_pieced indent args (ident_pieced name (so_far ++ Keyword keyword.New ∷ Blank ∷ []))
  expr_pieced_in indent (Expr-F.Unary p op x) so_far = unary_pieced indent op x so_far
  expr_pieced_in indent (Expr-F.Binary p op x y) so_far = led_pieced indent (binary_pieces op) y (trees.expr indent x so_far)
  expr_pieced_in indent (Expr-F.Typed p op x t) so_far = type_pieced t (trees.expr indent x so_far ++ type_op_pieces op)
  expr_pieced_in indent (Expr-F.Choice p x y z) so_far = choice_pieced indent x y z so_far
  expr_pieced_in indent (Expr-F.Assign p op x y) so_far = led_pieced indent (assign_pieces op) y (trees.expr indent x so_far)
  expr_pieced_in indent (Expr-F.Member p op x l) so_far = label_pieced indent l (trees.expr indent x so_far ++ member_pieces op)
  expr_pieced_in indent (Expr-F.Field p x name) so_far = ident_pieced name (trees.expr indent x so_far ++ Symbol symbol.FieldDot ∷ [])
  expr_pieced_in indent (Expr-F.Index p x xs) so_far = listed_pieced (trees.expr indent) true xs (trees.expr indent x so_far ++ Symbol symbol.LeftBracket ∷ []) ++ Symbol symbol.RightBracket ∷ []
  expr_pieced_in indent (Expr-F.Call p x args) so_far = args_pieced indent args (trees.expr indent x so_far)

  -- ---- statements

  -- what is done where a condition holds: a block, or a statement on a line of its own
  abbrev pub body_pieced_in : ℕ → Stmt → StmtLayer → Pieced
  body_pieced_in indent s (Stmt-F.Block p stmts) so_far = block_pieced indent stmts (so_far ++ Blank ∷ [])
  body_pieced_in indent s layer so_far = line_pieced (deeper indent) s so_far

  abbrev pub body_pieced : ℕ → Stmt → Pieced
  body_pieced indent s so_far = body_pieced_in indent s (out-Stmt s) so_far

  abbrev pub else_pieced : ℕ → Stmt → Pieced
  else_pieced indent s so_far = body_pieced indent s (new_line_pieced indent so_far ++ Keyword keyword.Else ∷ [])

  abbrev pub for_pieced : ℕ → Option Stmt → Option Expr → Option Expr → Pieced
  for_pieced indent first test step so_far = if_there_pieced (trees.expr indent) step (if_there_pieced (trees.expr indent) test (if_there_pieced (trees.stmt indent) first (so_far ++ Keyword keyword.For ∷ Blank ∷ Symbol symbol.LeftParen ∷ []) ++ Symbol symbol.Semicolon ∷ Blank ∷ []) ++ Symbol symbol.Semicolon ∷ Blank ∷ []) ++ Symbol symbol.RightParen ∷ []

  -- a case of a switch, with its line; `indent` is that of the cases
  abbrev pub case_value_pieced : ℕ → Option Expr → Pieced
  case_value_pieced indent None so_far = so_far ++ Keyword keyword.Default ∷ Symbol symbol.Colon ∷ []
  case_value_pieced indent (Some x) so_far = led_pieced indent (Keyword keyword.Case ∷ Blank ∷ []) x so_far ++ Symbol symbol.Colon ∷ []

  abbrev pub case_pieced : ℕ → Case → Pieced
  case_pieced indent c so_far = each_pieced (line_pieced (deeper indent)) (out-Case c).body (case_value_pieced indent (out-Case c).value (new_line_pieced indent so_far))

  abbrev pub cases_pieced : ℕ → List Case → Pieced
  cases_pieced indent cases so_far = if length cases == 0 then so_far ++ Blank ∷ Symbol symbol.RightBrace ∷ [] else new_line_pieced indent (each_pieced (case_pieced (deeper indent)) cases so_far) ++ Symbol symbol.RightBrace ∷ []

  abbrev pub catch_pieced : ℕ → Catch → Pieced
  catch_pieced indent c so_far = block_pieced indent (out-Catch c).body (ident_pieced (out-Catch c).ident (types_pieced (out-Catch c).types (new_line_pieced indent so_far ++ Keyword keyword.Catch ∷ Blank ∷ Symbol symbol.LeftParen ∷ [])) ++ Symbol symbol.RightParen ∷ Blank ∷ [])

  abbrev pub finally_pieced : ℕ → List Stmt → Pieced
  finally_pieced indent stmts so_far = block_pieced indent stmts (new_line_pieced indent so_far ++ Keyword keyword.Finally ∷ Blank ∷ [])

  abbrev pub stmt_pieced_in : ℕ → StmtLayer → Pieced
  stmt_pieced_in indent (Stmt-F.Decl d) so_far = decl_pieced indent d so_far
  stmt_pieced_in indent (Stmt-F.Multiple p idents x) so_far = led_pieced indent (Symbol symbol.RightParen ∷ Blank ∷ Symbol symbol.Assign ∷ Blank ∷ []) x (listed_pieced (ident_pieced) true idents (so_far ++ Keyword keyword.Def ∷ Blank ∷ Symbol symbol.LeftParen ∷ []))
  stmt_pieced_in indent (Stmt-F.Expr x) so_far = trees.expr indent x so_far
  stmt_pieced_in indent (Stmt-F.Block p stmts) so_far = block_pieced indent stmts so_far
  stmt_pieced_in indent (Stmt-F.If p x s t) so_far = if_there_pieced (else_pieced indent) t (body_pieced indent s (led_pieced indent (Keyword keyword.If ∷ Blank ∷ Symbol symbol.LeftParen ∷ []) x so_far ++ Symbol symbol.RightParen ∷ []))
  stmt_pieced_in indent (Stmt-F.While p x s) so_far = body_pieced indent s (led_pieced indent (Keyword keyword.While ∷ Blank ∷ Symbol symbol.LeftParen ∷ []) x so_far ++ Symbol symbol.RightParen ∷ [])
  stmt_pieced_in indent (Stmt-F.ForIn p w name x s) so_far = body_pieced indent s (led_pieced indent (Blank ∷ Keyword keyword.In ∷ Blank ∷ []) x (ident_pieced name (if_there_pieced (loop_type_pieced) w (so_far ++ Keyword keyword.For ∷ Blank ∷ Symbol symbol.LeftParen ∷ []))) ++ Symbol symbol.RightParen ∷ [])
  stmt_pieced_in indent (Stmt-F.For p first test step s) so_far = body_pieced indent s (for_pieced indent first test step so_far)
  stmt_pieced_in indent (Stmt-F.Switch p x cases) so_far = cases_pieced indent cases (led_pieced indent (Keyword keyword.Switch ∷ Blank ∷ Symbol symbol.LeftParen ∷ []) x so_far ++ Symbol symbol.RightParen ∷ Blank ∷ Symbol symbol.LeftBrace ∷ [])
  stmt_pieced_in indent (Stmt-F.Try p stmts catches last) so_far = if_there_pieced (finally_pieced indent) last (each_pieced (catch_pieced indent) catches (block_pieced indent stmts (so_far ++ Keyword keyword.Try ∷ Blank ∷ [])))
  stmt_pieced_in indent (Stmt-F.Throw p x) so_far = led_pieced indent (Keyword keyword.Throw ∷ Blank ∷ []) x so_far
  stmt_pieced_in indent (Stmt-F.Return p x) so_far = if_there_pieced (led_pieced indent (Blank ∷ [])) x (so_far ++ Keyword keyword.Return ∷ [])
  stmt_pieced_in indent (Stmt-F.Leave p l) so_far = so_far ++ leave_pieces l
  stmt_pieced_in indent (Stmt-F.Assert p x message) so_far = if_there_pieced (led_pieced indent (Symbol symbol.Colon ∷ Blank ∷ [])) message (led_pieced indent (Keyword keyword.Assert ∷ Blank ∷ []) x so_far)

  -- ---- annotations, methods, classes

  abbrev pub path_pieced : List Ident → Pieced
  path_pieced path so_far = parted_pieced (Symbol symbol.Dot ∷ []) (ident_pieced) true path so_far

  abbrev pub setting_pieced : ℕ → Setting → Pieced
  setting_pieced indent s so_far = led_pieced indent (Blank ∷ Symbol symbol.Assign ∷ Blank ∷ []) s.value (ident_pieced s.ident so_far)

  abbrev pub settings_pieced : ℕ → List Setting → Pieced
  settings_pieced indent settings so_far = if length settings == 0 then so_far else listed_pieced (setting_pieced indent) true settings (so_far ++ Symbol symbol.LeftParen ∷ []) ++ Symbol symbol.RightParen ∷ []

  -- with the line that follows it
  abbrev pub annotation_pieced : ℕ → Annotation → Pieced
  annotation_pieced indent a so_far = new_line_pieced indent (settings_pieced indent a.settings (path_pieced a.path (so_far ++ Symbol symbol.At ∷ [])))

  abbrev pub annotations_pieced : ℕ → List Annotation → Pieced
  annotations_pieced indent annotations so_far = each_pieced (annotation_pieced indent) annotations so_far

  -- a name, its parameters and its statements
  abbrev pub called_pieced : ℕ → Ident → List Param → List Stmt → Pieced
  called_pieced indent name params stmts so_far = block_pieced indent stmts (params_pieced indent params (ident_pieced name so_far ++ Symbol symbol.LeftParen ∷ []) ++ Symbol symbol.RightParen ∷ Blank ∷ [])

  abbrev pub method_pieced : ℕ → Method → Pieced
  method_pieced indent m so_far = called_pieced indent m.ident m.params m.body (answer_pieced m.answer (modifiers_pieced m.modifiers (annotations_pieced indent m.annotations so_far)) ++ Blank ∷ [])

  abbrev pub constructor_pieced : ℕ → Constructor → Pieced
  constructor_pieced indent c so_far = called_pieced indent c.ident c.params c.body (modifiers_pieced c.modifiers (annotations_pieced indent c.annotations so_far))

  abbrev pub field_pieced : ℕ → Field → Pieced
  field_pieced indent f so_far = vars_pieced indent f.written f.vars (modifiers_pieced f.modifiers (annotations_pieced indent f.annotations so_far))

  abbrev pub class_member_pieced : ℕ → Member → Pieced
  class_member_pieced indent (member.Method m) so_far = method_pieced indent m so_far
  class_member_pieced indent (member.Constructor c) so_far = constructor_pieced indent c so_far
  class_member_pieced indent (member.Field f) so_far = field_pieced indent f so_far

  -- a member on a line of its own
  abbrev pub member_line_pieced : ℕ → Member → Pieced
  member_line_pieced indent m so_far = class_member_pieced indent m (new_line_pieced indent so_far)

  abbrev pub members_pieced : List Member → Pieced
  members_pieced members so_far = if length members == 0 then so_far ++ Blank ∷ Symbol symbol.RightBrace ∷ [] else each_pieced (member_line_pieced 1) members so_far ++ Line 0 ∷ Symbol symbol.RightBrace ∷ []

  abbrev pub above_pieced : List Piece → Ident → Pieced
  above_pieced word name so_far = ident_pieced name (so_far ++ word)

  -- what stands before the `{` of a class, behind its annotations
  abbrev pub class_head_pieced : ClassTree → Pieced
  class_head_pieced c so_far = if_there_pieced (above_pieced (Blank ∷ Keyword keyword.Implements ∷ Blank ∷ [])) c.interface (if_there_pieced (above_pieced (Blank ∷ Keyword keyword.Extends ∷ Blank ∷ [])) c.superclass (ident_pieced c.ident (modifiers_pieced c.modifiers so_far ++ Keyword keyword.Class ∷ Blank ∷ [])))

  abbrev pub class_pieced : ClassTree → Pieced
  class_pieced c so_far = members_pieced c.members (class_head_pieced c (annotations_pieced 0 c.annotations so_far) ++ Blank ∷ Symbol symbol.LeftBrace ∷ [])

  abbrev pub import_pieced : Import → Pieced
  import_pieced i so_far = put_if_pieced i.is_all (Symbol symbol.DotStar ∷ []) (path_pieced i.path (so_far ++ Keyword keyword.Import ∷ Blank ∷ []))

  -- ---- scripts

  abbrev pub top_pieced : Top → Pieced
  top_pieced (top.Import i) so_far = import_pieced i so_far
  top_pieced (top.Class c) so_far = class_pieced c so_far
  top_pieced (top.Method m) so_far = method_pieced 0 m so_far
  top_pieced (top.Decl annotations d) so_far = decl_pieced 0 d (annotations_pieced 0 annotations so_far)
  top_pieced (top.Stmt s) so_far = trees.stmt 0 s so_far

  -- with the end of its last line
  abbrev pub top_line_pieced : Top → Pieced
  top_line_pieced t so_far = top_pieced t so_far ++ Line 0 ∷ []

-- ---- trees of any depth

-- as deep as `n` expressions and statements may stand in one another
abbrev pub tree_pieced : ℕ → (ℕ → Expr → Pieced) × (ℕ → Stmt → Pieced)
tree_pieced zero = (λ indent x so_far. so_far, λ indent s so_far. so_far)
tree_pieced (suc n) = (
  λ indent x so_far. expr_pieced_in (record { begins_signed = begins_signed n; expr = (tree_pieced n).0; stmt = (tree_pieced n).1 }) indent (out-Expr x) so_far,
  λ indent s so_far. stmt_pieced_in (record { begins_signed = begins_signed n; expr = (tree_pieced n).0; stmt = (tree_pieced n).1 }) indent (out-Stmt s) so_far,
)

abbrev pub piece_trees : ℕ → PieceTrees
piece_trees n = record { begins_signed = begins_signed n; expr = (tree_pieced n).0; stmt = (tree_pieced n).1 }

-- the pieces of a script
abbrev pub pieces_of : Script → List Piece
pieces_of script = each_pieced (top_line_pieced (piece_trees most_levels)) script.tops []
