-- The forms of the grammar.
use Rattle.std.proofs.Common.{◌≡◌, ℕ, zero, suc, ◌==◌, Bool, true, false, List, [], ◌∷◌, ◌++◌, codes, length, Option, Some, None, if◌then◌else◌, refl, sym, ap, ◌∙◌}
use Rattle.gv_tree.specs.declared.expr.Arg.{Arg, out-Arg}
use Rattle.gv_tree.specs.declared.expr.Arg.TheOpen.{Arg-F, Closure-F, Entry-F, Expr-F, Item-F, Key-F, Label-F, Stmt-F}
use Rattle.gv_tree.specs.declared.expr.Atom.TheVariants as atom
use Rattle.gv_tree.specs.declared.expr.Closure.{Closure, out-Closure}
use Rattle.gv_tree.specs.declared.expr.Entry.{Entry, out-Entry}
use Rattle.gv_tree.specs.declared.expr.Expr.{Expr, out-Expr}
use Rattle.gv_tree.specs.declared.expr.GString.{GString, out-GString}
use Rattle.gv_tree.specs.declared.expr.Item.{Item, out-Item}
use Rattle.gv_tree.specs.declared.expr.Key.{Key, out-Key}
use Rattle.gv_tree.specs.declared.expr.Label.{Label, out-Label}
use Rattle.gv_tree.specs.declared.expr.Param.{Param, out-Param}
use Rattle.gv_tree.specs.declared.expr.Part.{Part, out-Part}
use Rattle.gv_tree.specs.declared.ops.Ident.{Ident}
use Rattle.gv_tree.specs.declared.ops.UnaryOp.{UnaryOp}
use Rattle.gv_tree.specs.declared.ops.VarType.{VarType}
use Rattle.gv_tree.specs.declared.stmt.Case.{Case, out-Case}
use Rattle.gv_tree.specs.declared.stmt.Catch.{Catch, out-Catch}
use Rattle.gv_tree.specs.declared.stmt.Decl.{Decl, out-Decl}
use Rattle.gv_tree.specs.declared.stmt.Stmt.{Stmt, out-Stmt}
use Rattle.gv_tree.specs.declared.stmt.Var.{Var, out-Var}
use Rattle.gv_tree.specs.declared.top.Annotation.{Annotation}
use Rattle.gv_tree.specs.declared.top.ClassTree.{ClassTree}
use Rattle.gv_tree.specs.declared.top.Constructor.{Constructor}
use Rattle.gv_tree.specs.declared.top.Field.{Field}
use Rattle.gv_tree.specs.declared.top.Import.{Import}
use Rattle.gv_tree.specs.declared.top.Member.{Member}
use Rattle.gv_tree.specs.declared.top.Member.TheVariants as member
use Rattle.gv_tree.specs.declared.top.Method.{Method}
use Rattle.gv_tree.specs.declared.top.Script.{Script}
use Rattle.gv_tree.specs.declared.top.Setting.{Setting}
use Rattle.gv_tree.specs.declared.top.Top.{Top}
use Rattle.gv_tree.specs.declared.top.Top.TheVariants as top
use Rattle.gv_spelling.specs.declared.kinds.Keyword.TheVariants as keyword
use Rattle.gv_spelling.specs.declared.kinds.Symbol.TheVariants as symbol
use Rattle.gv_print.specs.declared.strings.Quotes.{Quotes}
use Rattle.gv_print.specs.declared.strings.Quotes.TheVariants as quotes
use Rattle.gv_pieces.specs.Pieces.{Piece, Blank, Line, Symbol, Keyword, Name, Int, Long, Open, Chars, PartOpen, PartClose, Close, texts_of}
use Rattle.gv_print.specs.Texts as texts
use Rattle.gv_print.specs.Texts.{deeper, is_behind, unary_text, gap}
use Rattle.gv_print.specs.Printed as printed
use Rattle.gv_print.specs.Printed.{Trees, Layer, StmtLayer}
use Rattle.gv_pieces.specs.Pieced as pieced
use Rattle.gv_pieces.specs.Pieced.{PieceTrees, part_start_pieces}
use Rattle.gv_pieces.specs.Words as words
use Rattle.gv_pieces.specs.Words.{unary_pieces, binary_pieces, type_op_pieces, assign_pieces, member_pieces, leave_pieces, gap_pieces}
use Rattle.gv_pieces.proofs.Agree.{Same, Agrees, texts-append, put, put_as, put_one, if_agrees, put_if_agrees, each_agrees, if_there_agrees, parted_agrees, listed_agrees, new_line_agrees, chars_agrees, string_agrees}
use Rattle.gv_pieces.proofs.Words.{ident_agrees, atom_agrees, type_agrees, written_agrees, answer_agrees, param_type_agrees, loop_type_agrees, types_agrees, modifiers_agrees, unary_same, binary_same, type_op_same, assign_same, member_same, leave_same, gap_same}

part_start_same : (names : List (List ℕ)) (is_lazy : Bool) → printed.part_start is_lazy ≡ texts_of names (part_start_pieces is_lazy)
part_start_same names true = refl
part_start_same names false = refl

module _ (names : List (List ℕ)) (T : Trees) (P : PieceTrees) (signed : (x : Expr) → T.begins_signed x ≡ P.begins_signed x) (expr : (indent : ℕ) (x : Expr) → Agrees names (T.expr indent x) (P.expr indent x)) (stmt : (indent : ℕ) (s : Stmt) → Agrees names (T.stmt indent s) (P.stmt indent s)) where
  led_agrees : (indent : ℕ) (before : List Piece) (x : Expr) → Agrees names (printed.led_printed names T indent (texts_of names before) x) (pieced.led_pieced P indent before x)
  led_agrees indent before x t ps same = expr indent x _ _ (put names before same)

  led_as : (indent : ℕ) (text : List ℕ) (before : List Piece) → text ≡ texts_of names before → (x : Expr) {t : List ℕ} {ps : List Piece} → Same names t ps → Same names (printed.led_printed names T indent text x t) (pieced.led_pieced P indent before x ps)
  led_as indent text before e x same = expr indent x _ _ (put_as names text before e same)

  part_agrees : (indent : ℕ) (part : Part) → Agrees names (printed.part_printed names T indent part) (pieced.part_pieced P indent part)
  part_agrees indent part t ps same = chars_agrees names quotes.Double (out-Part part).behind _ _ (put names (PartClose ∷ []) (expr indent (out-Part part).value _ _ (put_as names _ (part_start_pieces (out-Part part).is_lazy) (part_start_same names (out-Part part).is_lazy) same)))

  gstring_agrees : (indent : ℕ) (g : GString) → Agrees names (printed.gstring_printed names T indent g) (pieced.gstring_pieced P indent g)
  gstring_agrees indent g t ps same = put names (Close quotes.Double ∷ []) (each_agrees names _ _ (part_agrees indent) (out-GString g).parts _ _ (chars_agrees names quotes.Double (out-GString g).head _ _ (put names (Open quotes.Double ∷ []) same)))

  gap_agrees : (op : UnaryOp) (x : Expr) → gap op (T.begins_signed x) ≡ texts_of names (gap_pieces op (P.begins_signed x))
  gap_agrees op x = ap (gap op) (signed x) ∙ gap_same names op (P.begins_signed x)

  unary_agrees : (indent : ℕ) (op : UnaryOp) (x : Expr) → Agrees names (printed.unary_printed names T indent op x) (pieced.unary_pieced P indent op x)
  unary_agrees indent op x t ps same = if_agrees names (is_behind op) (put_as names _ (unary_pieces op) (unary_same names op) (expr indent x _ _ same)) (expr indent x _ _ (put_as names _ (gap_pieces op (P.begins_signed x)) (gap_agrees op x) (put_as names _ (unary_pieces op) (unary_same names op) same)))

  above_agrees : (word : List Piece) (name : Ident) → Agrees names (printed.above_printed names T (texts_of names word) name) (pieced.above_pieced P word name)
  above_agrees word name t ps same = ident_agrees names name _ _ (put names word same)

  pub label_agrees_in : (x0 : ℕ) (x1 : Label-F Arg Closure Entry Expr Item Key Label Stmt GString Param Part Case Catch Decl Var) → Agrees names (printed.label_in names T x0 x1) (pieced.label_pieced_in P x0 x1)
  label_agrees_in indent (Label-F.Name name) t0 ps0 same = ident_agrees names name _ _ same
  label_agrees_in indent (Label-F.Text text) t0 ps0 same = string_agrees names (text.name) _ _ same
  label_agrees_in indent (Label-F.«Label::GString» p g) t0 ps0 same = gstring_agrees indent g _ _ same

  pub label_agrees : (x0 : ℕ) (x1 : Label) → Agrees names (printed.label_printed names T x0 x1) (pieced.label_pieced P x0 x1)
  label_agrees indent l t0 ps0 same = label_agrees_in indent (out-Label l) _ _ same

  pub key_agrees_in : (x0 : ℕ) (x1 : Key-F Arg Closure Entry Expr Item Key Label Stmt GString Param Part Case Catch Decl Var) → Agrees names (printed.key_in names T x0 x1) (pieced.key_pieced_in P x0 x1)
  key_agrees_in indent (Key-F.Label l) t0 ps0 same = label_agrees indent l _ _ same
  key_agrees_in indent (Key-F.Int p n) t0 ps0 same = atom_agrees names (atom.Int n) _ _ same
  key_agrees_in indent (Key-F.Long p n) t0 ps0 same = atom_agrees names (atom.Long n) _ _ same

  pub key_agrees : (x0 : ℕ) (x1 : Key) → Agrees names (printed.key_printed names T x0 x1) (pieced.key_pieced P x0 x1)
  key_agrees indent k t0 ps0 same = key_agrees_in indent (out-Key k) _ _ same

  pub item_agrees_in : (x0 : ℕ) (x1 : Item-F Arg Closure Entry Expr Item Key Label Stmt GString Param Part Case Catch Decl Var) → Agrees names (printed.item_in names T x0 x1) (pieced.item_pieced_in P x0 x1)
  item_agrees_in indent (Item-F.«Item::Plain» x) t0 ps0 same = expr indent x _ _ same
  item_agrees_in indent (Item-F.«Item::Spread» p x) t0 ps0 same = led_agrees indent (Symbol symbol.Star ∷ []) x _ _ same

  pub item_agrees : (x0 : ℕ) (x1 : Item) → Agrees names (printed.item_printed names T x0 x1) (pieced.item_pieced P x0 x1)
  item_agrees indent i t0 ps0 same = item_agrees_in indent (out-Item i) _ _ same

  pub entry_agrees_in : (x0 : ℕ) (x1 : Entry-F Arg Closure Entry Expr Item Key Label Stmt GString Param Part Case Catch Decl Var) → Agrees names (printed.entry_in names T x0 x1) (pieced.entry_pieced_in P x0 x1)
  entry_agrees_in indent (Entry-F.«Entry::Keyed» k x) t0 ps0 same = led_agrees indent (Symbol symbol.Colon ∷ Blank ∷ []) x _ _ (key_agrees indent k _ _ same)
  entry_agrees_in indent (Entry-F.Computed p k x) t0 ps0 same = led_agrees indent (Symbol symbol.RightParen ∷ Symbol symbol.Colon ∷ Blank ∷ []) x _ _ (led_agrees indent (Symbol symbol.LeftParen ∷ []) k _ _ same)
  entry_agrees_in indent (Entry-F.«Entry::Spread» p x) t0 ps0 same = led_agrees indent (Symbol symbol.SpreadColon ∷ []) x _ _ same

  pub entry_agrees : (x0 : ℕ) (x1 : Entry) → Agrees names (printed.entry_printed names T x0 x1) (pieced.entry_pieced P x0 x1)
  entry_agrees indent e t0 ps0 same = entry_agrees_in indent (out-Entry e) _ _ same

  pub map_agrees : (x0 : ℕ) (x1 : List Entry) → Agrees names (printed.map_printed names T x0 x1) (pieced.map_pieced P x0 x1)
  map_agrees indent entries t0 ps0 same = if_agrees names (length entries == 0) (put names (Symbol symbol.LeftBracket ∷ Symbol symbol.Colon ∷ Symbol symbol.RightBracket ∷ []) same) (put_one names (Symbol symbol.RightBracket) (listed_agrees names _ _ (entry_agrees indent) true entries _ _ (put_one names (Symbol symbol.LeftBracket) same)))

  pub arg_agrees_in : (x0 : ℕ) (x1 : Arg-F Arg Closure Entry Expr Item Key Label Stmt GString Param Part Case Catch Decl Var) → Agrees names (printed.arg_in names T x0 x1) (pieced.arg_pieced_in P x0 x1)
  arg_agrees_in indent (Arg-F.«Arg::Plain» x) t0 ps0 same = expr indent x _ _ same
  arg_agrees_in indent (Arg-F.«Arg::Keyed» k x) t0 ps0 same = led_agrees indent (Symbol symbol.Colon ∷ Blank ∷ []) x _ _ (key_agrees indent k _ _ same)
  arg_agrees_in indent (Arg-F.«Arg::Spread» p x) t0 ps0 same = led_agrees indent (Symbol symbol.Star ∷ []) x _ _ same
  arg_agrees_in indent (Arg-F.SpreadMap p x) t0 ps0 same = led_agrees indent (Symbol symbol.SpreadColon ∷ []) x _ _ same

  pub arg_agrees : (x0 : ℕ) (x1 : Arg) → Agrees names (printed.arg_printed names T x0 x1) (pieced.arg_pieced P x0 x1)
  arg_agrees indent a t0 ps0 same = arg_agrees_in indent (out-Arg a) _ _ same

  pub args_agrees : (x0 : ℕ) (x1 : List Arg) → Agrees names (printed.args_printed names T x0 x1) (pieced.args_pieced P x0 x1)
  args_agrees indent args t0 ps0 same = put_one names (Symbol symbol.RightParen) (listed_agrees names _ _ (arg_agrees indent) true args _ _ (put_one names (Symbol symbol.LeftParen) same))

  pub var_agrees : (x0 : ℕ) (x1 : Var) → Agrees names (printed.var_printed names T x0 x1) (pieced.var_pieced P x0 x1)
  var_agrees indent v t0 ps0 same = if_there_agrees names _ _ (led_agrees indent (Blank ∷ Symbol symbol.Assign ∷ Blank ∷ [])) (out-Var v).initial _ _ (ident_agrees names (out-Var v).ident _ _ same)

  pub vars_agrees : (x0 : ℕ) (x1 : VarType) (x2 : List Var) → Agrees names (printed.vars_printed names T x0 x1 x2) (pieced.vars_pieced P x0 x1 x2)
  vars_agrees indent w vars t0 ps0 same = listed_agrees names _ _ (var_agrees indent) true vars _ _ (put_one names (Blank) (written_agrees names w _ _ same))

  pub decl_agrees : (x0 : ℕ) (x1 : Decl) → Agrees names (printed.decl_printed names T x0 x1) (pieced.decl_pieced P x0 x1)
  decl_agrees indent d t0 ps0 same = vars_agrees indent (out-Decl d).written (out-Decl d).vars _ _ (put_if_agrees names (out-Decl d).is_final (Keyword keyword.Final ∷ Blank ∷ []) _ _ same)

  pub param_agrees : (x0 : ℕ) (x1 : Param) → Agrees names (printed.param_printed names T x0 x1) (pieced.param_pieced P x0 x1)
  param_agrees indent x t0 ps0 same = if_there_agrees names _ _ (led_agrees indent (Blank ∷ Symbol symbol.Assign ∷ Blank ∷ [])) (out-Param x).initial _ _ (ident_agrees names (out-Param x).ident _ _ (if_there_agrees names _ _ (param_type_agrees names (out-Param x).is_rest) (out-Param x).written _ _ (put_if_agrees names (out-Param x).is_final (Keyword keyword.Final ∷ Blank ∷ []) _ _ same)))

  pub params_agrees : (x0 : ℕ) (x1 : List Param) → Agrees names (printed.params_printed names T x0 x1) (pieced.params_pieced P x0 x1)
  params_agrees indent params t0 ps0 same = listed_agrees names _ _ (param_agrees indent) true params _ _ same

  pub line_agrees : (x0 : ℕ) (x1 : Stmt) → Agrees names (printed.line_printed names T x0 x1) (pieced.line_pieced P x0 x1)
  line_agrees indent s t0 ps0 same = stmt indent s _ _ (new_line_agrees names indent _ _ same)

  pub filled_agrees : (x0 : ℕ) (x1 : List Stmt) → Agrees names (printed.filled names T x0 x1) (pieced.filled_pieced P x0 x1)
  filled_agrees indent stmts t0 ps0 same = if_agrees names (length stmts == 0) (put names (Blank ∷ Symbol symbol.RightBrace ∷ []) same) (put_one names (Symbol symbol.RightBrace) (new_line_agrees names indent _ _ (each_agrees names _ _ (line_agrees (deeper indent)) stmts _ _ same)))

  pub block_agrees : (x0 : ℕ) (x1 : List Stmt) → Agrees names (printed.block_printed names T x0 x1) (pieced.block_pieced P x0 x1)
  block_agrees indent stmts t0 ps0 same = filled_agrees indent stmts _ _ (put_one names (Symbol symbol.LeftBrace) same)

  pub closure_params_agrees : (x0 : ℕ) (x1 : List Param) → Agrees names (printed.closure_params_printed names T x0 x1) (pieced.closure_params_pieced P x0 x1)
  closure_params_agrees indent params t0 ps0 same = put names (Blank ∷ Symbol symbol.Arrow ∷ []) (if_agrees names (length params == 0) (same) (params_agrees indent params _ _ (put_one names (Blank) same)))

  pub closure_agrees_in : (x0 : ℕ) (x1 : Closure-F Arg Closure Entry Expr Item Key Label Stmt GString Param Part Case Catch Decl Var) → Agrees names (printed.closure_in names T x0 x1) (pieced.closure_pieced_in P x0 x1)
  closure_agrees_in indent (Closure-F.Read params stmts) t0 ps0 same = filled_agrees indent stmts _ _ (if_there_agrees names _ _ (closure_params_agrees indent) params _ _ (put_one names (Symbol symbol.LeftBrace) same))
  closure_agrees_in indent (Closure-F.Unread from to) t0 ps0 same = put names (Symbol symbol.LeftBrace ∷ Blank ∷ Symbol symbol.RightBrace ∷ []) same

  pub closure_agrees : (x0 : ℕ) (x1 : Closure) → Agrees names (printed.closure_printed names T x0 x1) (pieced.closure_pieced P x0 x1)
  closure_agrees indent c t0 ps0 same = closure_agrees_in indent (out-Closure c) _ _ same

  pub choice_agrees : (x0 : ℕ) (x1 : Expr) (x2 : Option Expr) (x3 : Expr) → Agrees names (printed.choice_printed names T x0 x1 x2 x3) (pieced.choice_pieced P x0 x1 x2 x3)
  choice_agrees indent x (Some y) z t0 ps0 same = led_agrees indent (Blank ∷ Symbol symbol.Colon ∷ Blank ∷ []) z _ _ (led_agrees indent (Blank ∷ Symbol symbol.Question ∷ Blank ∷ []) y _ _ (expr indent x _ _ same))
  choice_agrees indent x None z t0 ps0 same = led_agrees indent (Blank ∷ Symbol symbol.Elvis ∷ Blank ∷ []) z _ _ (expr indent x _ _ same)

  pub expr_agrees_in : (x0 : ℕ) (x1 : Layer) → Agrees names (printed.expr_in names T x0 x1) (pieced.expr_pieced_in P x0 x1)
  expr_agrees_in indent (Expr-F.Atom p a) t0 ps0 same = atom_agrees names a _ _ same
  expr_agrees_in indent (Expr-F.«Expr::GString» p g) t0 ps0 same = gstring_agrees indent g _ _ same
  expr_agrees_in indent (Expr-F.Paren p x) t0 ps0 same = put_one names (Symbol symbol.RightParen) (led_agrees indent (Symbol symbol.LeftParen ∷ []) x _ _ same)
  expr_agrees_in indent (Expr-F.List p items) t0 ps0 same = put_one names (Symbol symbol.RightBracket) (listed_agrees names _ _ (item_agrees indent) true items _ _ (put_one names (Symbol symbol.LeftBracket) same))
  expr_agrees_in indent (Expr-F.Map p entries) t0 ps0 same = map_agrees indent entries _ _ same
  expr_agrees_in indent (Expr-F.Closure p c) t0 ps0 same = closure_agrees indent c _ _ same
  expr_agrees_in indent (Expr-F.New p name args) t0 ps0 same = args_agrees indent args _ _ (ident_agrees names name _ _ (put names (Keyword keyword.New ∷ Blank ∷ []) same))
  expr_agrees_in indent (Expr-F.Unary p op x) t0 ps0 same = unary_agrees indent op x _ _ same
  expr_agrees_in indent (Expr-F.Binary p op x y) t0 ps0 same = led_as indent _ (binary_pieces op) (binary_same names op) y (expr indent x _ _ same)
  expr_agrees_in indent (Expr-F.Typed p op x t) t0 ps0 same = type_agrees names t _ _ (put_as names _ (type_op_pieces op) (type_op_same names op) (expr indent x _ _ same))
  expr_agrees_in indent (Expr-F.Choice p x y z) t0 ps0 same = choice_agrees indent x y z _ _ same
  expr_agrees_in indent (Expr-F.Assign p op x y) t0 ps0 same = led_as indent _ (assign_pieces op) (assign_same names op) y (expr indent x _ _ same)
  expr_agrees_in indent (Expr-F.Member p op x l) t0 ps0 same = label_agrees indent l _ _ (put_as names _ (member_pieces op) (member_same names op) (expr indent x _ _ same))
  expr_agrees_in indent (Expr-F.Field p x name) t0 ps0 same = ident_agrees names name _ _ (put_one names (Symbol symbol.FieldDot) (expr indent x _ _ same))
  expr_agrees_in indent (Expr-F.Index p x xs) t0 ps0 same = put_one names (Symbol symbol.RightBracket) (listed_agrees names _ _ (expr indent) true xs _ _ (put_one names (Symbol symbol.LeftBracket) (expr indent x _ _ same)))
  expr_agrees_in indent (Expr-F.Call p x args) t0 ps0 same = args_agrees indent args _ _ (expr indent x _ _ same)

  pub body_agrees_in : (x0 : ℕ) (x1 : Stmt) (x2 : StmtLayer) → Agrees names (printed.body_in names T x0 x1 x2) (pieced.body_pieced_in P x0 x1 x2)
  body_agrees_in indent s (Stmt-F.Block p stmts) t0 ps0 same = block_agrees indent stmts _ _ (put_one names (Blank) same)
  body_agrees_in indent s layer t0 ps0 same = line_agrees (deeper indent) s _ _ same

  pub body_agrees : (x0 : ℕ) (x1 : Stmt) → Agrees names (printed.body_printed names T x0 x1) (pieced.body_pieced P x0 x1)
  body_agrees indent s t0 ps0 same = body_agrees_in indent s (out-Stmt s) _ _ same

  pub else_agrees : (x0 : ℕ) (x1 : Stmt) → Agrees names (printed.else_printed names T x0 x1) (pieced.else_pieced P x0 x1)
  else_agrees indent s t0 ps0 same = body_agrees indent s _ _ (put_one names (Keyword keyword.Else) (new_line_agrees names indent _ _ same))

  pub for_agrees : (x0 : ℕ) (x1 : Option Stmt) (x2 : Option Expr) (x3 : Option Expr) → Agrees names (printed.for_printed names T x0 x1 x2 x3) (pieced.for_pieced P x0 x1 x2 x3)
  for_agrees indent first test step t0 ps0 same = put_one names (Symbol symbol.RightParen) (if_there_agrees names _ _ (expr indent) step _ _ (put names (Symbol symbol.Semicolon ∷ Blank ∷ []) (if_there_agrees names _ _ (expr indent) test _ _ (put names (Symbol symbol.Semicolon ∷ Blank ∷ []) (if_there_agrees names _ _ (stmt indent) first _ _ (put names (Keyword keyword.For ∷ Blank ∷ Symbol symbol.LeftParen ∷ []) same))))))

  pub case_value_agrees : (x0 : ℕ) (x1 : Option Expr) → Agrees names (printed.case_value_printed names T x0 x1) (pieced.case_value_pieced P x0 x1)
  case_value_agrees indent None t0 ps0 same = put names (Keyword keyword.Default ∷ Symbol symbol.Colon ∷ []) same
  case_value_agrees indent (Some x) t0 ps0 same = put_one names (Symbol symbol.Colon) (led_agrees indent (Keyword keyword.Case ∷ Blank ∷ []) x _ _ same)

  pub case_agrees : (x0 : ℕ) (x1 : Case) → Agrees names (printed.case_printed names T x0 x1) (pieced.case_pieced P x0 x1)
  case_agrees indent c t0 ps0 same = each_agrees names _ _ (line_agrees (deeper indent)) (out-Case c).body _ _ (case_value_agrees indent (out-Case c).value _ _ (new_line_agrees names indent _ _ same))

  pub cases_agrees : (x0 : ℕ) (x1 : List Case) → Agrees names (printed.cases_printed names T x0 x1) (pieced.cases_pieced P x0 x1)
  cases_agrees indent cases t0 ps0 same = if_agrees names (length cases == 0) (put names (Blank ∷ Symbol symbol.RightBrace ∷ []) same) (put_one names (Symbol symbol.RightBrace) (new_line_agrees names indent _ _ (each_agrees names _ _ (case_agrees (deeper indent)) cases _ _ same)))

  pub catch_agrees : (x0 : ℕ) (x1 : Catch) → Agrees names (printed.catch_printed names T x0 x1) (pieced.catch_pieced P x0 x1)
  catch_agrees indent c t0 ps0 same = block_agrees indent (out-Catch c).body _ _ (put names (Symbol symbol.RightParen ∷ Blank ∷ []) (ident_agrees names (out-Catch c).ident _ _ (types_agrees names (out-Catch c).types _ _ (put names (Keyword keyword.Catch ∷ Blank ∷ Symbol symbol.LeftParen ∷ []) (new_line_agrees names indent _ _ same)))))

  pub finally_agrees : (x0 : ℕ) (x1 : List Stmt) → Agrees names (printed.finally_printed names T x0 x1) (pieced.finally_pieced P x0 x1)
  finally_agrees indent stmts t0 ps0 same = block_agrees indent stmts _ _ (put names (Keyword keyword.Finally ∷ Blank ∷ []) (new_line_agrees names indent _ _ same))

  pub stmt_agrees_in : (x0 : ℕ) (x1 : StmtLayer) → Agrees names (printed.stmt_in names T x0 x1) (pieced.stmt_pieced_in P x0 x1)
  stmt_agrees_in indent (Stmt-F.Decl d) t0 ps0 same = decl_agrees indent d _ _ same
  stmt_agrees_in indent (Stmt-F.Multiple p idents x) t0 ps0 same = led_agrees indent (Symbol symbol.RightParen ∷ Blank ∷ Symbol symbol.Assign ∷ Blank ∷ []) x _ _ (listed_agrees names _ _ (ident_agrees names) true idents _ _ (put names (Keyword keyword.Def ∷ Blank ∷ Symbol symbol.LeftParen ∷ []) same))
  stmt_agrees_in indent (Stmt-F.Expr x) t0 ps0 same = expr indent x _ _ same
  stmt_agrees_in indent (Stmt-F.Block p stmts) t0 ps0 same = block_agrees indent stmts _ _ same
  stmt_agrees_in indent (Stmt-F.If p x s t) t0 ps0 same = if_there_agrees names _ _ (else_agrees indent) t _ _ (body_agrees indent s _ _ (put_one names (Symbol symbol.RightParen) (led_agrees indent (Keyword keyword.If ∷ Blank ∷ Symbol symbol.LeftParen ∷ []) x _ _ same)))
  stmt_agrees_in indent (Stmt-F.While p x s) t0 ps0 same = body_agrees indent s _ _ (put_one names (Symbol symbol.RightParen) (led_agrees indent (Keyword keyword.While ∷ Blank ∷ Symbol symbol.LeftParen ∷ []) x _ _ same))
  stmt_agrees_in indent (Stmt-F.ForIn p w name x s) t0 ps0 same = body_agrees indent s _ _ (put_one names (Symbol symbol.RightParen) (led_agrees indent (Blank ∷ Keyword keyword.In ∷ Blank ∷ []) x _ _ (ident_agrees names name _ _ (if_there_agrees names _ _ (loop_type_agrees names) w _ _ (put names (Keyword keyword.For ∷ Blank ∷ Symbol symbol.LeftParen ∷ []) same)))))
  stmt_agrees_in indent (Stmt-F.For p first test step s) t0 ps0 same = body_agrees indent s _ _ (for_agrees indent first test step _ _ same)
  stmt_agrees_in indent (Stmt-F.Switch p x cases) t0 ps0 same = cases_agrees indent cases _ _ (put names (Symbol symbol.RightParen ∷ Blank ∷ Symbol symbol.LeftBrace ∷ []) (led_agrees indent (Keyword keyword.Switch ∷ Blank ∷ Symbol symbol.LeftParen ∷ []) x _ _ same))
  stmt_agrees_in indent (Stmt-F.Try p stmts catches last) t0 ps0 same = if_there_agrees names _ _ (finally_agrees indent) last _ _ (each_agrees names _ _ (catch_agrees indent) catches _ _ (block_agrees indent stmts _ _ (put names (Keyword keyword.Try ∷ Blank ∷ []) same)))
  stmt_agrees_in indent (Stmt-F.Throw p x) t0 ps0 same = led_agrees indent (Keyword keyword.Throw ∷ Blank ∷ []) x _ _ same
  stmt_agrees_in indent (Stmt-F.Return p x) t0 ps0 same = if_there_agrees names _ _ (led_agrees indent (Blank ∷ [])) x _ _ (put_one names (Keyword keyword.Return) same)
  stmt_agrees_in indent (Stmt-F.Leave p l) t0 ps0 same = put_as names _ (leave_pieces l) (leave_same names l) same
  stmt_agrees_in indent (Stmt-F.Assert p x message) t0 ps0 same = if_there_agrees names _ _ (led_agrees indent (Symbol symbol.Colon ∷ Blank ∷ [])) message _ _ (led_agrees indent (Keyword keyword.Assert ∷ Blank ∷ []) x _ _ same)

  pub path_agrees : (x0 : List Ident) → Agrees names (printed.path_printed names T x0) (pieced.path_pieced P x0)
  path_agrees path t0 ps0 same = parted_agrees names (Symbol symbol.Dot ∷ []) _ _ (ident_agrees names) true path _ _ same

  pub setting_agrees : (x0 : ℕ) (x1 : Setting) → Agrees names (printed.setting_printed names T x0 x1) (pieced.setting_pieced P x0 x1)
  setting_agrees indent s t0 ps0 same = led_agrees indent (Blank ∷ Symbol symbol.Assign ∷ Blank ∷ []) s.value _ _ (ident_agrees names s.ident _ _ same)

  pub settings_agrees : (x0 : ℕ) (x1 : List Setting) → Agrees names (printed.settings_printed names T x0 x1) (pieced.settings_pieced P x0 x1)
  settings_agrees indent settings t0 ps0 same = if_agrees names (length settings == 0) (same) (put_one names (Symbol symbol.RightParen) (listed_agrees names _ _ (setting_agrees indent) true settings _ _ (put_one names (Symbol symbol.LeftParen) same)))

  pub annotation_agrees : (x0 : ℕ) (x1 : Annotation) → Agrees names (printed.annotation_printed names T x0 x1) (pieced.annotation_pieced P x0 x1)
  annotation_agrees indent a t0 ps0 same = new_line_agrees names indent _ _ (settings_agrees indent a.settings _ _ (path_agrees a.path _ _ (put_one names (Symbol symbol.At) same)))

  pub annotations_agrees : (x0 : ℕ) (x1 : List Annotation) → Agrees names (printed.annotations_printed names T x0 x1) (pieced.annotations_pieced P x0 x1)
  annotations_agrees indent annotations t0 ps0 same = each_agrees names _ _ (annotation_agrees indent) annotations _ _ same

  pub called_agrees : (x0 : ℕ) (x1 : Ident) (x2 : List Param) (x3 : List Stmt) → Agrees names (printed.called_printed names T x0 x1 x2 x3) (pieced.called_pieced P x0 x1 x2 x3)
  called_agrees indent name params stmts t0 ps0 same = block_agrees indent stmts _ _ (put names (Symbol symbol.RightParen ∷ Blank ∷ []) (params_agrees indent params _ _ (put_one names (Symbol symbol.LeftParen) (ident_agrees names name _ _ same))))

  pub method_agrees : (x0 : ℕ) (x1 : Method) → Agrees names (printed.method_printed names T x0 x1) (pieced.method_pieced P x0 x1)
  method_agrees indent m t0 ps0 same = called_agrees indent m.ident m.params m.body _ _ (put_one names (Blank) (answer_agrees names m.answer _ _ (modifiers_agrees names m.modifiers _ _ (annotations_agrees indent m.annotations _ _ same))))

  pub constructor_agrees : (x0 : ℕ) (x1 : Constructor) → Agrees names (printed.constructor_printed names T x0 x1) (pieced.constructor_pieced P x0 x1)
  constructor_agrees indent c t0 ps0 same = called_agrees indent c.ident c.params c.body _ _ (modifiers_agrees names c.modifiers _ _ (annotations_agrees indent c.annotations _ _ same))

  pub field_agrees : (x0 : ℕ) (x1 : Field) → Agrees names (printed.field_printed names T x0 x1) (pieced.field_pieced P x0 x1)
  field_agrees indent f t0 ps0 same = vars_agrees indent f.written f.vars _ _ (modifiers_agrees names f.modifiers _ _ (annotations_agrees indent f.annotations _ _ same))

  pub class_member_agrees : (x0 : ℕ) (x1 : Member) → Agrees names (printed.class_member_printed names T x0 x1) (pieced.class_member_pieced P x0 x1)
  class_member_agrees indent (member.Method m) t0 ps0 same = method_agrees indent m _ _ same
  class_member_agrees indent (member.Constructor c) t0 ps0 same = constructor_agrees indent c _ _ same
  class_member_agrees indent (member.Field f) t0 ps0 same = field_agrees indent f _ _ same

  pub member_line_agrees : (x0 : ℕ) (x1 : Member) → Agrees names (printed.member_line_printed names T x0 x1) (pieced.member_line_pieced P x0 x1)
  member_line_agrees indent m t0 ps0 same = class_member_agrees indent m _ _ (new_line_agrees names indent _ _ same)

  pub members_agrees : (x0 : List Member) → Agrees names (printed.members_printed names T x0) (pieced.members_pieced P x0)
  members_agrees members t0 ps0 same = if_agrees names (length members == 0) (put names (Blank ∷ Symbol symbol.RightBrace ∷ []) same) (put names (Line 0 ∷ Symbol symbol.RightBrace ∷ []) (each_agrees names _ _ (member_line_agrees 1) members _ _ same))

  pub class_head_agrees : (x0 : ClassTree) → Agrees names (printed.class_head_printed names T x0) (pieced.class_head_pieced P x0)
  class_head_agrees c t0 ps0 same = if_there_agrees names _ _ (above_agrees (Blank ∷ Keyword keyword.Implements ∷ Blank ∷ [])) c.interface _ _ (if_there_agrees names _ _ (above_agrees (Blank ∷ Keyword keyword.Extends ∷ Blank ∷ [])) c.superclass _ _ (ident_agrees names c.ident _ _ (put names (Keyword keyword.Class ∷ Blank ∷ []) (modifiers_agrees names c.modifiers _ _ same))))

  pub class_agrees : (x0 : ClassTree) → Agrees names (printed.class_printed names T x0) (pieced.class_pieced P x0)
  class_agrees c t0 ps0 same = members_agrees c.members _ _ (put names (Blank ∷ Symbol symbol.LeftBrace ∷ []) (class_head_agrees c _ _ (annotations_agrees 0 c.annotations _ _ same)))

  pub import_agrees : (x0 : Import) → Agrees names (printed.import_printed names T x0) (pieced.import_pieced P x0)
  import_agrees i t0 ps0 same = put_if_agrees names i.is_all (Symbol symbol.DotStar ∷ []) _ _ (path_agrees i.path _ _ (put names (Keyword keyword.Import ∷ Blank ∷ []) same))

  pub top_agrees : (x0 : Top) → Agrees names (printed.top_printed names T x0) (pieced.top_pieced P x0)
  top_agrees (top.Import i) t0 ps0 same = import_agrees i _ _ same
  top_agrees (top.Class c) t0 ps0 same = class_agrees c _ _ same
  top_agrees (top.Method m) t0 ps0 same = method_agrees 0 m _ _ same
  top_agrees (top.Decl annotations d) t0 ps0 same = decl_agrees 0 d _ _ (annotations_agrees 0 annotations _ _ same)
  top_agrees (top.Stmt s) t0 ps0 same = stmt 0 s _ _ same

  pub top_line_agrees : (x0 : Top) → Agrees names (printed.top_line_printed names T x0) (pieced.top_line_pieced P x0)
  top_line_agrees t t0 ps0 same = put_one names (Line 0) (top_agrees t _ _ same)

module _ (names : List (List ℕ)) where
  tree_agrees : (n : ℕ) → ((indent : ℕ) (x : Expr) → Agrees names ((printed.tree_printed names n).0 indent x) ((pieced.tree_pieced n).0 indent x)) × ((indent : ℕ) (s : Stmt) → Agrees names ((printed.tree_printed names n).1 indent s) ((pieced.tree_pieced n).1 indent s))
  tree_agrees zero = (λ indent x t ps same. same, λ indent s t ps same. same)
  tree_agrees (suc n) = (
    λ indent x t ps same. expr_agrees_in names (printed.trees names n) (pieced.piece_trees n) (λ y. refl) (tree_agrees n).0 (tree_agrees n).1 indent (out-Expr x) t ps same,
    λ indent s t ps same. stmt_agrees_in names (printed.trees names n) (pieced.piece_trees n) (λ y. refl) (tree_agrees n).0 (tree_agrees n).1 indent (out-Stmt s) t ps same,
  )

  tops_same : (n : ℕ) (tops : List Top) → Same names (texts.each (printed.top_line_printed names (printed.trees names n)) tops []) (words.each_pieced (pieced.top_line_pieced (pieced.piece_trees n)) tops [])
  tops_same n tops =
      each_agrees names (printed.top_line_printed names (printed.trees names n)) (pieced.top_line_pieced (pieced.piece_trees n)) (λ top. top_line_agrees names (printed.trees names n) (pieced.piece_trees n) (λ y. refl) (tree_agrees n).0 (tree_agrees n).1 top) tops [] [] (record { is = refl })

  pub script_same : (script : Script) → printed.printed names script ≡ texts_of names (pieced.pieces_of script)
  script_same script = (tops_same printed.most_levels script.tops).is
