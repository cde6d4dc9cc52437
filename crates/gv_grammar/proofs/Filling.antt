-- Two ways to read the unread closures of an expression that agree on each of them give the same expression.
use Rattle.std.proofs.Common.{◌≡◌, ℕ, zero, List, [], ◌∷◌, ◌++◌, map, refl, sym, ap, subst, arith, Some, None, ◌∙◌}
use Rattle.std.specs.List.{Contains}
use Rattle.std.proofs.lemmas.List.Elements.{Contains-append_left, Contains-append_right}
use Rattle.gv_tree.specs.declared.expr.Arg.TheOpen.{Arg-F, Closure-F, Entry-F, Expr-F, Item-F, Key-F, Label-F, GString-F, Part-F}
use Rattle.gv_tree.specs.declared.expr.Arg.{Arg, roll-Arg, fold-Arg, fold-roll-Arg, map-Arg}
use Rattle.gv_tree.specs.declared.expr.Closure.{Closure, roll-Closure, fold-Closure, fold-roll-Closure, map-Closure}
use Rattle.gv_tree.specs.declared.expr.Entry.{Entry, roll-Entry, fold-Entry, fold-roll-Entry, map-Entry}
use Rattle.gv_tree.specs.declared.expr.Expr.{Expr, roll-Expr, fold-Expr, fold-roll-Expr, map-Expr, ind-Expr}
use Rattle.gv_tree.specs.declared.expr.Item.{Item, roll-Item, fold-Item, fold-roll-Item, map-Item}
use Rattle.gv_tree.specs.declared.expr.Key.{Key, roll-Key, fold-Key, fold-roll-Key, map-Key}
use Rattle.gv_tree.specs.declared.expr.Label.{Label, roll-Label, fold-Label, fold-roll-Label, map-Label}
use Rattle.gv_tree.specs.declared.stmt.Stmt.{Stmt, roll-Stmt, fold-Stmt}
use Rattle.gv_tree.specs.declared.expr.GString.{GString, roll-GString, fold-GString, fold-roll-GString, map-GString}
use Rattle.gv_tree.specs.declared.expr.Param.{Param, roll-Param, fold-Param}
use Rattle.gv_tree.specs.declared.expr.Part.{Part, roll-Part, fold-Part, fold-roll-Part, map-Part}
use Rattle.gv_tree.specs.declared.stmt.Case.{Case, roll-Case, fold-Case}
use Rattle.gv_tree.specs.declared.stmt.Catch.{Catch, roll-Catch, fold-Catch}
use Rattle.gv_tree.specs.declared.stmt.Decl.{Decl, roll-Decl, fold-Decl}
use Rattle.gv_tree.specs.declared.stmt.Var.{Var, roll-Var, fold-Var}
use Rattle.gv_grammar.specs.Closures.{read_layer, filled, Found, all_found, in_arg, in_closure, in_entry, in_expr, in_item, in_key, in_label, in_gstring, in_part, none_in_stmt, none_in_param, none_in_case, none_in_catch, none_in_decl, none_in_var, unread_places, unread_in}
use Rattle.gv_grammar.proofs.Single.{ap2, ap3}

abbrev Reader : Type 0
Reader = ℕ → ℕ → Closure

-- ---- the folds of each type

abbrev arg_with : Reader → Arg → Arg
arg_with r = fold-Arg Arg Closure Entry Expr Item Key Label Stmt GString Param Part Case Catch Decl Var roll-Arg (read_layer r) roll-Entry roll-Expr roll-Item roll-Key roll-Label roll-Stmt roll-GString roll-Param roll-Part roll-Case roll-Catch roll-Decl roll-Var

abbrev closure_with : Reader → Closure → Closure
closure_with r = fold-Closure Arg Closure Entry Expr Item Key Label Stmt GString Param Part Case Catch Decl Var roll-Arg (read_layer r) roll-Entry roll-Expr roll-Item roll-Key roll-Label roll-Stmt roll-GString roll-Param roll-Part roll-Case roll-Catch roll-Decl roll-Var

abbrev entry_with : Reader → Entry → Entry
entry_with r = fold-Entry Arg Closure Entry Expr Item Key Label Stmt GString Param Part Case Catch Decl Var roll-Arg (read_layer r) roll-Entry roll-Expr roll-Item roll-Key roll-Label roll-Stmt roll-GString roll-Param roll-Part roll-Case roll-Catch roll-Decl roll-Var

abbrev expr_with : Reader → Expr → Expr
expr_with r = fold-Expr Arg Closure Entry Expr Item Key Label Stmt GString Param Part Case Catch Decl Var roll-Arg (read_layer r) roll-Entry roll-Expr roll-Item roll-Key roll-Label roll-Stmt roll-GString roll-Param roll-Part roll-Case roll-Catch roll-Decl roll-Var

abbrev item_with : Reader → Item → Item
item_with r = fold-Item Arg Closure Entry Expr Item Key Label Stmt GString Param Part Case Catch Decl Var roll-Arg (read_layer r) roll-Entry roll-Expr roll-Item roll-Key roll-Label roll-Stmt roll-GString roll-Param roll-Part roll-Case roll-Catch roll-Decl roll-Var

abbrev key_with : Reader → Key → Key
key_with r = fold-Key Arg Closure Entry Expr Item Key Label Stmt GString Param Part Case Catch Decl Var roll-Arg (read_layer r) roll-Entry roll-Expr roll-Item roll-Key roll-Label roll-Stmt roll-GString roll-Param roll-Part roll-Case roll-Catch roll-Decl roll-Var

abbrev label_with : Reader → Label → Label
label_with r = fold-Label Arg Closure Entry Expr Item Key Label Stmt GString Param Part Case Catch Decl Var roll-Arg (read_layer r) roll-Entry roll-Expr roll-Item roll-Key roll-Label roll-Stmt roll-GString roll-Param roll-Part roll-Case roll-Catch roll-Decl roll-Var

abbrev stmt_with : Reader → Stmt → Stmt
stmt_with r = fold-Stmt Arg Closure Entry Expr Item Key Label Stmt GString Param Part Case Catch Decl Var roll-Arg (read_layer r) roll-Entry roll-Expr roll-Item roll-Key roll-Label roll-Stmt roll-GString roll-Param roll-Part roll-Case roll-Catch roll-Decl roll-Var

abbrev gstring_with : Reader → GString → GString
gstring_with r = fold-GString Arg Closure Entry Expr Item Key Label Stmt GString Param Part Case Catch Decl Var roll-Arg (read_layer r) roll-Entry roll-Expr roll-Item roll-Key roll-Label roll-Stmt roll-GString roll-Param roll-Part roll-Case roll-Catch roll-Decl roll-Var

abbrev param_with : Reader → Param → Param
param_with r = fold-Param Arg Closure Entry Expr Item Key Label Stmt GString Param Part Case Catch Decl Var roll-Arg (read_layer r) roll-Entry roll-Expr roll-Item roll-Key roll-Label roll-Stmt roll-GString roll-Param roll-Part roll-Case roll-Catch roll-Decl roll-Var

abbrev part_with : Reader → Part → Part
part_with r = fold-Part Arg Closure Entry Expr Item Key Label Stmt GString Param Part Case Catch Decl Var roll-Arg (read_layer r) roll-Entry roll-Expr roll-Item roll-Key roll-Label roll-Stmt roll-GString roll-Param roll-Part roll-Case roll-Catch roll-Decl roll-Var

abbrev case_with : Reader → Case → Case
case_with r = fold-Case Arg Closure Entry Expr Item Key Label Stmt GString Param Part Case Catch Decl Var roll-Arg (read_layer r) roll-Entry roll-Expr roll-Item roll-Key roll-Label roll-Stmt roll-GString roll-Param roll-Part roll-Case roll-Catch roll-Decl roll-Var

abbrev catch_with : Reader → Catch → Catch
catch_with r = fold-Catch Arg Closure Entry Expr Item Key Label Stmt GString Param Part Case Catch Decl Var roll-Arg (read_layer r) roll-Entry roll-Expr roll-Item roll-Key roll-Label roll-Stmt roll-GString roll-Param roll-Part roll-Case roll-Catch roll-Decl roll-Var

abbrev decl_with : Reader → Decl → Decl
decl_with r = fold-Decl Arg Closure Entry Expr Item Key Label Stmt GString Param Part Case Catch Decl Var roll-Arg (read_layer r) roll-Entry roll-Expr roll-Item roll-Key roll-Label roll-Stmt roll-GString roll-Param roll-Part roll-Case roll-Catch roll-Decl roll-Var

abbrev var_with : Reader → Var → Var
var_with r = fold-Var Arg Closure Entry Expr Item Key Label Stmt GString Param Part Case Catch Decl Var roll-Arg (read_layer r) roll-Entry roll-Expr roll-Item roll-Key roll-Label roll-Stmt roll-GString roll-Param roll-Part roll-Case roll-Catch roll-Decl roll-Var

abbrev places_arg : Arg → Found
places_arg = fold-Arg Found Found Found Found Found Found Found Found Found Found Found Found Found Found Found in_arg in_closure in_entry in_expr in_item in_key in_label none_in_stmt in_gstring none_in_param in_part none_in_case none_in_catch none_in_decl none_in_var

abbrev places_closure : Closure → Found
places_closure = fold-Closure Found Found Found Found Found Found Found Found Found Found Found Found Found Found Found in_arg in_closure in_entry in_expr in_item in_key in_label none_in_stmt in_gstring none_in_param in_part none_in_case none_in_catch none_in_decl none_in_var

abbrev places_entry : Entry → Found
places_entry = fold-Entry Found Found Found Found Found Found Found Found Found Found Found Found Found Found Found in_arg in_closure in_entry in_expr in_item in_key in_label none_in_stmt in_gstring none_in_param in_part none_in_case none_in_catch none_in_decl none_in_var

abbrev places_expr : Expr → Found
places_expr = fold-Expr Found Found Found Found Found Found Found Found Found Found Found Found Found Found Found in_arg in_closure in_entry in_expr in_item in_key in_label none_in_stmt in_gstring none_in_param in_part none_in_case none_in_catch none_in_decl none_in_var

abbrev places_item : Item → Found
places_item = fold-Item Found Found Found Found Found Found Found Found Found Found Found Found Found Found Found in_arg in_closure in_entry in_expr in_item in_key in_label none_in_stmt in_gstring none_in_param in_part none_in_case none_in_catch none_in_decl none_in_var

abbrev places_key : Key → Found
places_key = fold-Key Found Found Found Found Found Found Found Found Found Found Found Found Found Found Found in_arg in_closure in_entry in_expr in_item in_key in_label none_in_stmt in_gstring none_in_param in_part none_in_case none_in_catch none_in_decl none_in_var

abbrev places_label : Label → Found
places_label = fold-Label Found Found Found Found Found Found Found Found Found Found Found Found Found Found Found in_arg in_closure in_entry in_expr in_item in_key in_label none_in_stmt in_gstring none_in_param in_part none_in_case none_in_catch none_in_decl none_in_var

abbrev places_stmt : Stmt → Found
places_stmt = fold-Stmt Found Found Found Found Found Found Found Found Found Found Found Found Found Found Found in_arg in_closure in_entry in_expr in_item in_key in_label none_in_stmt in_gstring none_in_param in_part none_in_case none_in_catch none_in_decl none_in_var

abbrev places_gstring : GString → Found
places_gstring = fold-GString Found Found Found Found Found Found Found Found Found Found Found Found Found Found Found in_arg in_closure in_entry in_expr in_item in_key in_label none_in_stmt in_gstring none_in_param in_part none_in_case none_in_catch none_in_decl none_in_var

abbrev places_param : Param → Found
places_param = fold-Param Found Found Found Found Found Found Found Found Found Found Found Found Found Found Found in_arg in_closure in_entry in_expr in_item in_key in_label none_in_stmt in_gstring none_in_param in_part none_in_case none_in_catch none_in_decl none_in_var

abbrev places_part : Part → Found
places_part = fold-Part Found Found Found Found Found Found Found Found Found Found Found Found Found Found Found in_arg in_closure in_entry in_expr in_item in_key in_label none_in_stmt in_gstring none_in_param in_part none_in_case none_in_catch none_in_decl none_in_var

abbrev places_case : Case → Found
places_case = fold-Case Found Found Found Found Found Found Found Found Found Found Found Found Found Found Found in_arg in_closure in_entry in_expr in_item in_key in_label none_in_stmt in_gstring none_in_param in_part none_in_case none_in_catch none_in_decl none_in_var

abbrev places_catch : Catch → Found
places_catch = fold-Catch Found Found Found Found Found Found Found Found Found Found Found Found Found Found Found in_arg in_closure in_entry in_expr in_item in_key in_label none_in_stmt in_gstring none_in_param in_part none_in_case none_in_catch none_in_decl none_in_var

abbrev places_decl : Decl → Found
places_decl = fold-Decl Found Found Found Found Found Found Found Found Found Found Found Found Found Found Found in_arg in_closure in_entry in_expr in_item in_key in_label none_in_stmt in_gstring none_in_param in_part none_in_case none_in_catch none_in_decl none_in_var

abbrev places_var : Var → Found
places_var = fold-Var Found Found Found Found Found Found Found Found Found Found Found Found Found Found Found in_arg in_closure in_entry in_expr in_item in_key in_label none_in_stmt in_gstring none_in_param in_part none_in_case none_in_catch none_in_decl none_in_var

module _ (read other : Reader) where
  -- both read each of these in one way
  record Agree (fs : Found) : Type 0 where
    by : (from to : ℕ) → Contains fs (from, to) → read from to ≡ other from to

  first : (xs ys : Found) → Agree (xs ++ ys) → Agree xs
  first xs ys h = record { by = λ from to c. h.by from to (Contains-append_left xs ys (from, to) c) }

  second : (xs ys : Found) → Agree (xs ++ ys) → Agree ys
  second xs ys h = record { by = λ from to c. h.by from to (Contains-append_right xs ys (from, to) c) }

  abbrev Same : {A : Type 0} → (A → Found) → (Reader → A → A) → A → Type 0
  Same places with e = Agree (places e) → with read e ≡ with other e

  abbrev Any : Type 0
  Any = zero ≡ zero

  abbrev Arg1 : Type 0
  Arg1 = (e : Arg) × Same places_arg arg_with e

  abbrev Closure1 : Type 0
  Closure1 = (e : Closure) × Same places_closure closure_with e

  abbrev Entry1 : Type 0
  Entry1 = (e : Entry) × Same places_entry entry_with e

  abbrev Expr1 : Type 0
  Expr1 = (e : Expr) × Same places_expr expr_with e

  abbrev Item1 : Type 0
  Item1 = (e : Item) × Same places_item item_with e

  abbrev Key1 : Type 0
  Key1 = (e : Key) × Same places_key key_with e

  abbrev Label1 : Type 0
  Label1 = (e : Label) × Same places_label label_with e

  abbrev Stmt1 : Type 0
  Stmt1 = (e : Stmt) × Any

  abbrev GString1 : Type 0
  GString1 = (e : GString) × Same places_gstring gstring_with e

  abbrev Param1 : Type 0
  Param1 = (e : Param) × Any

  abbrev Part1 : Type 0
  Part1 = (e : Part) × Same places_part part_with e

  abbrev Case1 : Type 0
  Case1 = (e : Case) × Any

  abbrev Catch1 : Type 0
  Catch1 = (e : Catch) × Any

  abbrev Decl1 : Type 0
  Decl1 = (e : Decl) × Any

  abbrev Var1 : Type 0
  Var1 = (e : Var) × Any

  abbrev low_arg : Arg-F Arg1 Closure1 Entry1 Expr1 Item1 Key1 Label1 Stmt1 GString1 Param1 Part1 Case1 Catch1 Decl1 Var1 → Arg-F Arg Closure Entry Expr Item Key Label Stmt GString Param Part Case Catch Decl Var
  low_arg = map-Arg Arg1 Closure1 Entry1 Expr1 Item1 Key1 Label1 Stmt1 GString1 Param1 Part1 Case1 Catch1 Decl1 Var1 Arg Closure Entry Expr Item Key Label Stmt GString Param Part Case Catch Decl Var (λ e. e.0) (λ e. e.0) (λ e. e.0) (λ e. e.0) (λ e. e.0) (λ e. e.0) (λ e. e.0) (λ e. e.0) (λ e. e.0) (λ e. e.0) (λ e. e.0) (λ e. e.0) (λ e. e.0) (λ e. e.0) (λ e. e.0)

  abbrev at_arg : Reader → Arg-F Arg Closure Entry Expr Item Key Label Stmt GString Param Part Case Catch Decl Var → Arg-F Arg Closure Entry Expr Item Key Label Stmt GString Param Part Case Catch Decl Var
  at_arg r = map-Arg Arg Closure Entry Expr Item Key Label Stmt GString Param Part Case Catch Decl Var Arg Closure Entry Expr Item Key Label Stmt GString Param Part Case Catch Decl Var (arg_with r) (closure_with r) (entry_with r) (expr_with r) (item_with r) (key_with r) (label_with r) (stmt_with r) (gstring_with r) (param_with r) (part_with r) (case_with r) (catch_with r) (decl_with r) (var_with r)

  abbrev found_arg : Arg-F Arg Closure Entry Expr Item Key Label Stmt GString Param Part Case Catch Decl Var → Arg-F Found Found Found Found Found Found Found Found Found Found Found Found Found Found Found
  found_arg = map-Arg Arg Closure Entry Expr Item Key Label Stmt GString Param Part Case Catch Decl Var Found Found Found Found Found Found Found Found Found Found Found Found Found Found Found places_arg places_closure places_entry places_expr places_item places_key places_label places_stmt places_gstring places_param places_part places_case places_catch places_decl places_var

  abbrev low_closure : Closure-F Arg1 Closure1 Entry1 Expr1 Item1 Key1 Label1 Stmt1 GString1 Param1 Part1 Case1 Catch1 Decl1 Var1 → Closure-F Arg Closure Entry Expr Item Key Label Stmt GString Param Part Case Catch Decl Var
  low_closure = map-Closure Arg1 Closure1 Entry1 Expr1 Item1 Key1 Label1 Stmt1 GString1 Param1 Part1 Case1 Catch1 Decl1 Var1 Arg Closure Entry Expr Item Key Label Stmt GString Param Part Case Catch Decl Var (λ e. e.0) (λ e. e.0) (λ e. e.0) (λ e. e.0) (λ e. e.0) (λ e. e.0) (λ e. e.0) (λ e. e.0) (λ e. e.0) (λ e. e.0) (λ e. e.0) (λ e. e.0) (λ e. e.0) (λ e. e.0) (λ e. e.0)

  abbrev at_closure : Reader → Closure-F Arg Closure Entry Expr Item Key Label Stmt GString Param Part Case Catch Decl Var → Closure-F Arg Closure Entry Expr Item Key Label Stmt GString Param Part Case Catch Decl Var
  at_closure r = map-Closure Arg Closure Entry Expr Item Key Label Stmt GString Param Part Case Catch Decl Var Arg Closure Entry Expr Item Key Label Stmt GString Param Part Case Catch Decl Var (arg_with r) (closure_with r) (entry_with r) (expr_with r) (item_with r) (key_with r) (label_with r) (stmt_with r) (gstring_with r) (param_with r) (part_with r) (case_with r) (catch_with r) (decl_with r) (var_with r)

  abbrev found_closure : Closure-F Arg Closure Entry Expr Item Key Label Stmt GString Param Part Case Catch Decl Var → Closure-F Found Found Found Found Found Found Found Found Found Found Found Found Found Found Found
  found_closure = map-Closure Arg Closure Entry Expr Item Key Label Stmt GString Param Part Case Catch Decl Var Found Found Found Found Found Found Found Found Found Found Found Found Found Found Found places_arg places_closure places_entry places_expr places_item places_key places_label places_stmt places_gstring places_param places_part places_case places_catch places_decl places_var

  abbrev low_entry : Entry-F Arg1 Closure1 Entry1 Expr1 Item1 Key1 Label1 Stmt1 GString1 Param1 Part1 Case1 Catch1 Decl1 Var1 → Entry-F Arg Closure Entry Expr Item Key Label Stmt GString Param Part Case Catch Decl Var
  low_entry = map-Entry Arg1 Closure1 Entry1 Expr1 Item1 Key1 Label1 Stmt1 GString1 Param1 Part1 Case1 Catch1 Decl1 Var1 Arg Closure Entry Expr Item Key Label Stmt GString Param Part Case Catch Decl Var (λ e. e.0) (λ e. e.0) (λ e. e.0) (λ e. e.0) (λ e. e.0) (λ e. e.0) (λ e. e.0) (λ e. e.0) (λ e. e.0) (λ e. e.0) (λ e. e.0) (λ e. e.0) (λ e. e.0) (λ e. e.0) (λ e. e.0)

  abbrev at_entry : Reader → Entry-F Arg Closure Entry Expr Item Key Label Stmt GString Param Part Case Catch Decl Var → Entry-F Arg Closure Entry Expr Item Key Label Stmt GString Param Part Case Catch Decl Var
  at_entry r = map-Entry Arg Closure Entry Expr Item Key Label Stmt GString Param Part Case Catch Decl Var Arg Closure Entry Expr Item Key Label Stmt GString Param Part Case Catch Decl Var (arg_with r) (closure_with r) (entry_with r) (expr_with r) (item_with r) (key_with r) (label_with r) (stmt_with r) (gstring_with r) (param_with r) (part_with r) (case_with r) (catch_with r) (decl_with r) (var_with r)

  abbrev found_entry : Entry-F Arg Closure Entry Expr Item Key Label Stmt GString Param Part Case Catch Decl Var → Entry-F Found Found Found Found Found Found Found Found Found Found Found Found Found Found Found
  found_entry = map-Entry Arg Closure Entry Expr Item Key Label Stmt GString Param Part Case Catch Decl Var Found Found Found Found Found Found Found Found Found Found Found Found Found Found Found places_arg places_closure places_entry places_expr places_item places_key places_label places_stmt places_gstring places_param places_part places_case places_catch places_decl places_var

  abbrev low_expr : Expr-F Arg1 Closure1 Entry1 Expr1 Item1 Key1 Label1 Stmt1 GString1 Param1 Part1 Case1 Catch1 Decl1 Var1 → Expr-F Arg Closure Entry Expr Item Key Label Stmt GString Param Part Case Catch Decl Var
  low_expr = map-Expr Arg1 Closure1 Entry1 Expr1 Item1 Key1 Label1 Stmt1 GString1 Param1 Part1 Case1 Catch1 Decl1 Var1 Arg Closure Entry Expr Item Key Label Stmt GString Param Part Case Catch Decl Var (λ e. e.0) (λ e. e.0) (λ e. e.0) (λ e. e.0) (λ e. e.0) (λ e. e.0) (λ e. e.0) (λ e. e.0) (λ e. e.0) (λ e. e.0) (λ e. e.0) (λ e. e.0) (λ e. e.0) (λ e. e.0) (λ e. e.0)

  abbrev at_expr : Reader → Expr-F Arg Closure Entry Expr Item Key Label Stmt GString Param Part Case Catch Decl Var → Expr-F Arg Closure Entry Expr Item Key Label Stmt GString Param Part Case Catch Decl Var
  at_expr r = map-Expr Arg Closure Entry Expr Item Key Label Stmt GString Param Part Case Catch Decl Var Arg Closure Entry Expr Item Key Label Stmt GString Param Part Case Catch Decl Var (arg_with r) (closure_with r) (entry_with r) (expr_with r) (item_with r) (key_with r) (label_with r) (stmt_with r) (gstring_with r) (param_with r) (part_with r) (case_with r) (catch_with r) (decl_with r) (var_with r)

  abbrev found_expr : Expr-F Arg Closure Entry Expr Item Key Label Stmt GString Param Part Case Catch Decl Var → Expr-F Found Found Found Found Found Found Found Found Found Found Found Found Found Found Found
  found_expr = map-Expr Arg Closure Entry Expr Item Key Label Stmt GString Param Part Case Catch Decl Var Found Found Found Found Found Found Found Found Found Found Found Found Found Found Found places_arg places_closure places_entry places_expr places_item places_key places_label places_stmt places_gstring places_param places_part places_case places_catch places_decl places_var

  abbrev low_item : Item-F Arg1 Closure1 Entry1 Expr1 Item1 Key1 Label1 Stmt1 GString1 Param1 Part1 Case1 Catch1 Decl1 Var1 → Item-F Arg Closure Entry Expr Item Key Label Stmt GString Param Part Case Catch Decl Var
  low_item = map-Item Arg1 Closure1 Entry1 Expr1 Item1 Key1 Label1 Stmt1 GString1 Param1 Part1 Case1 Catch1 Decl1 Var1 Arg Closure Entry Expr Item Key Label Stmt GString Param Part Case Catch Decl Var (λ e. e.0) (λ e. e.0) (λ e. e.0) (λ e. e.0) (λ e. e.0) (λ e. e.0) (λ e. e.0) (λ e. e.0) (λ e. e.0) (λ e. e.0) (λ e. e.0) (λ e. e.0) (λ e. e.0) (λ e. e.0) (λ e. e.0)

  abbrev at_item : Reader → Item-F Arg Closure Entry Expr Item Key Label Stmt GString Param Part Case Catch Decl Var → Item-F Arg Closure Entry Expr Item Key Label Stmt GString Param Part Case Catch Decl Var
  at_item r = map-Item Arg Closure Entry Expr Item Key Label Stmt GString Param Part Case Catch Decl Var Arg Closure Entry Expr Item Key Label Stmt GString Param Part Case Catch Decl Var (arg_with r) (closure_with r) (entry_with r) (expr_with r) (item_with r) (key_with r) (label_with r) (stmt_with r) (gstring_with r) (param_with r) (part_with r) (case_with r) (catch_with r) (decl_with r) (var_with r)

  abbrev found_item : Item-F Arg Closure Entry Expr Item Key Label Stmt GString Param Part Case Catch Decl Var → Item-F Found Found Found Found Found Found Found Found Found Found Found Found Found Found Found
  found_item = map-Item Arg Closure Entry Expr Item Key Label Stmt GString Param Part Case Catch Decl Var Found Found Found Found Found Found Found Found Found Found Found Found Found Found Found places_arg places_closure places_entry places_expr places_item places_key places_label places_stmt places_gstring places_param places_part places_case places_catch places_decl places_var

  abbrev low_key : Key-F Arg1 Closure1 Entry1 Expr1 Item1 Key1 Label1 Stmt1 GString1 Param1 Part1 Case1 Catch1 Decl1 Var1 → Key-F Arg Closure Entry Expr Item Key Label Stmt GString Param Part Case Catch Decl Var
  low_key = map-Key Arg1 Closure1 Entry1 Expr1 Item1 Key1 Label1 Stmt1 GString1 Param1 Part1 Case1 Catch1 Decl1 Var1 Arg Closure Entry Expr Item Key Label Stmt GString Param Part Case Catch Decl Var (λ e. e.0) (λ e. e.0) (λ e. e.0) (λ e. e.0) (λ e. e.0) (λ e. e.0) (λ e. e.0) (λ e. e.0) (λ e. e.0) (λ e. e.0) (λ e. e.0) (λ e. e.0) (λ e. e.0) (λ e. e.0) (λ e. e.0)

  abbrev at_key : Reader → Key-F Arg Closure Entry Expr Item Key Label Stmt GString Param Part Case Catch Decl Var → Key-F Arg Closure Entry Expr Item Key Label Stmt GString Param Part Case Catch Decl Var
  at_key r = map-Key Arg Closure Entry Expr Item Key Label Stmt GString Param Part Case Catch Decl Var Arg Closure Entry Expr Item Key Label Stmt GString Param Part Case Catch Decl Var (arg_with r) (closure_with r) (entry_with r) (expr_with r) (item_with r) (key_with r) (label_with r) (stmt_with r) (gstring_with r) (param_with r) (part_with r) (case_with r) (catch_with r) (decl_with r) (var_with r)

  abbrev found_key : Key-F Arg Closure Entry Expr Item Key Label Stmt GString Param Part Case Catch Decl Var → Key-F Found Found Found Found Found Found Found Found Found Found Found Found Found Found Found
  found_key = map-Key Arg Closure Entry Expr Item Key Label Stmt GString Param Part Case Catch Decl Var Found Found Found Found Found Found Found Found Found Found Found Found Found Found Found places_arg places_closure places_entry places_expr places_item places_key places_label places_stmt places_gstring places_param places_part places_case places_catch places_decl places_var

  abbrev low_label : Label-F Arg1 Closure1 Entry1 Expr1 Item1 Key1 Label1 Stmt1 GString1 Param1 Part1 Case1 Catch1 Decl1 Var1 → Label-F Arg Closure Entry Expr Item Key Label Stmt GString Param Part Case Catch Decl Var
  low_label = map-Label Arg1 Closure1 Entry1 Expr1 Item1 Key1 Label1 Stmt1 GString1 Param1 Part1 Case1 Catch1 Decl1 Var1 Arg Closure Entry Expr Item Key Label Stmt GString Param Part Case Catch Decl Var (λ e. e.0) (λ e. e.0) (λ e. e.0) (λ e. e.0) (λ e. e.0) (λ e. e.0) (λ e. e.0) (λ e. e.0) (λ e. e.0) (λ e. e.0) (λ e. e.0) (λ e. e.0) (λ e. e.0) (λ e. e.0) (λ e. e.0)

  abbrev at_label : Reader → Label-F Arg Closure Entry Expr Item Key Label Stmt GString Param Part Case Catch Decl Var → Label-F Arg Closure Entry Expr Item Key Label Stmt GString Param Part Case Catch Decl Var
  at_label r = map-Label Arg Closure Entry Expr Item Key Label Stmt GString Param Part Case Catch Decl Var Arg Closure Entry Expr Item Key Label Stmt GString Param Part Case Catch Decl Var (arg_with r) (closure_with r) (entry_with r) (expr_with r) (item_with r) (key_with r) (label_with r) (stmt_with r) (gstring_with r) (param_with r) (part_with r) (case_with r) (catch_with r) (decl_with r) (var_with r)

  abbrev found_label : Label-F Arg Closure Entry Expr Item Key Label Stmt GString Param Part Case Catch Decl Var → Label-F Found Found Found Found Found Found Found Found Found Found Found Found Found Found Found
  found_label = map-Label Arg Closure Entry Expr Item Key Label Stmt GString Param Part Case Catch Decl Var Found Found Found Found Found Found Found Found Found Found Found Found Found Found Found places_arg places_closure places_entry places_expr places_item places_key places_label places_stmt places_gstring places_param places_part places_case places_catch places_decl places_var

  abbrev low_gstring : GString-F Arg1 Closure1 Entry1 Expr1 Item1 Key1 Label1 Stmt1 GString1 Param1 Part1 Case1 Catch1 Decl1 Var1 → GString-F Arg Closure Entry Expr Item Key Label Stmt GString Param Part Case Catch Decl Var
  low_gstring = map-GString Arg1 Closure1 Entry1 Expr1 Item1 Key1 Label1 Stmt1 GString1 Param1 Part1 Case1 Catch1 Decl1 Var1 Arg Closure Entry Expr Item Key Label Stmt GString Param Part Case Catch Decl Var (λ e. e.0) (λ e. e.0) (λ e. e.0) (λ e. e.0) (λ e. e.0) (λ e. e.0) (λ e. e.0) (λ e. e.0) (λ e. e.0) (λ e. e.0) (λ e. e.0) (λ e. e.0) (λ e. e.0) (λ e. e.0) (λ e. e.0)

  abbrev at_gstring : Reader → GString-F Arg Closure Entry Expr Item Key Label Stmt GString Param Part Case Catch Decl Var → GString-F Arg Closure Entry Expr Item Key Label Stmt GString Param Part Case Catch Decl Var
  at_gstring r = map-GString Arg Closure Entry Expr Item Key Label Stmt GString Param Part Case Catch Decl Var Arg Closure Entry Expr Item Key Label Stmt GString Param Part Case Catch Decl Var (arg_with r) (closure_with r) (entry_with r) (expr_with r) (item_with r) (key_with r) (label_with r) (stmt_with r) (gstring_with r) (param_with r) (part_with r) (case_with r) (catch_with r) (decl_with r) (var_with r)

  abbrev found_gstring : GString-F Arg Closure Entry Expr Item Key Label Stmt GString Param Part Case Catch Decl Var → GString-F Found Found Found Found Found Found Found Found Found Found Found Found Found Found Found
  found_gstring = map-GString Arg Closure Entry Expr Item Key Label Stmt GString Param Part Case Catch Decl Var Found Found Found Found Found Found Found Found Found Found Found Found Found Found Found places_arg places_closure places_entry places_expr places_item places_key places_label places_stmt places_gstring places_param places_part places_case places_catch places_decl places_var

  abbrev low_part : Part-F Arg1 Closure1 Entry1 Expr1 Item1 Key1 Label1 Stmt1 GString1 Param1 Part1 Case1 Catch1 Decl1 Var1 → Part-F Arg Closure Entry Expr Item Key Label Stmt GString Param Part Case Catch Decl Var
  low_part = map-Part Arg1 Closure1 Entry1 Expr1 Item1 Key1 Label1 Stmt1 GString1 Param1 Part1 Case1 Catch1 Decl1 Var1 Arg Closure Entry Expr Item Key Label Stmt GString Param Part Case Catch Decl Var (λ e. e.0) (λ e. e.0) (λ e. e.0) (λ e. e.0) (λ e. e.0) (λ e. e.0) (λ e. e.0) (λ e. e.0) (λ e. e.0) (λ e. e.0) (λ e. e.0) (λ e. e.0) (λ e. e.0) (λ e. e.0) (λ e. e.0)

  abbrev at_part : Reader → Part-F Arg Closure Entry Expr Item Key Label Stmt GString Param Part Case Catch Decl Var → Part-F Arg Closure Entry Expr Item Key Label Stmt GString Param Part Case Catch Decl Var
  at_part r = map-Part Arg Closure Entry Expr Item Key Label Stmt GString Param Part Case Catch Decl Var Arg Closure Entry Expr Item Key Label Stmt GString Param Part Case Catch Decl Var (arg_with r) (closure_with r) (entry_with r) (expr_with r) (item_with r) (key_with r) (label_with r) (stmt_with r) (gstring_with r) (param_with r) (part_with r) (case_with r) (catch_with r) (decl_with r) (var_with r)

  abbrev found_part : Part-F Arg Closure Entry Expr Item Key Label Stmt GString Param Part Case Catch Decl Var → Part-F Found Found Found Found Found Found Found Found Found Found Found Found Found Found Found
  found_part = map-Part Arg Closure Entry Expr Item Key Label Stmt GString Param Part Case Catch Decl Var Found Found Found Found Found Found Found Found Found Found Found Found Found Found Found places_arg places_closure places_entry places_expr places_item places_key places_label places_stmt places_gstring places_param places_part places_case places_catch places_decl places_var

  row : {A : Type 0} (places : A → Found) (with : Reader → A → A) (us : List ((e : A) × Same places with e)) → Agree (all_found (map places (map (λ u. u.0) us)))
      → map (with read) (map (λ u. u.0) us) ≡ map (with other) (map (λ u. u.0) us)
  row places with [] h = refl
  row places with (u ∷ us) h = ap2 (λ v w. v ∷ w) (u.1 (first _ _ h)) (row places with us (second (places u.0) _ h))

  layer_arg : (y : Arg-F Arg1 Closure1 Entry1 Expr1 Item1 Key1 Label1 Stmt1 GString1 Param1 Part1 Case1 Catch1 Decl1 Var1) → Agree (in_arg (found_arg (low_arg y))) → at_arg read (low_arg y) ≡ at_arg other (low_arg y)
  layer_arg (Arg-F.«Arg::Plain» u) h = ap Arg-F.«Arg::Plain» (u.1 h)
  layer_arg (Arg-F.«Arg::Keyed» k u) h = ap2 Arg-F.«Arg::Keyed» (k.1 (first _ _ h)) (u.1 (second (places_key k.0) _ h))
  layer_arg (Arg-F.«Arg::Spread» p u) h = ap (Arg-F.«Arg::Spread» p) (u.1 h)
  layer_arg (Arg-F.SpreadMap p u) h = ap (Arg-F.SpreadMap p) (u.1 h)

  layer_closure : (y : Closure-F Arg1 Closure1 Entry1 Expr1 Item1 Key1 Label1 Stmt1 GString1 Param1 Part1 Case1 Catch1 Decl1 Var1) → Agree (in_closure (found_closure (low_closure y))) → read_layer read (at_closure read (low_closure y)) ≡ read_layer other (at_closure other (low_closure y))
  layer_closure (Closure-F.Unread from to) h = h.by from to (0, omega arith, refl)
  layer_closure (Closure-F.Read params body) h = refl

  layer_entry : (y : Entry-F Arg1 Closure1 Entry1 Expr1 Item1 Key1 Label1 Stmt1 GString1 Param1 Part1 Case1 Catch1 Decl1 Var1) → Agree (in_entry (found_entry (low_entry y))) → at_entry read (low_entry y) ≡ at_entry other (low_entry y)
  layer_entry (Entry-F.«Entry::Keyed» k u) h = ap2 Entry-F.«Entry::Keyed» (k.1 (first _ _ h)) (u.1 (second (places_key k.0) _ h))
  layer_entry (Entry-F.Computed p u v) h = ap2 (Entry-F.Computed p) (u.1 (first _ _ h)) (v.1 (second (places_expr u.0) _ h))
  layer_entry (Entry-F.«Entry::Spread» p u) h = ap (Entry-F.«Entry::Spread» p) (u.1 h)

  layer_expr : (y : Expr-F Arg1 Closure1 Entry1 Expr1 Item1 Key1 Label1 Stmt1 GString1 Param1 Part1 Case1 Catch1 Decl1 Var1) → Agree (in_expr (found_expr (low_expr y))) → at_expr read (low_expr y) ≡ at_expr other (low_expr y)
  layer_expr (Expr-F.Atom p a) h = refl
  layer_expr (Expr-F.«Expr::GString» p g) h = ap (Expr-F.«Expr::GString» p) (g.1 h)
  layer_expr (Expr-F.Paren p u) h = ap (Expr-F.Paren p) (u.1 h)
  layer_expr (Expr-F.List p us) h = ap (Expr-F.List p) (row places_item item_with us h)
  layer_expr (Expr-F.Map p us) h = ap (Expr-F.Map p) (row places_entry entry_with us h)
  layer_expr (Expr-F.Closure p c) h = ap (Expr-F.Closure p) (c.1 h)
  layer_expr (Expr-F.New p i us) h = ap (Expr-F.New p i) (row places_arg arg_with us h)
  layer_expr (Expr-F.Unary p op u) h = ap (Expr-F.Unary p op) (u.1 h)
  layer_expr (Expr-F.Binary p op u v) h = ap2 (Expr-F.Binary p op) (u.1 (first _ _ h)) (v.1 (second (places_expr u.0) _ h))
  layer_expr (Expr-F.Typed p op u t) h = ap (λ w. Expr-F.Typed p op w t) (u.1 h)
  layer_expr (Expr-F.Choice p u None v) h = ap2 (λ w z. Expr-F.Choice p w None z) (u.1 (first _ _ h)) (v.1 (second (places_expr u.0) _ h))
  layer_expr (Expr-F.Choice p u (Some v) w) h = ap3 (λ x y z. Expr-F.Choice p x (Some y) z) (u.1 (first _ _ (first _ _ h))) (v.1 (second (places_expr u.0) _ (first _ _ h))) (w.1 (second (places_expr u.0 ++ places_expr v.0) _ h))
  layer_expr (Expr-F.Assign p op u v) h = ap2 (Expr-F.Assign p op) (u.1 (first _ _ h)) (v.1 (second (places_expr u.0) _ h))
  layer_expr (Expr-F.Member p op u l) h = ap2 (Expr-F.Member p op) (u.1 (first _ _ h)) (l.1 (second (places_expr u.0) _ h))
  layer_expr (Expr-F.Field p u i) h = ap (λ w. Expr-F.Field p w i) (u.1 h)
  layer_expr (Expr-F.Index p u us) h = ap2 (Expr-F.Index p) (u.1 (first _ _ h)) (row places_expr expr_with us (second (places_expr u.0) _ h))
  layer_expr (Expr-F.Call p u us) h = ap2 (Expr-F.Call p) (u.1 (first _ _ h)) (row places_arg arg_with us (second (places_expr u.0) _ h))

  layer_item : (y : Item-F Arg1 Closure1 Entry1 Expr1 Item1 Key1 Label1 Stmt1 GString1 Param1 Part1 Case1 Catch1 Decl1 Var1) → Agree (in_item (found_item (low_item y))) → at_item read (low_item y) ≡ at_item other (low_item y)
  layer_item (Item-F.«Item::Plain» u) h = ap Item-F.«Item::Plain» (u.1 h)
  layer_item (Item-F.«Item::Spread» p u) h = ap (Item-F.«Item::Spread» p) (u.1 h)

  layer_key : (y : Key-F Arg1 Closure1 Entry1 Expr1 Item1 Key1 Label1 Stmt1 GString1 Param1 Part1 Case1 Catch1 Decl1 Var1) → Agree (in_key (found_key (low_key y))) → at_key read (low_key y) ≡ at_key other (low_key y)
  layer_key (Key-F.Label l) h = ap Key-F.Label (l.1 h)
  layer_key (Key-F.Int p z) h = refl
  layer_key (Key-F.Long p z) h = refl

  layer_label : (y : Label-F Arg1 Closure1 Entry1 Expr1 Item1 Key1 Label1 Stmt1 GString1 Param1 Part1 Case1 Catch1 Decl1 Var1) → Agree (in_label (found_label (low_label y))) → at_label read (low_label y) ≡ at_label other (low_label y)
  layer_label (Label-F.Name i) h = refl
  layer_label (Label-F.Text i) h = refl
  layer_label (Label-F.«Label::GString» p g) h = ap (Label-F.«Label::GString» p) (g.1 h)

  layer_gstring : (y : GString-F Arg1 Closure1 Entry1 Expr1 Item1 Key1 Label1 Stmt1 GString1 Param1 Part1 Case1 Catch1 Decl1 Var1) → Agree (in_gstring (found_gstring (low_gstring y))) → at_gstring read (low_gstring y) ≡ at_gstring other (low_gstring y)
  layer_gstring g h = ap (λ ps. record { head = g.head; parts = ps }) (row places_part part_with g.parts h)

  layer_part : (y : Part-F Arg1 Closure1 Entry1 Expr1 Item1 Key1 Label1 Stmt1 GString1 Param1 Part1 Case1 Catch1 Decl1 Var1) → Agree (in_part (found_part (low_part y))) → at_part read (low_part y) ≡ at_part other (low_part y)
  layer_part p h = ap (λ v. record { is_lazy = p.is_lazy; value = v; behind = p.behind }) (p.value.1 h)

  case_arg : (x : Arg-F Arg Closure Entry Expr Item Key Label Stmt GString Param Part Case Catch Decl Var) (y : Arg-F Arg1 Closure1 Entry1 Expr1 Item1 Key1 Label1 Stmt1 GString1 Param1 Part1 Case1 Catch1 Decl1 Var1) → low_arg y ≡ x → Same places_arg arg_with (roll-Arg x)
  case_arg x y e = subst (λ z. Same places_arg arg_with (roll-Arg z)) e (λ h. fold-roll-Arg Arg Closure Entry Expr Item Key Label Stmt GString Param Part Case Catch Decl Var roll-Arg (read_layer read) roll-Entry roll-Expr roll-Item roll-Key roll-Label roll-Stmt roll-GString roll-Param roll-Part roll-Case roll-Catch roll-Decl roll-Var (low_arg y)
      ∙ ap roll-Arg (layer_arg y (subst Agree (fold-roll-Arg Found Found Found Found Found Found Found Found Found Found Found Found Found Found Found in_arg in_closure in_entry in_expr in_item in_key in_label none_in_stmt in_gstring none_in_param in_part none_in_case none_in_catch none_in_decl none_in_var (low_arg y)) h))
      ∙ sym (fold-roll-Arg Arg Closure Entry Expr Item Key Label Stmt GString Param Part Case Catch Decl Var roll-Arg (read_layer other) roll-Entry roll-Expr roll-Item roll-Key roll-Label roll-Stmt roll-GString roll-Param roll-Part roll-Case roll-Catch roll-Decl roll-Var (low_arg y)))

  case_closure : (x : Closure-F Arg Closure Entry Expr Item Key Label Stmt GString Param Part Case Catch Decl Var) (y : Closure-F Arg1 Closure1 Entry1 Expr1 Item1 Key1 Label1 Stmt1 GString1 Param1 Part1 Case1 Catch1 Decl1 Var1) → low_closure y ≡ x → Same places_closure closure_with (roll-Closure x)
  case_closure x y e = subst (λ z. Same places_closure closure_with (roll-Closure z)) e (λ h. fold-roll-Closure Arg Closure Entry Expr Item Key Label Stmt GString Param Part Case Catch Decl Var roll-Arg (read_layer read) roll-Entry roll-Expr roll-Item roll-Key roll-Label roll-Stmt roll-GString roll-Param roll-Part roll-Case roll-Catch roll-Decl roll-Var (low_closure y)
      ∙ layer_closure y (subst Agree (fold-roll-Closure Found Found Found Found Found Found Found Found Found Found Found Found Found Found Found in_arg in_closure in_entry in_expr in_item in_key in_label none_in_stmt in_gstring none_in_param in_part none_in_case none_in_catch none_in_decl none_in_var (low_closure y)) h)
      ∙ sym (fold-roll-Closure Arg Closure Entry Expr Item Key Label Stmt GString Param Part Case Catch Decl Var roll-Arg (read_layer other) roll-Entry roll-Expr roll-Item roll-Key roll-Label roll-Stmt roll-GString roll-Param roll-Part roll-Case roll-Catch roll-Decl roll-Var (low_closure y)))

  case_entry : (x : Entry-F Arg Closure Entry Expr Item Key Label Stmt GString Param Part Case Catch Decl Var) (y : Entry-F Arg1 Closure1 Entry1 Expr1 Item1 Key1 Label1 Stmt1 GString1 Param1 Part1 Case1 Catch1 Decl1 Var1) → low_entry y ≡ x → Same places_entry entry_with (roll-Entry x)
  case_entry x y e = subst (λ z. Same places_entry entry_with (roll-Entry z)) e (λ h. fold-roll-Entry Arg Closure Entry Expr Item Key Label Stmt GString Param Part Case Catch Decl Var roll-Arg (read_layer read) roll-Entry roll-Expr roll-Item roll-Key roll-Label roll-Stmt roll-GString roll-Param roll-Part roll-Case roll-Catch roll-Decl roll-Var (low_entry y)
      ∙ ap roll-Entry (layer_entry y (subst Agree (fold-roll-Entry Found Found Found Found Found Found Found Found Found Found Found Found Found Found Found in_arg in_closure in_entry in_expr in_item in_key in_label none_in_stmt in_gstring none_in_param in_part none_in_case none_in_catch none_in_decl none_in_var (low_entry y)) h))
      ∙ sym (fold-roll-Entry Arg Closure Entry Expr Item Key Label Stmt GString Param Part Case Catch Decl Var roll-Arg (read_layer other) roll-Entry roll-Expr roll-Item roll-Key roll-Label roll-Stmt roll-GString roll-Param roll-Part roll-Case roll-Catch roll-Decl roll-Var (low_entry y)))

  case_expr : (x : Expr-F Arg Closure Entry Expr Item Key Label Stmt GString Param Part Case Catch Decl Var) (y : Expr-F Arg1 Closure1 Entry1 Expr1 Item1 Key1 Label1 Stmt1 GString1 Param1 Part1 Case1 Catch1 Decl1 Var1) → low_expr y ≡ x → Same places_expr expr_with (roll-Expr x)
  case_expr x y e = subst (λ z. Same places_expr expr_with (roll-Expr z)) e (λ h. fold-roll-Expr Arg Closure Entry Expr Item Key Label Stmt GString Param Part Case Catch Decl Var roll-Arg (read_layer read) roll-Entry roll-Expr roll-Item roll-Key roll-Label roll-Stmt roll-GString roll-Param roll-Part roll-Case roll-Catch roll-Decl roll-Var (low_expr y)
      ∙ ap roll-Expr (layer_expr y (subst Agree (fold-roll-Expr Found Found Found Found Found Found Found Found Found Found Found Found Found Found Found in_arg in_closure in_entry in_expr in_item in_key in_label none_in_stmt in_gstring none_in_param in_part none_in_case none_in_catch none_in_decl none_in_var (low_expr y)) h))
      ∙ sym (fold-roll-Expr Arg Closure Entry Expr Item Key Label Stmt GString Param Part Case Catch Decl Var roll-Arg (read_layer other) roll-Entry roll-Expr roll-Item roll-Key roll-Label roll-Stmt roll-GString roll-Param roll-Part roll-Case roll-Catch roll-Decl roll-Var (low_expr y)))

  case_item : (x : Item-F Arg Closure Entry Expr Item Key Label Stmt GString Param Part Case Catch Decl Var) (y : Item-F Arg1 Closure1 Entry1 Expr1 Item1 Key1 Label1 Stmt1 GString1 Param1 Part1 Case1 Catch1 Decl1 Var1) → low_item y ≡ x → Same places_item item_with (roll-Item x)
  case_item x y e = subst (λ z. Same places_item item_with (roll-Item z)) e (λ h. fold-roll-Item Arg Closure Entry Expr Item Key Label Stmt GString Param Part Case Catch Decl Var roll-Arg (read_layer read) roll-Entry roll-Expr roll-Item roll-Key roll-Label roll-Stmt roll-GString roll-Param roll-Part roll-Case roll-Catch roll-Decl roll-Var (low_item y)
      ∙ ap roll-Item (layer_item y (subst Agree (fold-roll-Item Found Found Found Found Found Found Found Found Found Found Found Found Found Found Found in_arg in_closure in_entry in_expr in_item in_key in_label none_in_stmt in_gstring none_in_param in_part none_in_case none_in_catch none_in_decl none_in_var (low_item y)) h))
      ∙ sym (fold-roll-Item Arg Closure Entry Expr Item Key Label Stmt GString Param Part Case Catch Decl Var roll-Arg (read_layer other) roll-Entry roll-Expr roll-Item roll-Key roll-Label roll-Stmt roll-GString roll-Param roll-Part roll-Case roll-Catch roll-Decl roll-Var (low_item y)))

  case_key : (x : Key-F Arg Closure Entry Expr Item Key Label Stmt GString Param Part Case Catch Decl Var) (y : Key-F Arg1 Closure1 Entry1 Expr1 Item1 Key1 Label1 Stmt1 GString1 Param1 Part1 Case1 Catch1 Decl1 Var1) → low_key y ≡ x → Same places_key key_with (roll-Key x)
  case_key x y e = subst (λ z. Same places_key key_with (roll-Key z)) e (λ h. fold-roll-Key Arg Closure Entry Expr Item Key Label Stmt GString Param Part Case Catch Decl Var roll-Arg (read_layer read) roll-Entry roll-Expr roll-Item roll-Key roll-Label roll-Stmt roll-GString roll-Param roll-Part roll-Case roll-Catch roll-Decl roll-Var (low_key y)
      ∙ ap roll-Key (layer_key y (subst Agree (fold-roll-Key Found Found Found Found Found Found Found Found Found Found Found Found Found Found Found in_arg in_closure in_entry in_expr in_item in_key in_label none_in_stmt in_gstring none_in_param in_part none_in_case none_in_catch none_in_decl none_in_var (low_key y)) h))
      ∙ sym (fold-roll-Key Arg Closure Entry Expr Item Key Label Stmt GString Param Part Case Catch Decl Var roll-Arg (read_layer other) roll-Entry roll-Expr roll-Item roll-Key roll-Label roll-Stmt roll-GString roll-Param roll-Part roll-Case roll-Catch roll-Decl roll-Var (low_key y)))

  case_label : (x : Label-F Arg Closure Entry Expr Item Key Label Stmt GString Param Part Case Catch Decl Var) (y : Label-F Arg1 Closure1 Entry1 Expr1 Item1 Key1 Label1 Stmt1 GString1 Param1 Part1 Case1 Catch1 Decl1 Var1) → low_label y ≡ x → Same places_label label_with (roll-Label x)
  case_label x y e = subst (λ z. Same places_label label_with (roll-Label z)) e (λ h. fold-roll-Label Arg Closure Entry Expr Item Key Label Stmt GString Param Part Case Catch Decl Var roll-Arg (read_layer read) roll-Entry roll-Expr roll-Item roll-Key roll-Label roll-Stmt roll-GString roll-Param roll-Part roll-Case roll-Catch roll-Decl roll-Var (low_label y)
      ∙ ap roll-Label (layer_label y (subst Agree (fold-roll-Label Found Found Found Found Found Found Found Found Found Found Found Found Found Found Found in_arg in_closure in_entry in_expr in_item in_key in_label none_in_stmt in_gstring none_in_param in_part none_in_case none_in_catch none_in_decl none_in_var (low_label y)) h))
      ∙ sym (fold-roll-Label Arg Closure Entry Expr Item Key Label Stmt GString Param Part Case Catch Decl Var roll-Arg (read_layer other) roll-Entry roll-Expr roll-Item roll-Key roll-Label roll-Stmt roll-GString roll-Param roll-Part roll-Case roll-Catch roll-Decl roll-Var (low_label y)))

  case_gstring : (x : GString-F Arg Closure Entry Expr Item Key Label Stmt GString Param Part Case Catch Decl Var) (y : GString-F Arg1 Closure1 Entry1 Expr1 Item1 Key1 Label1 Stmt1 GString1 Param1 Part1 Case1 Catch1 Decl1 Var1) → low_gstring y ≡ x → Same places_gstring gstring_with (roll-GString x)
  case_gstring x y e = subst (λ z. Same places_gstring gstring_with (roll-GString z)) e (λ h. fold-roll-GString Arg Closure Entry Expr Item Key Label Stmt GString Param Part Case Catch Decl Var roll-Arg (read_layer read) roll-Entry roll-Expr roll-Item roll-Key roll-Label roll-Stmt roll-GString roll-Param roll-Part roll-Case roll-Catch roll-Decl roll-Var (low_gstring y)
      ∙ ap roll-GString (layer_gstring y (subst Agree (fold-roll-GString Found Found Found Found Found Found Found Found Found Found Found Found Found Found Found in_arg in_closure in_entry in_expr in_item in_key in_label none_in_stmt in_gstring none_in_param in_part none_in_case none_in_catch none_in_decl none_in_var (low_gstring y)) h))
      ∙ sym (fold-roll-GString Arg Closure Entry Expr Item Key Label Stmt GString Param Part Case Catch Decl Var roll-Arg (read_layer other) roll-Entry roll-Expr roll-Item roll-Key roll-Label roll-Stmt roll-GString roll-Param roll-Part roll-Case roll-Catch roll-Decl roll-Var (low_gstring y)))

  case_part : (x : Part-F Arg Closure Entry Expr Item Key Label Stmt GString Param Part Case Catch Decl Var) (y : Part-F Arg1 Closure1 Entry1 Expr1 Item1 Key1 Label1 Stmt1 GString1 Param1 Part1 Case1 Catch1 Decl1 Var1) → low_part y ≡ x → Same places_part part_with (roll-Part x)
  case_part x y e = subst (λ z. Same places_part part_with (roll-Part z)) e (λ h. fold-roll-Part Arg Closure Entry Expr Item Key Label Stmt GString Param Part Case Catch Decl Var roll-Arg (read_layer read) roll-Entry roll-Expr roll-Item roll-Key roll-Label roll-Stmt roll-GString roll-Param roll-Part roll-Case roll-Catch roll-Decl roll-Var (low_part y)
      ∙ ap roll-Part (layer_part y (subst Agree (fold-roll-Part Found Found Found Found Found Found Found Found Found Found Found Found Found Found Found in_arg in_closure in_entry in_expr in_item in_key in_label none_in_stmt in_gstring none_in_param in_part none_in_case none_in_catch none_in_decl none_in_var (low_part y)) h))
      ∙ sym (fold-roll-Part Arg Closure Entry Expr Item Key Label Stmt GString Param Part Case Catch Decl Var roll-Arg (read_layer other) roll-Entry roll-Expr roll-Item roll-Key roll-Label roll-Stmt roll-GString roll-Param roll-Part roll-Case roll-Catch roll-Decl roll-Var (low_part y)))

  -- both give the same where they agree on the unread closures
  pub filled_same : (x : Expr) → ((from to : ℕ) → unread_in x from to → read from to ≡ other from to) → filled read x ≡ filled other x
  unfolding filled unread_places
  filled_same x h = ind-Expr (Same places_arg arg_with) (Same places_closure closure_with) (Same places_entry entry_with) (Same places_expr expr_with) (Same places_item item_with) (Same places_key key_with) (Same places_label label_with) (λ _. Any) (Same places_gstring gstring_with) (λ _. Any) (Same places_part part_with) (λ _. Any) (λ _. Any) (λ _. Any) (λ _. Any) case_arg case_closure case_entry case_expr case_item case_key case_label (λ x y e. refl) case_gstring (λ x y e. refl) case_part (λ x y e. refl) (λ x y e. refl) (λ x y e. refl) (λ x y e. refl) x (record { by = h })
