-- The unread closures of an expression, and the expression with them read.
use Rattle.std.specs.Prelude.{ℕ, ◌<◌, ◌≤◌, ◌-◌, List, [], ◌∷◌, ◌++◌, Some, None}
use Rattle.std.specs.List.{flat_map, Contains}
use Rattle.gv_tree.specs.declared.expr.Arg.{Arg, roll-Arg, fold-Arg}
use Rattle.gv_tree.specs.declared.expr.Arg.TheOpen.{Arg-F, Closure-F, Entry-F, Expr-F, Item-F, Key-F, Label-F, Stmt-F, GString-F, Param-F, Part-F, Case-F, Catch-F, Decl-F, Var-F}
use Rattle.gv_tree.specs.declared.expr.Closure.{Closure, fold-Closure}
use Rattle.gv_tree.specs.declared.expr.Closure.TheVariants as closure
use Rattle.gv_tree.specs.declared.expr.Entry.{Entry, roll-Entry, fold-Entry}
use Rattle.gv_tree.specs.declared.expr.Expr.{Expr, roll-Expr, fold-Expr}
use Rattle.gv_tree.specs.declared.expr.GString.{GString, roll-GString, fold-GString}
use Rattle.gv_tree.specs.declared.expr.Item.{Item, roll-Item, fold-Item}
use Rattle.gv_tree.specs.declared.expr.Key.{Key, roll-Key, fold-Key}
use Rattle.gv_tree.specs.declared.expr.Label.{Label, roll-Label, fold-Label}
use Rattle.gv_tree.specs.declared.expr.Param.{Param, roll-Param}
use Rattle.gv_tree.specs.declared.expr.Part.{Part, roll-Part, fold-Part}
use Rattle.gv_tree.specs.declared.stmt.Case.{Case, roll-Case}
use Rattle.gv_tree.specs.declared.stmt.Catch.{Catch, roll-Catch}
use Rattle.gv_tree.specs.declared.stmt.Decl.{Decl, roll-Decl}
use Rattle.gv_tree.specs.declared.stmt.Stmt.{Stmt, roll-Stmt}
use Rattle.gv_tree.specs.declared.stmt.Var.{Var, roll-Var}

-- A closure by what is read between its places. The trees of Exprs have no closure that is read: it would become empty.
abbrev pub read_layer : (ℕ → ℕ → Closure) → Closure-F Arg Closure Entry Expr Item Key Label Stmt GString Param Part Case Catch Decl Var → Closure
read_layer read (Closure-F.Unread from to) = read from to
read_layer read (Closure-F.Read params body) = closure.Read None []

-- the expression with each unread closure replaced by what is read between its places
unfoldable pub filled : (ℕ → ℕ → Closure) → Expr → Expr
filled read = fold-Expr Arg Closure Entry Expr Item Key Label Stmt GString Param Part Case Catch Decl Var
    roll-Arg (read_layer read) roll-Entry roll-Expr roll-Item roll-Key roll-Label roll-Stmt roll-GString roll-Param roll-Part roll-Case roll-Catch roll-Decl roll-Var

-- the same for the parts of expressions
unfoldable pub filled_arg : (ℕ → ℕ → Closure) → Arg → Arg
filled_arg read = fold-Arg Arg Closure Entry Expr Item Key Label Stmt GString Param Part Case Catch Decl Var
    roll-Arg (read_layer read) roll-Entry roll-Expr roll-Item roll-Key roll-Label roll-Stmt roll-GString roll-Param roll-Part roll-Case roll-Catch roll-Decl roll-Var

unfoldable pub filled_entry : (ℕ → ℕ → Closure) → Entry → Entry
filled_entry read = fold-Entry Arg Closure Entry Expr Item Key Label Stmt GString Param Part Case Catch Decl Var
    roll-Arg (read_layer read) roll-Entry roll-Expr roll-Item roll-Key roll-Label roll-Stmt roll-GString roll-Param roll-Part roll-Case roll-Catch roll-Decl roll-Var

unfoldable pub filled_item : (ℕ → ℕ → Closure) → Item → Item
filled_item read = fold-Item Arg Closure Entry Expr Item Key Label Stmt GString Param Part Case Catch Decl Var
    roll-Arg (read_layer read) roll-Entry roll-Expr roll-Item roll-Key roll-Label roll-Stmt roll-GString roll-Param roll-Part roll-Case roll-Catch roll-Decl roll-Var

unfoldable pub filled_key : (ℕ → ℕ → Closure) → Key → Key
filled_key read = fold-Key Arg Closure Entry Expr Item Key Label Stmt GString Param Part Case Catch Decl Var
    roll-Arg (read_layer read) roll-Entry roll-Expr roll-Item roll-Key roll-Label roll-Stmt roll-GString roll-Param roll-Part roll-Case roll-Catch roll-Decl roll-Var

unfoldable pub filled_label : (ℕ → ℕ → Closure) → Label → Label
filled_label read = fold-Label Arg Closure Entry Expr Item Key Label Stmt GString Param Part Case Catch Decl Var
    roll-Arg (read_layer read) roll-Entry roll-Expr roll-Item roll-Key roll-Label roll-Stmt roll-GString roll-Param roll-Part roll-Case roll-Catch roll-Decl roll-Var

unfoldable pub filled_gstring : (ℕ → ℕ → Closure) → GString → GString
filled_gstring read = fold-GString Arg Closure Entry Expr Item Key Label Stmt GString Param Part Case Catch Decl Var
    roll-Arg (read_layer read) roll-Entry roll-Expr roll-Item roll-Key roll-Label roll-Stmt roll-GString roll-Param roll-Part roll-Case roll-Catch roll-Decl roll-Var

unfoldable pub filled_part : (ℕ → ℕ → Closure) → Part → Part
filled_part read = fold-Part Arg Closure Entry Expr Item Key Label Stmt GString Param Part Case Catch Decl Var
    roll-Arg (read_layer read) roll-Entry roll-Expr roll-Item roll-Key roll-Label roll-Stmt roll-GString roll-Param roll-Part roll-Case roll-Catch roll-Decl roll-Var

unfoldable pub filled_closure : (ℕ → ℕ → Closure) → Closure → Closure
filled_closure read = fold-Closure Arg Closure Entry Expr Item Key Label Stmt GString Param Part Case Catch Decl Var
    roll-Arg (read_layer read) roll-Entry roll-Expr roll-Item roll-Key roll-Label roll-Stmt roll-GString roll-Param roll-Part roll-Case roll-Catch roll-Decl roll-Var

-- ---- where the unread closures are

abbrev pub Found : Type 0
Found = List (ℕ × ℕ)

abbrev pub all_found : List Found → Found
all_found fs = flat_map (λ f. f) fs

abbrev pub in_arg : Arg-F Found Found Found Found Found Found Found Found Found Found Found Found Found Found Found → Found
in_arg (Arg-F.«Arg::Plain» x) = x
in_arg (Arg-F.«Arg::Keyed» k x) = k ++ x
in_arg (Arg-F.«Arg::Spread» p x) = x
in_arg (Arg-F.SpreadMap p x) = x

-- a closure that is read has none that isn't
abbrev pub in_closure : Closure-F Found Found Found Found Found Found Found Found Found Found Found Found Found Found Found → Found
in_closure (Closure-F.Unread from to) = (from, to) ∷ []
in_closure (Closure-F.Read params body) = []

abbrev pub in_entry : Entry-F Found Found Found Found Found Found Found Found Found Found Found Found Found Found Found → Found
in_entry (Entry-F.«Entry::Keyed» k x) = k ++ x
in_entry (Entry-F.Computed p x y) = x ++ y
in_entry (Entry-F.«Entry::Spread» p x) = x

abbrev pub in_expr : Expr-F Found Found Found Found Found Found Found Found Found Found Found Found Found Found Found → Found
in_expr (Expr-F.Atom p a) = []
in_expr (Expr-F.«Expr::GString» p g) = g
in_expr (Expr-F.Paren p x) = x
in_expr (Expr-F.List p items) = all_found items
in_expr (Expr-F.Map p entries) = all_found entries
in_expr (Expr-F.Closure p c) = c
in_expr (Expr-F.New p i args) = all_found args
in_expr (Expr-F.Unary p op x) = x
in_expr (Expr-F.Binary p op x y) = x ++ y
in_expr (Expr-F.Typed p op x t) = x
in_expr (Expr-F.Choice p x None z) = x ++ z
in_expr (Expr-F.Choice p x (Some y) z) = x ++ y ++ z
in_expr (Expr-F.Assign p op x y) = x ++ y
in_expr (Expr-F.Member p op x l) = x ++ l
in_expr (Expr-F.Field p x i) = x
in_expr (Expr-F.Index p x es) = x ++ all_found es
in_expr (Expr-F.Call p x args) = x ++ all_found args

abbrev pub in_item : Item-F Found Found Found Found Found Found Found Found Found Found Found Found Found Found Found → Found
in_item (Item-F.«Item::Plain» x) = x
in_item (Item-F.«Item::Spread» p x) = x

abbrev pub in_key : Key-F Found Found Found Found Found Found Found Found Found Found Found Found Found Found Found → Found
in_key (Key-F.Label l) = l
in_key (Key-F.Int p z) = []
in_key (Key-F.Long p z) = []

abbrev pub in_label : Label-F Found Found Found Found Found Found Found Found Found Found Found Found Found Found Found → Found
in_label (Label-F.Name i) = []
in_label (Label-F.Text i) = []
in_label (Label-F.«Label::GString» p g) = g

abbrev pub in_gstring : GString-F Found Found Found Found Found Found Found Found Found Found Found Found Found Found Found → Found
in_gstring g = all_found g.parts

abbrev pub in_part : Part-F Found Found Found Found Found Found Found Found Found Found Found Found Found Found Found → Found
in_part p = p.value

-- expressions have no statements
abbrev pub none_in_stmt : Stmt-F Found Found Found Found Found Found Found Found Found Found Found Found Found Found Found → Found
none_in_stmt x = []

abbrev pub none_in_param : Param-F Found Found Found Found Found Found Found Found Found Found Found Found Found Found Found → Found
none_in_param x = []

abbrev pub none_in_case : Case-F Found Found Found Found Found Found Found Found Found Found Found Found Found Found Found → Found
none_in_case x = []

abbrev pub none_in_catch : Catch-F Found Found Found Found Found Found Found Found Found Found Found Found Found Found Found → Found
none_in_catch x = []

abbrev pub none_in_decl : Decl-F Found Found Found Found Found Found Found Found Found Found Found Found Found Found Found → Found
none_in_decl x = []

abbrev pub none_in_var : Var-F Found Found Found Found Found Found Found Found Found Found Found Found Found Found Found → Found
none_in_var x = []

-- the places of the unread closures
unfoldable pub unread_places : Expr → Found
unread_places = fold-Expr Found Found Found Found Found Found Found Found Found Found Found Found Found Found Found
    in_arg in_closure in_entry in_expr in_item in_key in_label none_in_stmt in_gstring none_in_param in_part none_in_case none_in_catch none_in_decl none_in_var

-- and of the closures in the parts of expressions
unfoldable pub arg_places : Arg → Found
arg_places = fold-Arg Found Found Found Found Found Found Found Found Found Found Found Found Found Found Found
    in_arg in_closure in_entry in_expr in_item in_key in_label none_in_stmt in_gstring none_in_param in_part none_in_case none_in_catch none_in_decl none_in_var

unfoldable pub entry_places : Entry → Found
entry_places = fold-Entry Found Found Found Found Found Found Found Found Found Found Found Found Found Found Found
    in_arg in_closure in_entry in_expr in_item in_key in_label none_in_stmt in_gstring none_in_param in_part none_in_case none_in_catch none_in_decl none_in_var

unfoldable pub item_places : Item → Found
item_places = fold-Item Found Found Found Found Found Found Found Found Found Found Found Found Found Found Found
    in_arg in_closure in_entry in_expr in_item in_key in_label none_in_stmt in_gstring none_in_param in_part none_in_case none_in_catch none_in_decl none_in_var

unfoldable pub key_places : Key → Found
key_places = fold-Key Found Found Found Found Found Found Found Found Found Found Found Found Found Found Found
    in_arg in_closure in_entry in_expr in_item in_key in_label none_in_stmt in_gstring none_in_param in_part none_in_case none_in_catch none_in_decl none_in_var

unfoldable pub label_places : Label → Found
label_places = fold-Label Found Found Found Found Found Found Found Found Found Found Found Found Found Found Found
    in_arg in_closure in_entry in_expr in_item in_key in_label none_in_stmt in_gstring none_in_param in_part none_in_case none_in_catch none_in_decl none_in_var

unfoldable pub gstring_places : GString → Found
gstring_places = fold-GString Found Found Found Found Found Found Found Found Found Found Found Found Found Found Found
    in_arg in_closure in_entry in_expr in_item in_key in_label none_in_stmt in_gstring none_in_param in_part none_in_case none_in_catch none_in_decl none_in_var

unfoldable pub part_places : Part → Found
part_places = fold-Part Found Found Found Found Found Found Found Found Found Found Found Found Found Found Found
    in_arg in_closure in_entry in_expr in_item in_key in_label none_in_stmt in_gstring none_in_param in_part none_in_case none_in_catch none_in_decl none_in_var

unfoldable pub closure_places : Closure → Found
closure_places = fold-Closure Found Found Found Found Found Found Found Found Found Found Found Found Found Found Found
    in_arg in_closure in_entry in_expr in_item in_key in_label none_in_stmt in_gstring none_in_param in_part none_in_case none_in_catch none_in_decl none_in_var

abbrev pub unread_in : Expr → ℕ → ℕ → Type 0
unread_in x from to = Contains (unread_places x) (from, to)

-- these lie in a list of so many tokens, with fewer than so many from the first of a closure on
pub record Within (all below : ℕ) (places : Found) : Type 0 where
  pub ordered : (from to : ℕ) → Contains places (from, to) → from ≤ to
  pub inside : (from to : ℕ) → Contains places (from, to) → to ≤ all
  pub fewer : (from to : ℕ) → Contains places (from, to) → all - from < below
