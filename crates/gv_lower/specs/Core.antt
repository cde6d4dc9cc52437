-- The core tree of a script: what is built of the language so far. What has none isn't built.
use Rattle.std.specs.Prelude.{ℕ, zero, suc, ◌==◌, Bool, true, false, List, [], ◌∷◌, ◌++◌, Option, Some, None, option_map, option_and_then, position, if◌then◌else◌}
use Rattle.std.specs.List.{list_any}
use Rattle.gv_core.specs.declared.expr.Const.TheVariants as const
use Rattle.gv_core.specs.declared.expr.Expr.{Expr as Core}
use Rattle.gv_core.specs.declared.expr.Expr.TheVariants as core
use Rattle.gv_core.specs.declared.expr.Order.TheVariants as order
use Rattle.gv_core.specs.declared.stmt.Source.{Source}
use Rattle.gv_core.specs.declared.stmt.Stmt.{Stmt as CoreStmt}
use Rattle.gv_core.specs.declared.stmt.Stmt.TheVariants as stmt
use Rattle.gv_tree.specs.declared.expr.Arg.{Arg, out-Arg}
use Rattle.gv_tree.specs.declared.expr.Arg.TheOpen.{Arg-F, Expr-F, Stmt-F}
use Rattle.gv_tree.specs.declared.expr.Atom.{Atom}
use Rattle.gv_tree.specs.declared.expr.Atom.TheVariants as atom
use Rattle.gv_tree.specs.declared.expr.Closure.{Closure}
use Rattle.gv_tree.specs.declared.expr.Entry.{Entry}
use Rattle.gv_tree.specs.declared.expr.Expr.{Expr, out-Expr}
use Rattle.gv_tree.specs.declared.expr.GString.{GString}
use Rattle.gv_tree.specs.declared.expr.Item.{Item}
use Rattle.gv_tree.specs.declared.expr.Key.{Key}
use Rattle.gv_tree.specs.declared.expr.Label.{Label}
use Rattle.gv_tree.specs.declared.expr.Param.{Param}
use Rattle.gv_tree.specs.declared.expr.Part.{Part}
use Rattle.gv_tree.specs.declared.ops.AssignOp.{AssignOp}
use Rattle.gv_tree.specs.declared.ops.AssignOp.TheVariants as assign
use Rattle.gv_tree.specs.declared.ops.BinaryOp.{BinaryOp}
use Rattle.gv_tree.specs.declared.ops.BinaryOp.TheVariants as binary
use Rattle.gv_tree.specs.declared.ops.Leave.{Leave}
use Rattle.gv_tree.specs.declared.ops.Leave.TheVariants as leave
use Rattle.gv_tree.specs.declared.ops.VarType.{VarType}
use Rattle.gv_tree.specs.declared.ops.VarType.TheVariants as written
use Rattle.gv_tree.specs.declared.stmt.Case.{Case}
use Rattle.gv_tree.specs.declared.stmt.Catch.{Catch}
use Rattle.gv_tree.specs.declared.stmt.Decl.{Decl, out-Decl}
use Rattle.gv_tree.specs.declared.stmt.Stmt.{Stmt, out-Stmt}
use Rattle.gv_tree.specs.declared.stmt.Var.{Var, out-Var}
use Rattle.gv_tree.specs.declared.top.Script.{Script}
use Rattle.gv_tree.specs.declared.top.Top.{Top}
use Rattle.gv_tree.specs.declared.top.Top.TheVariants as top
use Rattle.gv_lower.specs.declared.known.Comparison.{Comparison}
use Rattle.gv_lower.specs.declared.known.Comparison.TheVariants.{ByOrder, Equal, NotEqual}
use Rattle.gv_lower.specs.declared.known.Known.{Known}

abbrev pub ExprLayer : Type 0
ExprLayer = Expr-F Arg Closure Entry Expr Item Key Label Stmt GString Param Part Case Catch Decl Var

abbrev pub StmtLayer : Type 0
StmtLayer = Stmt-F Arg Closure Entry Expr Item Key Label Stmt GString Param Part Case Catch Decl Var

-- ---- names

-- the place of a variable's name among those in scope, the oldest first
abbrev pub place_of : List ℕ → ℕ → Option ℕ
place_of vars name = position (λ n. n == name) vars

-- its slot: the first one has `this`
abbrev pub slot_of : List ℕ → ℕ → Option ℕ
slot_of vars name = option_map (λ n. suc n) (place_of vars name)

-- the name that an expression is
abbrev pub name_in : ExprLayer → Option ℕ
name_in (Expr-F.Atom p (atom.Name n)) = Some n
name_in x = None

-- ---- operators

-- the method that an operator calls
abbrev pub method_of : Known → BinaryOp → Option ℕ
method_of k binary.Plus = Some k.plus
method_of k binary.Minus = Some k.minus
method_of k binary.Multiply = Some k.multiply
method_of k o = None

-- the operator in an assignment: none in a plain one, and none that is built in the others
abbrev pub assigned_by : Known → AssignOp → Option ℕ
assigned_by k assign.Plus = Some k.plus
assigned_by k assign.Minus = Some k.minus
assigned_by k assign.Multiply = Some k.multiply
assigned_by k o = None

abbrev pub comparison_of : BinaryOp → Option Comparison
comparison_of binary.Less = Some (ByOrder order.Less)
comparison_of binary.LessEqual = Some (ByOrder order.LessEqual)
comparison_of binary.Greater = Some (ByOrder order.Greater)
comparison_of binary.GreaterEqual = Some (ByOrder order.GreaterEqual)
comparison_of binary.Equal = Some Equal
comparison_of binary.NotEqual = Some NotEqual
comparison_of o = None

-- ---- expressions

-- a call on one value with another
abbrev pub called : ℕ → Core → Core → Core
called m x y = core.Call m (x ∷ y ∷ [])

abbrev pub operated : Option ℕ → Option Core → Option Core → Option Core
operated (Some m) (Some x) (Some y) = Some (called m x y)
operated m x y = None

abbrev pub compared_by : Known → Comparison → Core → Core → Core
compared_by k (ByOrder o) x y = core.Ordered o (called k.compare_to x y)
compared_by k Equal x y = core.Equal x y
compared_by k NotEqual x y = core.Not (core.Equal x y)

abbrev pub compared : Known → Option Comparison → Option Core → Option Core → Option Core
compared k (Some c) (Some x) (Some y) = Some (compared_by k c x y)
compared k c x y = None

-- a literal or a variable
abbrev pub atom_core : List ℕ → Atom → Option Core
atom_core vars (atom.Int n) = Some (core.Const (const.Int n))
atom_core vars (atom.Long n) = Some (core.Const (const.Long n))
atom_core vars (atom.Name n) = option_map core.Local (slot_of vars n)
atom_core vars a = None

module _ (k : Known) where
  -- a number: literals and variables, joined by `+`, `-` and `*`
  abbrev pub number_in : (Expr → Option Core) → List ℕ → ExprLayer → Option Core
  number_in go vars (Expr-F.Atom p a) = atom_core vars a
  number_in go vars (Expr-F.Paren p x) = go x
  number_in go vars (Expr-F.Binary p o x y) = operated (method_of k o) (go x) (go y)
  number_in go vars x = None

  -- as deep as `n` expressions may stand in one another
  abbrev pub number : ℕ → List ℕ → Expr → Option Core
  number zero vars x = None
  number (suc n) vars x = number_in (number n vars) vars (out-Expr x)

  -- an assignment to a variable
  abbrev pub assigned : AssignOp → Option ℕ → Option Core → Option Core
  assigned assign.Plain (Some slot) (Some x) = Some (core.Assign slot x)
  assigned o (Some slot) (Some x) = option_map (λ m. core.Assign slot (called m (core.Local slot) x)) (assigned_by k o)
  assigned o slot x = None

  abbrev pub print_of : Core → Core
  print_of x = core.Call k.println (core.Local 0 ∷ x ∷ [])

  module _ (n : ℕ) (vars : List ℕ) where
    -- a condition: a literal, or two numbers compared
    abbrev pub test_in : ExprLayer → Option Core
    test_in (Expr-F.Atom p (atom.Bool b)) = Some (core.Const (const.Bool b))
    test_in (Expr-F.Binary p o x y) = compared k (comparison_of o) (number n vars x) (number n vars y)
    test_in x = None

    -- what is printed: a string or a number
    abbrev pub printed_in : Expr → ExprLayer → Option Core
    printed_in x (Expr-F.Atom p (atom.Text text)) = Some (core.Const (const.Text text))
    printed_in x other = number n vars x

    abbrev pub plain_in : Arg-F Arg Closure Entry Expr Item Key Label Stmt GString Param Part Case Catch Decl Var → Option Core
    plain_in (Arg-F.«Arg::Plain» x) = printed_in x (out-Expr x)
    plain_in a = None

    -- the only argument
    abbrev pub argument_in : List Arg → Option Core
    argument_in (a ∷ []) = plain_in (out-Arg a)
    argument_in args = None

    -- a call of `println`, where no variable has that name
    abbrev pub printing : Option ℕ → List Arg → Option Core
    printing None args = None
    printing (Some name) args =
        if list_any (λ v. v == name) vars then None
        else if name == k.println then option_map print_of (argument_in args)
        else None

    -- what is done for its effect
    abbrev pub effect_in : Expr → ExprLayer → Option Core
    effect_in x (Expr-F.Assign p o y z) = assigned o (option_and_then (slot_of vars) (name_in (out-Expr y))) (number n vars z)
    effect_in x (Expr-F.Call p f args) = printing (name_in (out-Expr f)) args
    effect_in x other = number n vars x

-- ---- statements

-- a statement, and the variables in scope behind it
pub record Made : Type 0 where
  pub tree : CoreStmt
  pub vars : List ℕ

abbrev pub alone : List ℕ → CoreStmt → Made
alone vars t = record { tree = t; vars = vars }

-- what a statement is made, whether it stands in a loop or not, and with these variables in scope
abbrev pub Maker : Type 0
Maker = Bool → List ℕ → Stmt → Option Made

abbrev pub with_first : CoreStmt → Option (List CoreStmt) → Option (List CoreStmt)
with_first t rest = option_map (λ ts. t ∷ ts) rest

-- statements in order, each with the variables of those before it
abbrev pub all_of : Maker → Bool → List ℕ → List Stmt → Option (List CoreStmt)
all_of go loop vars [] = Some []
all_of go loop vars (s ∷ ss) = option_and_then (λ m. with_first m.tree (all_of go loop m.vars ss)) (go loop vars s)

abbrev pub tree_of : Option Made → Option CoreStmt
tree_of m = option_map (λ m. m.tree) m

-- a statement that may be left out
abbrev pub or_nothing : Maker → Bool → List ℕ → Option Stmt → Option CoreStmt
or_nothing go loop vars None = Some (stmt.Block [])
or_nothing go loop vars (Some s) = tree_of (go loop vars s)

abbrev pub chosen : Option Core → Option CoreStmt → Option CoreStmt → Option CoreStmt
chosen (Some t) (Some a) (Some b) = Some (stmt.If t a b)
chosen t a b = None

abbrev pub repeated : Option Core → Option CoreStmt → Option CoreStmt
repeated (Some t) (Some s) = Some (stmt.While t s)
repeated t s = None

-- a way out, where a loop is there
abbrev pub left : Bool → Leave → Option CoreStmt
left true leave.Break = Some stmt.Break
left true leave.Continue = Some stmt.Continue
left false l = None

-- a declared variable whose name isn't in scope yet
abbrev pub declared : List ℕ → ℕ → Option Core → Option Made
declared vars name None = None
declared vars name (Some x) = if list_any (λ v. v == name) vars then None else Some (record { tree = stmt.Declare false x; vars = vars ++ name ∷ [] })

module _ (k : Known) (n : ℕ) where
  abbrev pub var_in : List ℕ → Var → Option Made
  var_in vars v = declared vars ((out-Var v).ident.name) (option_and_then (number k n vars) ((out-Var v).initial))

  -- `def`, one variable, and its value
  abbrev pub declared_in : List ℕ → Bool → VarType → List Var → Option Made
  declared_in vars false written.Def (v ∷ []) = var_in vars v
  declared_in vars is_final w vs = None

  abbrev pub stmt_in : Maker → Bool → List ℕ → StmtLayer → Option Made
  stmt_in go loop vars (Stmt-F.Decl d) = declared_in vars ((out-Decl d).is_final) ((out-Decl d).written) ((out-Decl d).vars)
  stmt_in go loop vars (Stmt-F.Expr x) = option_map (λ c. alone vars (stmt.Do c)) (effect_in k n vars x (out-Expr x))
  stmt_in go loop vars (Stmt-F.Block p ss) = option_map (λ ts. alone vars (stmt.Block ts)) (all_of go loop vars ss)
  stmt_in go loop vars (Stmt-F.If p t a b) = option_map (alone vars) (chosen (test_in k n vars (out-Expr t)) (tree_of (go loop vars a)) (or_nothing go loop vars b))
  stmt_in go loop vars (Stmt-F.While p t s) = option_map (alone vars) (repeated (test_in k n vars (out-Expr t)) (tree_of (go true vars s)))
  stmt_in go loop vars (Stmt-F.Leave p l) = option_map (alone vars) (left loop l)
  stmt_in go loop vars s = None

  -- as deep as `m` statements may stand in one another
  abbrev pub made : ℕ → Maker
  made zero loop vars s = None
  made (suc m) loop vars s = stmt_in (made m) loop vars (out-Stmt s)

  -- ---- scripts

  abbrev pub top_made : List ℕ → Top → Option Made
  top_made vars (top.Stmt s) = made n false vars s
  top_made vars t = None

  abbrev pub tops_of : List ℕ → List Top → Option (List CoreStmt)
  tops_of vars [] = Some []
  tops_of vars (t ∷ ts) = option_and_then (λ m. with_first m.tree (tops_of m.vars ts)) (top_made vars t)

-- the levels that a tree of the grammar has at most, three for each of the 300 that may be open at a place, and some
abbrev pub most_levels : ℕ
most_levels = 1000

-- a script's body: it has no captured variable, and `this` is its only parameter
abbrev pub body : List CoreStmt → Source
body ts = record { captured = 0; parameters = 1; tree = stmt.Block ts }

-- the bodies of a script, of which the first starts its run; or None, where a form of it isn't built
abbrev pub unit_of : Known → Script → Option (List Source)
unit_of k script = option_map (λ ts. body ts ∷ []) (tops_of k most_levels [] script.tops)
