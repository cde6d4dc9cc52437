-- Statements of scripts that aren't the first: only the first file may have some.
use Rattle.std.specs.Prelude.{ℕ, zero, suc, ◌==◌, List, [], ◌∷◌, Option, Some, None, if◌then◌else◌}
use Rattle.std.specs.Option.{option_map_or}
use Rattle.gv_base.specs.declared.refusal.Place.{Place}
use Rattle.gv_base.specs.declared.refusal.Refusal.{Refusal}
use Rattle.gv_base.specs.declared.refusal.RefusalKind.TheVariants.{LooseStatement}
use Rattle.gv_refusals.specs.Order.{earlier}
use Rattle.gv_tree.specs.declared.expr.Arg.{Arg}
use Rattle.gv_tree.specs.declared.expr.Arg.TheOpen.{Expr-F, Stmt-F}
use Rattle.gv_tree.specs.declared.expr.Closure.{Closure}
use Rattle.gv_tree.specs.declared.expr.Entry.{Entry}
use Rattle.gv_tree.specs.declared.expr.Expr.{Expr, out-Expr}
use Rattle.gv_tree.specs.declared.expr.GString.{GString}
use Rattle.gv_tree.specs.declared.expr.Item.{Item}
use Rattle.gv_tree.specs.declared.expr.Key.{Key}
use Rattle.gv_tree.specs.declared.expr.Label.{Label}
use Rattle.gv_tree.specs.declared.expr.Param.{Param}
use Rattle.gv_tree.specs.declared.expr.Part.{Part}
use Rattle.gv_tree.specs.declared.ops.UnaryOp.{UnaryOp}
use Rattle.gv_tree.specs.declared.ops.UnaryOp.TheVariants.{IncrementAfter, DecrementAfter}
use Rattle.gv_tree.specs.declared.stmt.Case.{Case}
use Rattle.gv_tree.specs.declared.stmt.Catch.{Catch}
use Rattle.gv_tree.specs.declared.stmt.Decl.{Decl, out-Decl}
use Rattle.gv_tree.specs.declared.stmt.Stmt.{Stmt, out-Stmt}
use Rattle.gv_tree.specs.declared.stmt.Var.{Var}
use Rattle.gv_tree.specs.declared.top.Script.{Script}
use Rattle.gv_tree.specs.declared.top.Top.{Top}
use Rattle.gv_tree.specs.declared.top.Top.TheVariants as top

-- ---- first tokens

-- the place of an operator's operand, or the operator's, where that stands first
abbrev pub unary_first : UnaryOp → Place → Place → Place
unary_first IncrementAfter operand own = operand
unary_first DecrementAfter operand own = operand
unary_first op operand own = own

-- the place of the first token: that of the left operand's, where there is one
abbrev pub first_in : (Expr → Place) → Expr-F Arg Closure Entry Expr Item Key Label Stmt GString Param Part Case Catch Decl Var → Place
first_in first (Expr-F.Atom p a) = p
first_in first (Expr-F.«Expr::GString» p g) = p
first_in first (Expr-F.Paren p x) = p
first_in first (Expr-F.List p items) = p
first_in first (Expr-F.Map p entries) = p
first_in first (Expr-F.Closure p c) = p
first_in first (Expr-F.New p name args) = p
first_in first (Expr-F.Unary p op x) = unary_first op (first x) p
first_in first (Expr-F.Binary p op x y) = first x
first_in first (Expr-F.Typed p op x t) = first x
first_in first (Expr-F.Choice p x y z) = first x
first_in first (Expr-F.Assign p op x y) = first x
first_in first (Expr-F.Member p op x l) = first x
first_in first (Expr-F.Field p x name) = first x
first_in first (Expr-F.Index p x xs) = first x
first_in first (Expr-F.Call p x args) = first x

-- as deep as `n` expressions may stand in one another
abbrev pub start : Place
start = record { file = 0; line = 0; column = 0 }

abbrev pub expr_first : ℕ → Expr → Place
expr_first zero x = start
expr_first (suc n) x = first_in (expr_first n) (out-Expr x)

-- the levels that a tree of the grammar has at most, three for each of the 300 that may be open at a place, and some
abbrev pub most_levels : ℕ
most_levels = 1000

abbrev pub stmt_in : Stmt-F Arg Closure Entry Expr Item Key Label Stmt GString Param Part Case Catch Decl Var → Place
stmt_in (Stmt-F.Decl d) = (out-Decl d).place
stmt_in (Stmt-F.Multiple p names x) = p
stmt_in (Stmt-F.Expr x) = expr_first most_levels x
stmt_in (Stmt-F.Block p stmts) = p
stmt_in (Stmt-F.If p x s t) = p
stmt_in (Stmt-F.While p x s) = p
stmt_in (Stmt-F.ForIn p w name x s) = p
stmt_in (Stmt-F.For p first test step s) = p
stmt_in (Stmt-F.Switch p x cases) = p
stmt_in (Stmt-F.Try p stmts catches last) = p
stmt_in (Stmt-F.Throw p x) = p
stmt_in (Stmt-F.Return p x) = p
stmt_in (Stmt-F.Leave p l) = p
stmt_in (Stmt-F.Assert p x message) = p

abbrev pub stmt_first : Stmt → Place
stmt_first s = stmt_in (out-Stmt s)

-- ---- scripts

-- the first statement of a script; a declaration with annotations is none
abbrev pub statement : Top → Option Place → Option Place
statement (top.Stmt s) rest = Some (stmt_first s)
statement other rest = rest

abbrev pub first_statement : List Top → Option Place
first_statement [] = None
first_statement (t ∷ ts) = statement t (first_statement ts)

abbrev pub noted : Option Place → Option Refusal → Option Refusal
noted None first = first
noted (Some p) first = earlier first (record { kind = LooseStatement; place = p })

-- the refusal of a file's script, or the one found before where that stands first
abbrev pub loose_refused : ℕ → Script → Option Refusal → Option Refusal
loose_refused file script first = if file == 0 then first else noted (first_statement script.tops) first
