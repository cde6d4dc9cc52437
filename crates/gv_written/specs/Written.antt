-- The written code of each core tree.
use Rattle.std.specs.Prelude.{Bool, true, false, ℕ, zero, suc, ◌+◌, List, [], ◌∷◌, ◌++◌, map, length, nat_lt, if◌then◌else◌}
use Rattle.gv_core.specs.declared.expr.Expr.{Expr, Const, Local, Assign', Call', Ordered', Equal', Not', Row_of-Expr, end_of-Expr, more_of-Expr}
use Rattle.gv_core.specs.declared.stmt.Stmt.{Stmt, Declare, Do, Block', If', While', Break, Continue, Return, Row_of-Stmt, end_of-Stmt, more_of-Stmt}
use Rattle.gv_core.specs.declared.stmt.Source.{Source}
use Rattle.gv_core.specs.declared.expr.Const.TheVariants as const
use Rattle.gv_core.specs.declared.stmt.Exit.TheVariants.{Breaks, Continues, Returns}
use Rattle.gv_code.specs.declared.code.OperandKind.TheVariants.{Value as V}
use Rattle.gv_code.specs.declared.code.Op.{Op}
use Rattle.gv_code.specs.declared.code.Op.TheVariants.{Push, Load, Store, Declare as DeclareIn, DeclareShared, Invoke, Ordered, Equal, Not, Discard, Tick, JumpOn, JumpBack, JumpUnless, Finish}
use Rattle.gv_code.specs.declared.code.Body.{Body}
use Rattle.gv_code.specs.declared.piece.Item.{Item}
use Rattle.gv_code.specs.declared.piece.Item.TheVariants.{Out}
use Rattle.gv_code.specs.Pieces.{Piece, Shape, plain, bare, joined, directed, loop_ways, written}

-- `height` is how many variables are in scope where the code begins, and `below` the kinds of the operands on the stack there, the
-- top first

-- a variable that isn't in scope is null, and keeps nothing
abbrev pub load : ℕ → ℕ → Op
load height slot = if nat_lt slot height then Load slot else Push const.Null

abbrev pub store_items : ℕ → ℕ → Shape → List Item
store_items height slot below = if nat_lt slot height then plain below (Store slot) ∷ [] else []

abbrev pub count_of : {m : _} → Row_of-Expr m → ℕ
count_of end_of-Expr = 0
count_of (more_of-Expr e rest) = suc (count_of rest)

-- so many values on top of the others
abbrev pub values_on : ℕ → Shape → Shape
values_on zero below = below
values_on (suc n) below = values_on n (V ∷ below)

abbrev mutual
  pub expr_items : ℕ → Shape → Expr → List Item
  expr_items height below (Const c) = plain below (Push c) ∷ []
  expr_items height below (Local k) = plain below (load height k) ∷ []
  expr_items height below (Assign' k p (more_of-Expr e end_of-Expr)) = expr_items height below e ++ store_items height k (V ∷ below)
  expr_items height below (Call' name shape args) =
      exprs_items height below args ++ plain (values_on (count_of args) below) (Invoke name (count_of args)) ∷ []
  expr_items height below (Ordered' o p (more_of-Expr e end_of-Expr)) = expr_items height below e ++ plain (V ∷ below) (Ordered o) ∷ []
  expr_items height below (Equal' p (more_of-Expr a end_of-Expr) q (more_of-Expr b end_of-Expr)) =
      expr_items height below a ++ (expr_items height (V ∷ below) b ++ plain (V ∷ V ∷ below) Equal ∷ [])
  expr_items height below (Not' p (more_of-Expr e end_of-Expr)) = expr_items height below e ++ plain (V ∷ below) Not ∷ []

  pub exprs_items : {m : _} → ℕ → Shape → Row_of-Expr m → List Item
  exprs_items height below end_of-Expr = []
  exprs_items height below (more_of-Expr e rest) = expr_items height below e ++ exprs_items height (V ∷ below) rest

abbrev pub if_piece : Shape → List Item → Piece → Piece → Piece
if_piece below test a b =
    joined (bare (test ++ plain (V ∷ below) (JumpUnless (length a.items + 1)) ∷ []))
    (joined a (joined (bare (plain below (JumpOn (length b.items)) ∷ [])) b))

-- behind the body of a loop: a jump back, where `continue` comes out, a jump back, and where `break` comes out
abbrev pub loop_tail : Shape → ℕ → List Item
loop_tail below n = plain below (JumpBack (n + 2)) ∷ plain (V ∷ below) Discard ∷ plain below (JumpBack (n + 4)) ∷ plain (V ∷ below) Discard ∷ []

abbrev pub while_piece : Shape → List Item → Piece → Piece
while_piece below test body =
    joined (bare (plain below Tick ∷ (test ++ plain (V ∷ below) (JumpUnless (length body.items + 4)) ∷ [])))
    (joined (directed (loop_ways (length below)) body) (bare (loop_tail below (length test + length body.items))))

-- how many variables a statement declares for those behind it
abbrev pub declares : Stmt → ℕ
declares (Declare shared e) = 1
declares s = 0

abbrev pub declare : Bool → ℕ → Op
declare false slot = DeclareIn slot
declare true slot = DeclareShared slot

abbrev mutual
  pub stmt_piece : ℕ → Shape → Stmt → Piece
  stmt_piece height below (Declare shared e) = bare (expr_items height below e ++ plain (V ∷ below) (declare shared height) ∷ [])
  stmt_piece height below (Do e) = bare (expr_items height below e ++ plain (V ∷ below) Discard ∷ [])
  stmt_piece height below (Block' shape all) = stmts_piece height below all
  stmt_piece height below (If' t p (more_of-Stmt a end_of-Stmt) q (more_of-Stmt b end_of-Stmt)) =
      if_piece below (expr_items height below t) (stmt_piece height below a) (stmt_piece height below b)
  stmt_piece height below (While' t p (more_of-Stmt s end_of-Stmt)) = while_piece below (expr_items height below t) (stmt_piece height below s)
  stmt_piece height below Break = bare (plain below (Push const.Null) ∷ Out (V ∷ below) Breaks ∷ [])
  stmt_piece height below Continue = bare (plain below (Push const.Null) ∷ Out (V ∷ below) Continues ∷ [])
  stmt_piece height below (Return e) = bare (expr_items height below e ++ Out (V ∷ below) Returns ∷ [])

  pub stmts_piece : {m : _} → ℕ → Shape → Row_of-Stmt m → Piece
  stmts_piece height below end_of-Stmt = bare []
  stmts_piece height below (more_of-Stmt s rest) = joined (stmt_piece height below s) (stmts_piece (height + declares s) below rest)

-- a whole body, behind which stands an answer of null
abbrev pub whole : Source → Piece
whole b = joined (stmt_piece (b.captured + b.parameters) [] b.tree) (bare (plain [] (Push const.Null) ∷ plain (V ∷ []) Finish ∷ []))

abbrev pub body_of : Source → Body
body_of b = written b.captured b.parameters (whole b)

abbrev pub code_of : List Source → List Body
code_of unit = map body_of unit
