-- The written code of each statement does what the statement means.
use Rattle.std.proofs.Common.{◌≡◌, ℕ, ◌+◌, List, [], ◌∷◌, length}
use Rattle.gv_base.specs.declared.value.Value.{Value}
use Rattle.gv_core.specs.declared.expr.Expr.{Expr}
use Rattle.gv_core.specs.declared.stmt.Exit.TheVariants.{Breaks, Continues, Returns}
use Rattle.gv_core.specs.declared.stmt.Stmt.{Stmt, Declare, Do, Block', If', While', Break, Continue, Return, Row_of-Stmt, end_of-Stmt, more_of-Stmt}
use Rattle.gv_code.specs.declared.code.Body.{Body}
use Rattle.gv_code.specs.declared.code.OperandKind.TheVariants.{Value as V}
use Rattle.gv_code.specs.Pieces.{Shape}
use Rattle.gv_meaning.specs.declared.frame.Frame.{Frame}
use Rattle.gv_meaning.specs.Meaning.{Runner, value_of, outcome_of, outcomes_of}
use Rattle.gv_written.specs.Written.{expr_items, declares, stmt_piece, stmts_piece}
use Rattle.gv_written.proofs.Comes.{Serves, Ends}
use Rattle.gv_written.proofs.Exprs.{expr_gives}
use Rattle.gv_written.proofs.Stmts.{spot}
use Rattle.gv_written.proofs.Does.{Values, Does, does_discard, does_declare, does_out, does_null_out, does_value, does_nothing, does_then, does_if}
use Rattle.gv_written.proofs.Loops.{does_while}

module _ (code : List Body) (k : ℕ) (frames : List Frame) (d : ℕ) (run : Runner) (served : Serves code run d) where
  val : (e : Expr) (below : Shape) (ends : Ends) (base : List Value) (n : ℕ) → Values code k frames d ends base n (expr_items n below e) (λ scope w. value_of run e scope w)
  val e below ends base n junk = expr_gives code (spot code k frames d ends base n junk) run served below e

  mutual
    pub stmt_does : (s : Stmt) (below : Shape) (ends : Ends) (base : List Value) (n : ℕ) → length base ≡ length below → Does code k frames d ends base n (stmt_piece n below s) [] (declares s) (λ scope w. outcome_of run s scope w)
    stmt_does (Declare shared e) below ends base n tall =
        does_value code k frames d ends base n _ _ _ _ _ (val e below ends base n) (λ v. does_declare code k frames d ends base n (V ∷ below) shared v)
    stmt_does (Do e) below ends base n tall =
        does_value code k frames d ends base n _ _ _ _ _ (val e below ends base n) (λ v. does_discard code k frames d ends base n (V ∷ below) v)
    stmt_does (Block' shape all) below ends base n tall = stmts_do all below ends base n tall
    stmt_does (If' t p (more_of-Stmt a end_of-Stmt) q (more_of-Stmt b end_of-Stmt)) below ends base n tall =
        does_if code k frames d ends base n _ _ below _ _ _ _ _ _ (val t below ends base n) (stmt_does a below ends base n tall) (stmt_does b below ends base n tall)
    stmt_does (While' t p (more_of-Stmt s end_of-Stmt)) below ends base n tall =
        does_while code k frames d ends base n _ below _ _ (λ scope w. value_of run t scope w) (λ scope w. outcome_of run s scope w) tall (λ ends. val t below ends base n) (λ ends. stmt_does s below ends base n tall)
    stmt_does Break below ends base n tall = does_null_out code k frames d ends base n below (V ∷ below) Breaks
    stmt_does Continue below ends base n tall = does_null_out code k frames d ends base n below (V ∷ below) Continues
    stmt_does (Return e) below ends base n tall =
        does_value code k frames d ends base n _ _ _ _ _ (val e below ends base n) (λ v. does_out code k frames d ends base n (V ∷ below) Returns v)

    pub stmts_do : {m : _} → (r : Row_of-Stmt m) (below : Shape) (ends : Ends) (base : List Value) (n : ℕ) → length base ≡ length below → Does code k frames d ends base n (stmts_piece n below r) [] 0 (λ scope w. outcomes_of run r scope w)
    stmts_do end_of-Stmt below ends base n tall = does_nothing code k frames d ends base n
    stmts_do (more_of-Stmt s rest) below ends base n tall =
        does_then code k frames d ends base n (declares s) _ _ _ (λ scope w. outcomes_of run rest scope w) (stmt_does s below ends base n tall) (stmts_do rest below ends base (n + declares s) tall)
