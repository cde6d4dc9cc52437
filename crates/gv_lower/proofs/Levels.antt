-- What stands one level deeper.
use Rattle.std.proofs.Common.{◌≡◌, ◌≢◌, ℕ, zero, suc, ◌-◌, Bool, List, refl, arith}
use Rattle.gv_tree.specs.declared.expr.Expr.{Expr, out-Expr}
use Rattle.gv_tree.specs.declared.stmt.Stmt.{Stmt, out-Stmt}
use Rattle.gv_lower.specs.declared.known.Known.{Known}
use Rattle.gv_lower.specs.Core.{number, number_in, made, stmt_in}

pub number_below : (k : Known) (levels : ℕ) (vars : List ℕ) (x : Expr) → levels ≢ 0 → number k levels vars x ≡ number_in k (number k (levels - 1) vars) vars (out-Expr x)
number_below k zero vars x some = absurd (some refl)
number_below k (suc n) vars x some = let e : suc n - 1 ≡ n = omega arith in rw e refl

pub made_below : (k : Known) (n levels : ℕ) (loop : Bool) (vars : List ℕ) (s : Stmt) → levels ≢ 0 → made k n levels loop vars s ≡ stmt_in k n (made k n (levels - 1)) loop vars (out-Stmt s)
made_below k n zero loop vars s some = absurd (some refl)
made_below k n (suc m) loop vars s some = let e : suc m - 1 ≡ m = omega arith in rw e refl
