-- The written code of each expression does what the expression means.
use Rattle.std.proofs.Common.{◌≡◌, ℕ, ◌+◌, ◌<◌, ◌≤◌, Bool, true, false, List, [], ◌∷◌, ◌++◌, length, refl, sym, ap, ◌∙◌, subst, arith}
use Rattle.std.specs.Prelude.{not, nat_lt, if◌then◌else◌}
use Rattle.gv_base.specs.declared.value.Value.{Value}
use Rattle.gv_base.specs.declared.value.Value.TheVariants.{Bool as Truth}
use Rattle.gv_core.specs.declared.expr.Const.TheVariants as const
use Rattle.gv_core.specs.declared.expr.Expr.{Expr, Const, Local, Assign', Call', Ordered', Equal', Not', Row_of-Expr, end_of-Expr, more_of-Expr}
use Rattle.gv_code.specs.declared.code.Body.{Body}
use Rattle.gv_code.specs.declared.code.OperandKind.TheVariants.{Value as V}
use Rattle.gv_code.specs.declared.code.Op.TheVariants.{Push, Load, Store, Invoke, Ordered, Equal, Not}
use Rattle.gv_code.specs.Pieces.{Shape, plain}
use Rattle.gv_meaning.specs.declared.world.Cell.{Cell}
use Rattle.gv_meaning.specs.declared.world.Cell.TheVariants.{Own, Shared}
use Rattle.gv_meaning.specs.declared.world.World.{World}
use Rattle.gv_meaning.specs.World.{const_value, is_true, are_equal, ordered, read}
use Rattle.gv_meaning.specs.Calls.{call_of}
use Rattle.gv_meaning.specs.Meaning.{Scope, cell_of, Runner, assigned, Given, value_of, values_of}
use Rattle.gv_meaning.specs.Machine.{At, frame, store, begin}
use Rattle.gv_written.specs.Written.{load, store_items, count_of, values_on, expr_items, exprs_items}
use Rattle.gv_written.proofs.Comes.{Comes, here, Serves, comes_as}
use Rattle.gv_written.proofs.Scope.{onto, popped_operands, cell_within, cell_outside, with_cell_within, with_cell_outside, length-with_cell, in_scope, out_of_scope}
use Rattle.gv_written.proofs.Run.{Spot, state, Lands, Gives, GivesAll, gives_own, gives_value, calls_by, gives_then, gives_all_then, gives_none, gives_more}

module _ (code : List Body) (s : Spot code) (run : Runner) (served : Serves code run s.d) where
  reads : (k : ℕ) (below : Shape) → Gives code s (plain below (load s.n k) ∷ []) [] (λ scope w. Given (read (cell_of scope k) w) scope w)
  reads k below = found (nat_lt k s.n) refl
    where
      found : (b : Bool) → b ≡ nat_lt k s.n → Gives code s (plain below (if b then Load k else Push const.Null) ∷ []) [] (λ scope w. Given (read (cell_of scope k) w) scope w)
      found true e =
          let lt : k < s.n = in_scope k s.n e in
          gives_own code s below (Load k) [] _ (λ above pc scope w n. (n, comes_as code here (ap (λ c. state code s (pc + 1) (read c w ∷ above) scope w) (cell_within scope s.junk k (omega arith)))))
      found false e =
          let le : s.n ≤ k = out_of_scope k s.n e in
          gives_own code s below (Push const.Null) [] _ (λ above pc scope w n. (n, comes_as code here (ap (λ c. state code s (pc + 1) (read c w ∷ above) scope w) (sym (cell_outside scope k (omega arith))))))

  writes : (k : ℕ) (v : Value) (below : Shape) → Gives code s (store_items s.n k below) (v ∷ []) (λ scope w. assigned (cell_of scope k) k v scope w)
  writes k v below = found (nat_lt k s.n) refl
    where
      at_cell : (above : List Value) (pc : ℕ) (scope : Scope) (w : World) → k < s.n → length scope ≡ s.n → (c c' : Cell) → c ≡ c' → Lands code s (pc + 1) above (store c k v s.k pc (above ++ s.base) (scope ++ s.junk) s.frames s.d w) (assigned c' k v scope w)
      at_cell above pc scope w lt n c (Own u) e =
          (length-with_cell scope k v ∙ n, comes_as code here (ap (λ c. store c k v s.k pc (above ++ s.base) (scope ++ s.junk) s.frames s.d w) e ∙ ap (λ l. At s.k (pc + 1) (v ∷ (above ++ s.base)) l s.frames s.d w) (with_cell_within scope s.junk k v (omega arith))))
      at_cell above pc scope w lt n c (Shared p) e = (n, comes_as code here (ap (λ c. store c k v s.k pc (above ++ s.base) (scope ++ s.junk) s.frames s.d w) e))

      unkept : (scope : Scope) (w : World) → s.n ≤ k → length scope ≡ s.n → assigned (cell_of scope k) k v scope w ≡ Given v scope w
      unkept scope w le n = ap (λ c. assigned c k v scope w) (cell_outside scope k (omega arith)) ∙ ap (λ l. Given v l w) (with_cell_outside scope k v (omega arith))

      found : (b : Bool) → b ≡ nat_lt k s.n → Gives code s (if b then plain below (Store k) ∷ [] else []) (v ∷ []) (λ scope w. assigned (cell_of scope k) k v scope w)
      found true e =
          let lt : k < s.n = in_scope k s.n e in
          gives_own code s below (Store k) (v ∷ []) _ (λ above pc scope w n. at_cell above pc scope w lt n (cell_of (scope ++ s.junk) k) (cell_of scope k) (cell_within scope s.junk k (omega arith)))
      found false e =
          record {
            by = λ above pc scope w n h. let le : s.n ≤ k = out_of_scope k s.n e in
                let end : pc ≡ pc + 0 = omega arith in
                subst (λ r. Lands code s (pc + 0) above (state code s pc (v ∷ above) scope w) r) (sym (unkept scope w le n))
                (n, subst (λ p. Comes code (state code s pc (v ∷ above) scope w) (state code s p (v ∷ above) scope w)) end here);
          }

  mutual
    pub expr_gives : (below : Shape) (e : Expr) → Gives code s (expr_items s.n below e) [] (λ scope w. value_of run e scope w)
    expr_gives below (Const c) = gives_value code s below (Push c) [] (λ w. const_value c w) (λ above pc slots w. refl)
    expr_gives below (Local k) = reads k below
    expr_gives below (Assign' k p (more_of-Expr e end_of-Expr)) = gives_then code s _ _ [] _ _ (expr_gives below e) (λ v. writes k v (V ∷ below))
    expr_gives below (Call' name shape args) =
        gives_all_then code s _ _ [] _ _ _ (exprs_give below args) (λ vs n. calls_by code s run served (values_on (count_of args) below) (Invoke name (count_of args)) (onto vs []) (call_of name vs) (λ above pc slots w. ap (λ (r : List Value × List Value). begin code (call_of name r.0 w) (frame s.k pc r.1 slots ∷ s.frames) s.d) (popped_operands vs [] above s.base (count_of args) n)))
    expr_gives below (Ordered' o p (more_of-Expr e end_of-Expr)) =
        gives_then code s _ _ [] _ _ (expr_gives below e) (λ v. gives_value code s (V ∷ below) (Ordered o) (v ∷ []) (λ w. ordered o v) (λ above pc slots w. refl))
    expr_gives below (Equal' p (more_of-Expr a end_of-Expr) q (more_of-Expr b end_of-Expr)) =
        gives_then code s _ _ [] _ _ (expr_gives below a) (λ x. gives_then code s _ _ (x ∷ []) _ _ (expr_gives (V ∷ below) b) (λ y. gives_value code s (V ∷ V ∷ below) Equal (y ∷ x ∷ []) (λ w. Truth (are_equal x y)) (λ above pc slots w. refl)))
    expr_gives below (Not' p (more_of-Expr e end_of-Expr)) =
        gives_then code s _ _ [] _ _ (expr_gives below e) (λ v. gives_value code s (V ∷ below) Not (v ∷ []) (λ w. Truth (not (is_true v))) (λ above pc slots w. refl))

    pub exprs_give : {m : _} → (below : Shape) (r : Row_of-Expr m) → GivesAll code s (exprs_items s.n below r) (count_of r) (λ scope w. values_of run r scope w)
    exprs_give below end_of-Expr = gives_none code s
    exprs_give below (more_of-Expr e rest) = gives_more code s _ _ _ _ _ (expr_gives below e) (exprs_give (V ∷ below) rest)
