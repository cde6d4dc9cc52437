-- The written code goes forward, but for jumps back to where a tick is taken.
use Rattle.std.proofs.Common.{◌≡◌, ℕ, zero, suc, ◌+◌, ◌-◌, ◌<◌, ◌≤◌, Bool, true, false, List, [], ◌∷◌, ◌++◌, map, length, Option, Some, None, refl, sym, ap, ◌∙◌, subst, arith, append_assoc, length-append, ◌⊎◌, inl, inr}
use Rattle.std.specs.Prelude.{nat_lt, slice_get, if◌then◌else◌}
use Rattle.gv_core.specs.declared.expr.Expr.{Expr, Const, Local, Assign', Call', Ordered', Equal', Not', Row_of-Expr, end_of-Expr, more_of-Expr}
use Rattle.gv_core.specs.declared.expr.Const.TheVariants as const
use Rattle.gv_core.specs.declared.stmt.Exit.{Exit}
use Rattle.gv_core.specs.declared.stmt.Exit.TheVariants.{Breaks, Continues, Returns}
use Rattle.gv_core.specs.declared.stmt.Source.{Source}
use Rattle.gv_core.specs.declared.stmt.Stmt.{Stmt, Declare, Do, Block', If', While', Break, Continue, Return, Row_of-Stmt, end_of-Stmt, more_of-Stmt}
use Rattle.gv_code.specs.declared.code.OperandKind.TheVariants.{Value as V}
use Rattle.gv_code.specs.declared.code.Op.{Op}
use Rattle.gv_code.specs.declared.code.Op.TheVariants.{Push, Load, Store, Tick, JumpOn, JumpBack, JumpUnless, Finish}
use Rattle.gv_code.specs.declared.code.Instruction.{Instruction}
use Rattle.gv_code.specs.declared.code.Handler.{Handler}
use Rattle.gv_code.specs.declared.code.Body.{Body}
use Rattle.gv_code.specs.declared.piece.Item.{Item}
use Rattle.gv_code.specs.declared.piece.Item.TheVariants.{Plain, Out}
use Rattle.gv_code.specs.Forward.{Forward, GoesForward, HandlersFit, JumpFits, TakesTick}
use Rattle.gv_code.specs.Pieces.{Piece, Shape, bare, decided, directed, directed_items, instruction_of, joined, loop_ways, plain}
use Rattle.gv_written.specs.Written.{body_of, code_of, declare, declares, expr_items, exprs_items, load, loop_tail, stmt_piece, stmts_piece, store_items, while_piece, whole}
use Rattle.gv_written.proofs.Placed.{Ways, Within, WithinAll, length-directed_items, within_directed, within_joined}

-- what the instruction at a place does, if it isn't a way out
abbrev op_of : Item → Option Op
op_of (Plain i) = Some i.op
op_of (Out shape e) = None

abbrev op_at : List Item → ℕ → Option Op
op_at [] p = None
op_at (o ∷ os) zero = op_of o
op_at (o ∷ os) (suc p) = op_at os p

op_front : (a b : List Item) (p : ℕ) → p < length a → op_at (a ++ b) p ≡ op_at a p
op_front [] b p lt = absurd (omega arith)
op_front (o ∷ a) b zero lt = refl
op_front (o ∷ a) b (suc p) lt = op_front a b p (omega arith)

op_behind : (a b : List Item) (p q : ℕ) → p ≡ length a + q → op_at (a ++ b) p ≡ op_at b q
op_behind [] b p q e = let z : p ≡ q = omega arith in ap (op_at b) z
op_behind (o ∷ a) b zero q e = absurd (omega arith)
op_behind (o ∷ a) b (suc p) q e = op_behind a b p q (omega arith)

split : (p k : ℕ) → (p < k) ⊎ ((q : ℕ) × (p ≡ k + q))
split p zero = inr (p, omega arith)
split zero (suc k) = inl (omega arith)
split (suc p) (suc k) = elim (split p k) as (λ _. (suc p < suc k) ⊎ ((q : ℕ) × (suc p ≡ suc k + q))) [ inl lt ↦ inl (omega arith) | inr r ↦ inr (r.0, more r.0 r.1) ]
  where
    more : (q : ℕ) → p ≡ k + q → suc p ≡ suc k + q
    more q e = omega arith

-- ---- jumps back

record BackTo (os : List Item) (p n : ℕ) : Type 0 where
  near : n ≤ p
  tick : op_at os (p - n) ≡ Some Tick

-- each jump back leads to where a tick is taken, behind `before` or alone
record LoopsIn (before os : List Item) : Type 0 where
  at : (p n : ℕ) → op_at os p ≡ Some (JumpBack n) → BackTo (before ++ os) (length before + p) n

record Loops (os : List Item) : Type 0 where
  at : (p n : ℕ) → op_at os p ≡ Some (JumpBack n) → BackTo os p n

loops_behind : (a b : List Item) → Loops a → LoopsIn a b → Loops (a ++ b)
loops_behind a b la lb = record { at = λ p n e. found p n e (split p (length a)) }
  where
    found : (p n : ℕ) → op_at (a ++ b) p ≡ Some (JumpBack n) → (p < length a) ⊎ ((q : ℕ) × (p ≡ length a + q)) → BackTo (a ++ b) p n
    found p n e (inl lt) =
        let r = la.at p n (sym (op_front a b p lt) ∙ e) in
        record { near = r.near; tick = op_front a b (p - n) (omega arith) ∙ r.tick }
    found p n e (inr r) =
        let b2 = lb.at r.0 n (sym (op_behind a b p r.0 r.1) ∙ e) in
        subst (λ p. BackTo (a ++ b) p n) (sym r.1) b2

loops_later : (a b : List Item) → Loops b → LoopsIn a b
loops_later a b l = record { at = λ p n e. shifted p n (l.at p n e) }
  where
    shifted : (p n : ℕ) → BackTo b p n → BackTo (a ++ b) (length a + p) n
    shifted p n r =
        let le = r.near in
        let e : length a + p - n ≡ length a + (p - n) = omega arith in
        record { near = omega arith; tick = op_behind a b (length a + p - n) (p - n) e ∙ r.tick }

loops_append : (a b : List Item) → Loops a → Loops b → Loops (a ++ b)
loops_append a b la lb = loops_behind a b la (loops_later a b lb)

loops_none : Loops []
loops_none = record { at = λ p n e. absurd (cc) }

abbrev NotBack : Item → Type 0
NotBack o = (n : ℕ) → op_of o ≡ Some (JumpBack n) → ⊥

loops_one : (o : Item) → NotBack o → Loops (o ∷ [])
loops_one o f = record { at = λ p n e. one p n e }
  where
    one : (p n : ℕ) → op_at (o ∷ []) p ≡ Some (JumpBack n) → BackTo (o ∷ []) p n
    one zero n e = absurd (f n e)
    one (suc p) n e = absurd (cc)

loops_more : (o : Item) (os : List Item) → NotBack o → Loops os → Loops (o ∷ os)
loops_more o os f l = loops_append (o ∷ []) os (loops_one o f) l

-- ---- expressions

load_not : (height slot : ℕ) (shape : Shape) → NotBack (plain shape (load height slot))
load_not height slot shape = by (nat_lt slot height)
  where
    by : (b : Bool) → NotBack (plain shape (if b then Load slot else Push const.Null))
    by true n e = cc
    by false n e = cc

store_loops : (height slot : ℕ) (shape : Shape) → Loops (store_items height slot shape)
store_loops height slot shape = by (nat_lt slot height)
  where
    by : (b : Bool) → Loops (if b then plain shape (Store slot) ∷ [] else [])
    by true = loops_one _ (λ n e. cc)
    by false = loops_none

mutual
  expr_loops : (height : ℕ) (below : Shape) (e : Expr) → Loops (expr_items height below e)
  expr_loops height below (Const c) = loops_one _ (λ n e. cc)
  expr_loops height below (Local k) = loops_one _ (load_not height k below)
  expr_loops height below (Assign' k p (more_of-Expr e end_of-Expr)) = loops_append _ _ (expr_loops height below e) (store_loops height k (V ∷ below))
  expr_loops height below (Call' name shape args) = loops_append _ _ (exprs_loops height below args) (loops_one _ (λ n e. cc))
  expr_loops height below (Ordered' o p (more_of-Expr e end_of-Expr)) = loops_append _ _ (expr_loops height below e) (loops_one _ (λ n e. cc))
  expr_loops height below (Equal' p (more_of-Expr a end_of-Expr) q (more_of-Expr b end_of-Expr)) = loops_append _ _ (expr_loops height below a) (loops_append _ _ (expr_loops height (V ∷ below) b) (loops_one _ (λ n e. cc)))
  expr_loops height below (Not' p (more_of-Expr e end_of-Expr)) = loops_append _ _ (expr_loops height below e) (loops_one _ (λ n e. cc))

  exprs_loops : {m : _} → (height : ℕ) (below : Shape) (r : Row_of-Expr m) → Loops (exprs_items height below r)
  exprs_loops height below end_of-Expr = loops_none
  exprs_loops height below (more_of-Expr e rest) = loops_append _ _ (expr_loops height below e) (exprs_loops height (V ∷ below) rest)

-- ---- loops

-- no way out is decided as a jump back
abbrev Quiet : Ways → Type 0
Quiet ways = (e : Exit) (k : ℕ) (shape : Shape) → NotBack (decided (ways e) k shape e)

back_kept : (ways : Ways) → Quiet ways → (os : List Item) (p n : ℕ) → op_at (directed_items ways os) p ≡ Some (JumpBack n) → op_at os p ≡ Some (JumpBack n)
back_kept ways q [] p n e = e
back_kept ways q (Plain i ∷ os) zero n e = e
back_kept ways q (Out shape x ∷ os) zero n e = absurd (q x (length os) shape n e)
back_kept ways q (o ∷ os) (suc p) n e = back_kept ways q os p n e

tick_kept : (ways : Ways) (os : List Item) (p : ℕ) → op_at os p ≡ Some Tick → op_at (directed_items ways os) p ≡ Some Tick
tick_kept ways [] p e = e
tick_kept ways (Plain i ∷ os) zero e = e
tick_kept ways (Out shape x ∷ os) zero e = absurd (cc)
tick_kept ways (o ∷ os) (suc p) e = tick_kept ways os p e

loops_directed : (ways : Ways) → Quiet ways → (os : List Item) → Loops os → Loops (directed_items ways os)
loops_directed ways q os l = record { at = λ p n e. kept p n (l.at p n (back_kept ways q os p n e)) }
  where
    kept : (p n : ℕ) → BackTo os p n → BackTo (directed_items ways os) p n
    kept p n r = record { near = r.near; tick = tick_kept ways os (p - n) r.tick }

loop_quiet : (kept : ℕ) → Quiet (loop_ways kept)
loop_quiet kept Breaks k shape n e = cc
loop_quiet kept Continues k shape n e = cc
loop_quiet kept Returns k shape n e = cc

-- what stands behind a loop's body
tail_loops : (below : Shape) (rest : List Item) (n : ℕ) → length (plain below Tick ∷ rest) ≡ n + 2 → LoopsIn (plain below Tick ∷ rest) (loop_tail below n)
tail_loops below rest n l = record { at = λ p m e. back p m e }
  where
    to_start : (p m k : ℕ) → length (plain below Tick ∷ rest) + p ≡ k → k ≡ m → BackTo ((plain below Tick ∷ rest) ++ loop_tail below n) (length (plain below Tick ∷ rest) + p) m
    to_start p m k e f =
        let z : length (plain below Tick ∷ rest) + p - m ≡ 0 = omega arith in
        record { near = omega arith; tick = ap (op_at (plain below Tick ∷ (rest ++ loop_tail below n))) z }

    back : (p m : ℕ) → op_at (loop_tail below n) p ≡ Some (JumpBack m) → BackTo ((plain below Tick ∷ rest) ++ loop_tail below n) (length (plain below Tick ∷ rest) + p) m
    back zero m e = to_start 0 m (n + 2) (omega arith) (cc)
    back (suc zero) m e = absurd (cc)
    back (suc (suc zero)) m e = to_start 2 m (n + 4) (omega arith) (cc)
    back (suc (suc (suc zero))) m e = absurd (cc)
    back (suc (suc (suc (suc p)))) m e = absurd (cc)

loops_while : (below : Shape) (test body : List Item) → Loops test → Loops body →
    Loops ((plain below Tick ∷ (test ++ plain (V ∷ below) (JumpUnless (length body + 4)) ∷ [])) ++ (directed_items (loop_ways (length below)) body ++ loop_tail below (length test + length body)))
loops_while below test body lt lb =
    let head = test ++ plain (V ∷ below) (JumpUnless (length body + 4)) ∷ [] in
    let d = directed_items (loop_ways (length below)) body in
    let behind = loop_tail below (length test + length body) in
    let front : Loops (plain below Tick ∷ (head ++ d)) = loops_more _ _ (λ n e. cc) (loops_append head d (loops_append test _ lt (loops_one _ (λ n e. cc))) (loops_directed (loop_ways (length below)) (loop_quiet (length below)) body lb)) in
    let l : length (plain below Tick ∷ (head ++ d)) ≡ length test + length body + 2 = omega (arith, length-append head d, length-append test (plain (V ∷ below) (JumpUnless (length body + 4)) ∷ []), length-directed_items (loop_ways (length below)) body) in
    subst Loops (ap (λ l. plain below Tick ∷ l) (append_assoc head d behind)) (loops_behind (plain below Tick ∷ (head ++ d)) behind front (tail_loops below (head ++ d) (length test + length body) l))

-- ---- statements

value_loops : (height : ℕ) (below : Shape) (e : Expr) (o : Item) → NotBack o → Loops (expr_items height below e ++ o ∷ [])
value_loops height below e o f = loops_append (expr_items height below e) (o ∷ []) (expr_loops height below e) (loops_one o f)

declare_not : (shared : Bool) (slot : ℕ) (shape : Shape) → NotBack (plain shape (declare shared slot))
declare_not true slot shape n e = cc
declare_not false slot shape n e = cc

mutual
  stmt_loops : (height : ℕ) (below : Shape) (s : Stmt) → Loops (stmt_piece height below s).items
  stmt_loops height below (Declare shared e) = value_loops height below e _ (declare_not shared height (V ∷ below))
  stmt_loops height below (Do e) = value_loops height below e _ (λ n e. cc)
  stmt_loops height below (Block' shape all) = stmts_loops height below all
  stmt_loops height below (If' t p (more_of-Stmt a end_of-Stmt) q (more_of-Stmt b end_of-Stmt)) = loops_append _ _ (value_loops height below t _ (λ n e. cc)) (loops_append _ _ (stmt_loops height below a) (loops_more _ _ (λ n e. cc) (stmt_loops height below b)))
  stmt_loops height below (While' t p (more_of-Stmt s end_of-Stmt)) = loops_while below _ _ (expr_loops height below t) (stmt_loops height below s)
  stmt_loops height below Break = loops_more _ _ (λ n e. cc) (loops_one _ (λ n e. cc))
  stmt_loops height below Continue = loops_more _ _ (λ n e. cc) (loops_one _ (λ n e. cc))
  stmt_loops height below (Return e) = value_loops height below e _ (λ n e. cc)

  stmts_loops : {m : _} → (height : ℕ) (below : Shape) (r : Row_of-Stmt m) → Loops (stmts_piece height below r).items
  stmts_loops height below end_of-Stmt = loops_none
  stmts_loops height below (more_of-Stmt s rest) = loops_append _ _ (stmt_loops height below s) (stmts_loops (height + declares s) below rest)

-- ---- handlers

while_within : (below : Shape) (test : List Item) (body : Piece) → Within body → Within (while_piece below test body)
while_within below test body w =
    let ways = loop_ways (length below) in
    let behind = bare (loop_tail below (length test + length body.items)) in
    within_joined (bare (plain below Tick ∷ (test ++ plain (V ∷ below) (JumpUnless (length body.items + 4)) ∷ []))) (joined (directed ways body) behind) tt (within_joined (directed ways body) behind (within_directed ways body w) tt)

mutual
  stmt_within : (height : ℕ) (below : Shape) (s : Stmt) → Within (stmt_piece height below s)
  stmt_within height below (Declare shared e) = tt
  stmt_within height below (Do e) = tt
  stmt_within height below (Block' shape all) = stmts_within height below all
  stmt_within height below (If' t p (more_of-Stmt a end_of-Stmt) q (more_of-Stmt b end_of-Stmt)) =
      let pa = stmt_piece height below a in
      let pb = stmt_piece height below b in
      let over = bare (plain below (JumpOn (length pb.items)) ∷ []) in
      within_joined (bare (expr_items height below t ++ plain (V ∷ below) (JumpUnless (length pa.items + 1)) ∷ [])) (joined pa (joined over pb)) tt (within_joined pa (joined over pb) (stmt_within height below a) (within_joined over pb tt (stmt_within height below b)))
  stmt_within height below (While' t p (more_of-Stmt s end_of-Stmt)) = while_within below (expr_items height below t) (stmt_piece height below s) (stmt_within height below s)
  stmt_within height below Break = tt
  stmt_within height below Continue = tt
  stmt_within height below (Return e) = tt

  stmts_within : {m : _} → (height : ℕ) (below : Shape) (r : Row_of-Stmt m) → Within (stmts_piece height below r)
  stmts_within height below end_of-Stmt = tt
  stmts_within height below (more_of-Stmt s rest) = within_joined (stmt_piece height below s) (stmts_piece (height + declares s) below rest) (stmt_within height below s) (stmts_within (height + declares s) below rest)

-- ---- bodies

step_back : (os : List Item) (p n : ℕ) (i : Instruction) → slice_get (map instruction_of os) p ≡ Some i → i.op ≡ JumpBack n → op_at os p ≡ Some (JumpBack n)
step_back [] p n i e q = absurd (cc)
step_back (Plain j ∷ os) zero n i e q = cc
step_back (Out shape x ∷ os) zero n i e q = absurd (cc)
step_back (o ∷ os) (suc p) n i e q = step_back os p n i e q

step_tick : (os : List Item) (p : ℕ) → op_at os p ≡ Some Tick → TakesTick (slice_get (map instruction_of os) p)
step_tick [] p e = absurd (cc)
step_tick (Plain i ∷ os) zero e = cc
step_tick (Out shape x ∷ os) zero e = absurd (cc)
step_tick (o ∷ os) (suc p) e = step_tick os p e

handlers_fit : (n : ℕ) (hs : List Handler) → WithinAll n hs → HandlersFit hs
handlers_fit n [] w = tt
handlers_fit n (h ∷ hs) w = (w.1, handlers_fit n hs w.2)

body_forward : (b : Source) → GoesForward (body_of b)
body_forward b = record { jumps = λ p i e. fits p i e i.op refl; handlers = handlers_fit (length (whole b).items) (whole b).handlers within }
  where
    end : Piece
    end = bare (plain [] (Push const.Null) ∷ plain (V ∷ []) Finish ∷ [])

    within : Within (whole b)
    within = within_joined (stmt_piece (b.captured + b.parameters) [] b.tree) end (stmt_within (b.captured + b.parameters) [] b.tree) tt

    loops : Loops (whole b).items
    loops = loops_append _ _ (stmt_loops (b.captured + b.parameters) [] b.tree) (loops_more _ _ (λ n e. cc) (loops_one _ (λ n e. cc)))

    fits : (p : ℕ) (i : Instruction) → slice_get (map instruction_of (whole b).items) p ≡ Some i → (op : Op) → i.op ≡ op → JumpFits (map instruction_of (whole b).items) p op
    fits p i e (JumpBack n) q =
        let r = loops.at p n (step_back (whole b).items p n i e q) in
        (r.near, step_tick (whole b).items (p - n) r.tick)
    fits p i e op q = tt

written_forward : (unit : List Source) → Forward (code_of unit)
written_forward [] = tt
written_forward (b ∷ unit) = (body_forward b, written_forward unit)

pub code_forward : (code : List Body) (unit : List Source) → code ≡ code_of unit → Forward code
code_forward code unit e = subst Forward (sym e) (written_forward unit)
