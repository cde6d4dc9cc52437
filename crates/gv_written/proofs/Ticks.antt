-- The ticks left never rise.
use Rattle.std.proofs.Common.{◌≡◌, ℕ, zero, suc, ◌+◌, ◌≤◌, Bool, true, false, List, [], ◌∷◌, Option, Some, None, refl, arith}
use Rattle.std.specs.Prelude.{codes, bytes_eq, nat_le, slice_get, if◌then◌else◌}
use Rattle.gv_base.specs.Arith.{arith_of}
use Rattle.gv_base.specs.declared.exception.ExceptionKind.{ExceptionKind}
use Rattle.gv_base.specs.declared.exception.ExceptionKind.TheVariants.{ArithmeticException, NullPointerException, MissingMethodException}
use Rattle.gv_base.specs.declared.outcome.Arith.{Arith}
use Rattle.gv_base.specs.declared.outcome.Arith.TheVariants.{Value as Gives, NotNumbers, ByZero}
use Rattle.gv_base.specs.declared.outcome.ArithOp.TheVariants as op
use Rattle.gv_base.specs.declared.value.Value.{Value}
use Rattle.gv_base.specs.declared.value.Value.TheVariants.{Null, Bool as Truth, Int, Long, Class, Obj}
use Rattle.gv_heap.specs.Prices.{text_price}
use Rattle.gv_heap.specs.declared.object.Object.{Object}
use Rattle.gv_heap.specs.declared.object.Object.TheVariants as object
use Rattle.gv_natives.specs.Table.{Method}
use Rattle.gv_rows.specs.Takes.{takes_all}
use Rattle.gv_code.specs.declared.code.Body.{Body}
use Rattle.gv_code.specs.declared.code.Handler.{Handler}
use Rattle.gv_code.specs.declared.code.Instruction.{Instruction}
use Rattle.gv_code.specs.declared.code.Op.{Op}
use Rattle.gv_code.specs.declared.code.Op.TheVariants.{Push, Load, Store, Declare, DeclareShared, Invoke, Ordered, Equal, Not, Discard, Tick, JumpOn, JumpBack, JumpUnless, Leave, Finish}
use Rattle.gv_meaning.specs.declared.frame.Frame.{Frame}
use Rattle.gv_meaning.specs.declared.world.Cell.{Cell}
use Rattle.gv_meaning.specs.declared.world.Cell.TheVariants.{Own, Shared}
use Rattle.gv_meaning.specs.declared.world.Why.{Why}
use Rattle.gv_meaning.specs.declared.world.Why.TheVariants.{Ticks, Cells}
use Rattle.gv_meaning.specs.declared.world.World.{World}
use Rattle.gv_meaning.specs.World.{Answer, Got, Threw, Stopped, paid, making, is_true}
use Rattle.gv_meaning.specs.Calls.{Chosen, Enter, Else, stop_call, thrown_with, raised, no_signature, on_null, printed, arith_answer, row_answer, row_called, called, call_of}
use Rattle.gv_meaning.specs.Meaning.{Scope, cell_of, pick}
use Rattle.gv_meaning.specs.Machine.{State, At, Over, body_in, handler_at, popped, land, resume, frame, store, stopped, unwind, back, enter, begin, act, act_on, step}
use Rattle.gv_written.proofs.Comes.{Comes, here, next}

abbrev pub answer_ticks : Answer → ℕ
answer_ticks (Got v w) = w.ticks
answer_ticks (Threw v w) = w.ticks
answer_ticks (Stopped y w) = w.ticks

abbrev pub chosen_ticks : Chosen → ℕ
chosen_ticks (Enter k ps args w) = w.ticks
chosen_ticks (Else o) = answer_ticks o

abbrev pub ticks_of : State → ℕ
ticks_of (At k pc stack slots fs d w) = w.ticks
ticks_of (Over o) = answer_ticks o

-- ---- calls

paid_ticks : {A : Type 0} (size : A → ℕ) (stop : Why → World → A) (n : ℕ) (w : World) (go : World → A) → ((y : Why) (w : World) → size (stop y w) ≤ w.ticks) → ((w : World) → size (go w) ≤ w.ticks) → w.ticks ≡ n → size (paid stop n w go) ≤ w.ticks
paid_ticks size stop zero w go p q e = p Ticks w
paid_ticks size stop (suc n) w go p q e = let h : size (go (record w { ticks = n })) ≤ n = q (record w { ticks = n }) in omega arith

if_ticks : (b : Bool) (x y : Answer) (n : ℕ) → answer_ticks x ≤ n → answer_ticks y ≤ n → answer_ticks (if b then x else y) ≤ n
if_ticks true x y n p q = p
if_ticks false x y n p q = q

making_ticks : (o : Object) (price : ℕ) (w : World) (go : Value → World → Answer) → ((v : Value) (w : World) → answer_ticks (go v w) ≤ w.ticks) → answer_ticks (making o price w go) ≤ w.ticks
making_ticks o price w go h = if_ticks (nat_le price w.heap.cells) _ (Stopped Cells w) w.ticks (h _ _) (omega arith)

thrown_ticks : (kind : ExceptionKind) (message : Value) (w : World) → answer_ticks (thrown_with kind message w) ≤ w.ticks
thrown_ticks kind message w = making_ticks _ _ w (λ e w. Threw e w) (λ e w. omega arith)

raised_ticks : (kind : ExceptionKind) (text : Option (List ℕ)) (w : World) → answer_ticks (raised kind text w) ≤ w.ticks
raised_ticks kind None w = thrown_ticks kind Null w
raised_ticks kind (Some text) w = making_ticks (object.Text text) (text_price text) w (λ message w. thrown_with kind message w) (λ message w. thrown_ticks kind message w)

arith_ticks : (a : Arith) (w : World) → answer_ticks (arith_answer a w) ≤ w.ticks
arith_ticks (Gives v) w = omega arith
arith_ticks ByZero w = raised_ticks ArithmeticException (Some (codes "/ by zero")) w
arith_ticks NotNumbers w = omega arith

row_ticks : (name : List ℕ) (r : Value) (args : List Value) (w : World) → answer_ticks (row_answer name r args w) ≤ w.ticks
row_ticks name r [] w = omega arith
row_ticks name r (a ∷ []) w =
    if_ticks (bytes_eq name (codes "plus")) _ _ w.ticks (arith_ticks (arith_of op.Plus r a) w)
    (if_ticks (bytes_eq name (codes "minus")) _ _ w.ticks (arith_ticks (arith_of op.Minus r a) w)
    (if_ticks (bytes_eq name (codes "multiply")) _ _ w.ticks (arith_ticks (arith_of op.Multiply r a) w)
    (if_ticks (bytes_eq name (codes "compareTo")) _ _ w.ticks (omega arith)
    (if_ticks (bytes_eq name (codes "println")) (printed a w) _ w.ticks (omega arith) (omega arith)))))
row_ticks name r (a ∷ b ∷ more) w = omega arith

row_called_ticks : (row : Option Method) (name : ℕ) (r : Value) (args : List Value) (w : World) → answer_ticks (row_called row name r args w) ≤ w.ticks
row_called_ticks None name r args w = raised_ticks MissingMethodException (Some (no_signature w name r args)) w
row_called_ticks (Some row) name r args w =
    if_ticks (takes_all w.heap row args) _ _ w.ticks (row_ticks row.name r args w) (raised_ticks MissingMethodException (Some (no_signature w name r args)) w)

called_ticks : (name : ℕ) (r : Value) (args : List Value) (w : World) → chosen_ticks (called name r args w) ≤ w.ticks
called_ticks name Null args w = raised_ticks NullPointerException (Some (on_null w name)) w
called_ticks name (Truth b) args w = row_called_ticks _ name (Truth b) args w
called_ticks name (Int n) args w = row_called_ticks _ name (Int n) args w
called_ticks name (Long n) args w = row_called_ticks _ name (Long n) args w
called_ticks name (Class c) args w = row_called_ticks _ name (Class c) args w
called_ticks name (Obj o) args w = row_called_ticks _ name (Obj o) args w

pub call_ticks : (name : ℕ) (args : List Value) (w : World) → chosen_ticks (call_of name args w) ≤ w.ticks
call_ticks name [] w = omega arith
call_ticks name (r ∷ args) w = paid_ticks chosen_ticks stop_call w.ticks w (λ w. called name r args w) (λ y w. omega arith) (λ w. called_ticks name r args w) refl

-- ---- the machine

store_ticks : (c : Cell) (slot : ℕ) (v : Value) (k pc : ℕ) (rest : List Value) (slots : Scope) (fs : List Frame) (d : ℕ) (w : World) → ticks_of (store c slot v k pc rest slots fs d w) ≤ w.ticks
store_ticks (Own u) slot v k pc rest slots fs d w = omega arith
store_ticks (Shared p) slot v k pc rest slots fs d w = omega arith

pick_ticks : (b : Bool) (s t : State) (n : ℕ) → ticks_of s ≤ n → ticks_of t ≤ n → ticks_of (pick b s t) ≤ n
unfolding pick
pick_ticks true s t n p q = p
pick_ticks false s t n p q = q

resume_ticks : (v : Value) (fs : List Frame) (d : ℕ) (w : World) → ticks_of (resume v fs d w) ≤ w.ticks
resume_ticks v [] d w = omega arith
resume_ticks v (f ∷ fs) d w = omega arith

land_ticks : (v : Value) (o : Option Handler) (k : ℕ) (stack : List Value) (slots : Scope) (fs : List Frame) (d : ℕ) (w : World) (other : State) → ticks_of other ≤ w.ticks → ticks_of (land v o k stack slots fs d w other) ≤ w.ticks
land_ticks v None k stack slots fs d w other h = h
land_ticks v (Some g) k stack slots fs d w other h = omega arith

module _ (code : List Body) where
  unwind_ticks : (v : Value) (fs : List Frame) (d : ℕ) (w : World) → ticks_of (unwind code v fs d w) ≤ w.ticks
  unwind_ticks v [] d w = omega arith
  unwind_ticks v (f ∷ fs) d w = land_ticks v (handler_at (body_in code f.body).handlers f.at) f.body f.stack f.slots fs d w (unwind code v fs (suc d) w) (unwind_ticks v fs (suc d) w)

  back_ticks : (o : Answer) (fs : List Frame) (d : ℕ) → ticks_of (back code o fs d) ≤ answer_ticks o
  back_ticks (Got v w) fs d = resume_ticks v fs d w
  back_ticks (Threw v w) fs d = unwind_ticks v fs d w
  back_ticks (Stopped y w) fs d = omega arith

  enter_ticks : (k : ℕ) (ps : List ℕ) (args : List Value) (w : World) (fs : List Frame) (d : ℕ) → ticks_of (enter code k ps args w fs d) ≤ w.ticks
  enter_ticks k ps args w fs zero = omega arith
  enter_ticks k ps args w fs (suc d) = omega arith

  begin_ticks : (c : Chosen) (fs : List Frame) (d : ℕ) → ticks_of (begin code c fs d) ≤ chosen_ticks c
  begin_ticks (Enter k ps args w) fs d = enter_ticks k ps args w fs d
  begin_ticks (Else o) fs d = back_ticks o fs d

  act_ticks : (o : Op) (k pc : ℕ) (stack : List Value) (slots : Scope) (fs : List Frame) (d : ℕ) (w : World) → ticks_of (act code o k pc stack slots fs d w) ≤ w.ticks
  act_ticks (Push c) k pc stack slots fs d w = omega arith
  act_ticks (Load s) k pc stack slots fs d w = omega arith
  act_ticks (Store s) k pc [] slots fs d w = omega arith
  act_ticks (Store s) k pc (v ∷ stack) slots fs d w = store_ticks (cell_of slots s) s v k pc stack slots fs d w
  act_ticks (Declare s) k pc [] slots fs d w = omega arith
  act_ticks (Declare s) k pc (v ∷ stack) slots fs d w = omega arith
  act_ticks (DeclareShared s) k pc [] slots fs d w = omega arith
  act_ticks (DeclareShared s) k pc (v ∷ stack) slots fs d w = pick_ticks (nat_le 1 w.heap.cells) _ (stopped Cells w) w.ticks (omega arith) (omega arith)
  act_ticks (Invoke name n) k pc stack slots fs d w =
      let r = popped n [] stack in
      let a = call_ticks name r.0 w in
      let b = begin_ticks (call_of name r.0 w) (frame k pc r.1 slots ∷ fs) d in omega arith
  act_ticks (Ordered o) k pc [] slots fs d w = omega arith
  act_ticks (Ordered o) k pc (v ∷ stack) slots fs d w = omega arith
  act_ticks Equal k pc [] slots fs d w = omega arith
  act_ticks Equal k pc (y ∷ []) slots fs d w = omega arith
  act_ticks Equal k pc (y ∷ x ∷ stack) slots fs d w = omega arith
  act_ticks Not k pc [] slots fs d w = omega arith
  act_ticks Not k pc (v ∷ stack) slots fs d w = omega arith
  act_ticks Discard k pc [] slots fs d w = omega arith
  act_ticks Discard k pc (v ∷ stack) slots fs d w = omega arith
  act_ticks Tick k pc stack slots fs d w = paid_ticks ticks_of stopped w.ticks w (λ w. At k (pc + 1) stack slots fs d w) (λ y w. omega arith) (λ w. omega arith) refl
  act_ticks (JumpOn n) k pc stack slots fs d w = omega arith
  act_ticks (JumpBack n) k pc stack slots fs d w = omega arith
  act_ticks (JumpUnless n) k pc [] slots fs d w = omega arith
  act_ticks (JumpUnless n) k pc (v ∷ stack) slots fs d w =
      pick_ticks (is_true v) (At k (pc + 1) stack slots fs d w) (At k (pc + 1 + n) stack slots fs d w) w.ticks (omega arith) (omega arith)
  act_ticks (Leave n kept) k pc [] slots fs d w = omega arith
  act_ticks (Leave n kept) k pc (v ∷ stack) slots fs d w = omega arith
  act_ticks Finish k pc [] slots fs d w = omega arith
  act_ticks Finish k pc (v ∷ stack) slots fs d w = resume_ticks v fs (suc d) w

  act_on_ticks : (i : Option Instruction) (k pc : ℕ) (stack : List Value) (slots : Scope) (fs : List Frame) (d : ℕ) (w : World) → ticks_of (act_on code i k pc stack slots fs d w) ≤ w.ticks
  act_on_ticks None k pc stack slots fs d w = omega arith
  act_on_ticks (Some i) k pc stack slots fs d w = act_ticks i.op k pc stack slots fs d w

  step_ticks : (s : State) → ticks_of (step code s) ≤ ticks_of s
  step_ticks (At k pc stack slots fs d w) = act_on_ticks (slice_get (body_in code k).steps pc) k pc stack slots fs d w
  step_ticks (Over o) = omega arith

  pub comes_ticks : {s t : State} → Comes code s t → ticks_of t ≤ ticks_of s
  comes_ticks here = omega arith
  comes_ticks {s} (next c) = let a = comes_ticks c in let b = step_ticks s in omega arith
