-- The code meaning: what a list of bodies does, one instruction a step.
use Rattle.std.specs.Prelude.{ℕ, zero, suc, ◌+◌, ◌-◌, not, ◌&&◌, List, [], ◌∷◌, ◌++◌, take, drop, length, Option, Some, None, nat_le, nat_lt, slice_get, if◌then◌else◌}
use Rattle.gv_base.specs.declared.value.Value.{Value}
use Rattle.gv_base.specs.declared.value.Value.TheVariants.{Bool as Truth, Obj}
use Rattle.gv_code.specs.declared.code.Body.{Body}
use Rattle.gv_code.specs.declared.code.Handler.{Handler}
use Rattle.gv_code.specs.declared.code.Instruction.{Instruction}
use Rattle.gv_code.specs.declared.code.Op.{Op}
use Rattle.gv_code.specs.declared.code.Op.TheVariants.{Push, Load, Store, Declare, DeclareShared, Invoke, Ordered, Equal, Not, Discard, Tick, JumpOn, JumpBack, JumpUnless, Leave, Finish}
use Rattle.gv_heap.specs.Heap.{pay, with_new_place}
use Rattle.gv_meaning.specs.World.{World, Why, Ticks, Cells, Depth, Cell, Own, Shared, Answer, Got, Threw, Stopped, paying, const_value, is_true, are_equal, ordered, read, stored}
use Rattle.gv_meaning.specs.Calls.{Chosen, Enter, Else, call_of}
use Rattle.gv_meaning.specs.Meaning.{Scope, cell_of, with_cell, fitted, filled, pick}
pub use Rattle.gv_meaning.specs.declared.frame.Frame.{Frame}

pub data State : Type 0 where
  -- a running body: the place of its instruction, its operands with the top first, its variables, and what waits
  At : (body at : ℕ) (stack : List Value) (slots : Scope) (frames : List Frame) (depth : ℕ) (w : World) → State
  Over : (o : Answer) → State

-- a body that isn't there has no instruction
abbrev pub no_body : Body
no_body = record { parameters = 0; captured = 0; handlers = []; steps = [] }

abbrev pub body_or : Option Body → Body
body_or None = no_body
body_or (Some b) = b

abbrev pub body_in : List Body → ℕ → Body
body_in code k = body_or (slice_get code k)

-- the first handler that covers a place; which exceptions it takes comes with the forms that catch them
abbrev pub handler_at : List Handler → ℕ → Option Handler
handler_at [] at = None
handler_at (h ∷ hs) at = if nat_le h.from at && nat_lt at h.to then Some h else handler_at hs at

-- the lowest n operands
abbrev pub lowest : ℕ → List Value → List Value
lowest n stack = drop (length stack - n) stack

-- n operands from the top, the topmost last, and those below
abbrev pub popped : ℕ → List Value → List Value → List Value × List Value
popped zero args stack = (args, stack)
popped (suc n) args [] = (args, [])
popped (suc n) args (v ∷ stack) = popped n (v ∷ args) stack

-- the operand on top, or the end: no code that was written lacks it
abbrev pub on_top : List Value → World → (Value → List Value → State) → State
on_top [] w go = Over (Stopped Ticks w)
on_top (v ∷ stack) w go = go v stack

-- where a handler takes a throw, or what comes else
abbrev pub land : Value → Option Handler → ℕ → List Value → Scope → List Frame → ℕ → World → State → State
land v None k stack slots fs d w other = other
land v (Some h) k stack slots fs d w other = At k h.target (v ∷ lowest h.kept stack) slots fs d w

-- a value for what waits, behind its instruction
abbrev pub resume : Value → List Frame → ℕ → World → State
resume v [] d w = Over (Got v w)
resume v (f ∷ fs) d w = At f.body (f.at + 1) (v ∷ f.stack) f.slots fs d w

abbrev pub frame : ℕ → ℕ → List Value → Scope → Frame
frame k at stack slots = record { body = k; at = at; stack = stack; slots = slots }

abbrev pub store : Cell → ℕ → Value → ℕ → ℕ → List Value → Scope → List Frame → ℕ → World → State
store (Own u) slot v k at rest slots fs d w = At k (at + 1) (v ∷ rest) (with_cell slot v slots) fs d w
store (Shared p) slot v k at rest slots fs d w = At k (at + 1) (v ∷ rest) slots fs d (stored p v w)

abbrev pub stopped : Why → World → State
stopped y w = Over (Stopped y w)

module _ (code : List Body) where
  -- a throw leaves bodies until one has a handler
  abbrev pub unwind : Value → List Frame → ℕ → World → State
  unwind v [] d w = Over (Threw v w)
  unwind v (f ∷ fs) d w = land v (handler_at (body_in code f.body).handlers f.at) f.body f.stack f.slots fs d w (unwind v fs (suc d) w)

  -- an answer for what waits
  abbrev pub back : Answer → List Frame → ℕ → State
  back (Got v w) fs d = resume v fs d w
  back (Threw v w) fs d = unwind v fs d w
  back (Stopped y w) fs d = stopped y w

  -- a body begins, one deeper
  abbrev pub enter : ℕ → List ℕ → List Value → World → List Frame → ℕ → State
  enter k ps args w fs zero = stopped Depth w
  enter k ps args w fs (suc d) = let b = body_in code k in At k 0 [] (fitted b.captured ps ++ filled b.parameters args) fs d w

  abbrev pub begin : Chosen → List Frame → ℕ → State
  begin (Enter k ps args w) fs d = enter k ps args w fs d
  begin (Else o) fs d = back o fs d

  -- one instruction
  abbrev pub act : Op → ℕ → ℕ → List Value → Scope → List Frame → ℕ → World → State
  act (Push c) k at stack slots fs d w = At k (at + 1) (const_value c w ∷ stack) slots fs d w
  act (Load slot) k at stack slots fs d w = At k (at + 1) (read (cell_of slots slot) w ∷ stack) slots fs d w
  act (Store slot) k at stack slots fs d w = on_top stack w (λ v rest. store (cell_of slots slot) slot v k at rest slots fs d w)
  act (Declare slot) k at stack slots fs d w = on_top stack w (λ v rest. At k (at + 1) rest (take slot slots ++ Own v ∷ []) fs d w)
  act (DeclareShared slot) k at stack slots fs d w =
      on_top stack w (λ v rest. pick (nat_le 1 w.heap.cells)
      (At k (at + 1) rest (take slot slots ++ Shared (length w.heap.places) ∷ []) fs d (record w { heap = pay (with_new_place w.heap v) 1 }))
      (stopped Cells w))
  act (Invoke name n) k at stack slots fs d w = let p = popped n [] stack in begin (call_of name p.0 w) (frame k at p.1 slots ∷ fs) d
  act (Ordered o) k at stack slots fs d w = on_top stack w (λ v rest. At k (at + 1) (ordered o v ∷ rest) slots fs d w)
  act Equal k at stack slots fs d w = on_top stack w (λ y rest. on_top rest w (λ x rest. At k (at + 1) (Truth (are_equal x y) ∷ rest) slots fs d w))
  act Not k at stack slots fs d w = on_top stack w (λ v rest. At k (at + 1) (Truth (not (is_true v)) ∷ rest) slots fs d w)
  act Discard k at stack slots fs d w = on_top stack w (λ v rest. At k (at + 1) rest slots fs d w)
  act Tick k at stack slots fs d w = paying stopped w (λ w. At k (at + 1) stack slots fs d w)
  act (JumpOn n) k at stack slots fs d w = At k (at + 1 + n) stack slots fs d w
  act (JumpBack n) k at stack slots fs d w = At k (at - n) stack slots fs d w
  act (JumpUnless n) k at stack slots fs d w =
      on_top stack w (λ v rest. pick (is_true v) (At k (at + 1) rest slots fs d w) (At k (at + 1 + n) rest slots fs d w))
  act (Leave n kept) k at stack slots fs d w = on_top stack w (λ v rest. At k (at + 1 + n) (v ∷ lowest kept rest) slots fs d w)
  act Finish k at stack slots fs d w = on_top stack w (λ v rest. resume v fs (suc d) w)

  abbrev pub act_on : Option Instruction → ℕ → ℕ → List Value → Scope → List Frame → ℕ → World → State
  act_on None k at stack slots fs d w = Over (Stopped Ticks w)
  act_on (Some i) k at stack slots fs d w = act i.op k at stack slots fs d w

  abbrev pub step : State → State
  step (At k at stack slots fs d w) = act_on (slice_get (body_in code k).steps at) k at stack slots fs d w
  step (Over o) = Over o

  -- n steps
  abbrev pub steps : ℕ → State → State
  steps zero s = s
  steps (suc n) s = steps n (step s)

-- where a script's run begins
abbrev pub opened : List Body → World → State
opened code w = let b = body_in code 0 in At 0 0 [] (fitted b.captured [] ++ filled b.parameters (Obj w.script ∷ [])) [] w.depth w
