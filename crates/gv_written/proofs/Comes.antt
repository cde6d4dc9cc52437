-- The machine comes from one state to another.
use Rattle.std.proofs.Common.{◌≡◌, ℕ, suc, ◌+◌, ◌-◌, List, [], ◌∷◌, ◌++◌, length, Option, Some, None, refl, ap, ◌∙◌, subst, arith, length-append}
use Rattle.std.specs.Prelude.{slice_get}
use Rattle.gv_base.specs.declared.value.Value.{Value}
use Rattle.gv_core.specs.declared.stmt.Exit.{Exit}
use Rattle.gv_code.specs.declared.code.Body.{Body}
use Rattle.gv_code.specs.declared.code.Instruction.{Instruction}
use Rattle.gv_code.specs.declared.code.Op.{Op}
use Rattle.gv_code.specs.declared.piece.Item.{Item}
use Rattle.gv_code.specs.declared.piece.Item.TheVariants.{Plain, Out}
use Rattle.gv_code.specs.Pieces.{Shape, decided, decide}
use Rattle.gv_meaning.specs.declared.frame.Frame.{Frame}
use Rattle.gv_meaning.specs.declared.world.World.{World}
use Rattle.gv_meaning.specs.World.{Answer, Got, Threw, Stopped}
use Rattle.gv_meaning.specs.Calls.{Chosen}
use Rattle.gv_meaning.specs.Meaning.{Scope, Runner}
use Rattle.gv_meaning.specs.Machine.{State, At, body_in, lowest, frame, unwind, back, begin, act, act_on, step, stopped}
use Rattle.gv_written.proofs.Placed.{Guard, Placed, unguarded, Ways, directed}

-- in no step or more
pub data Comes (code : List Body) : State → State → Type 0 where
  here : {s : State} → Comes code s s
  next : {s t : State} → Comes code (step code s) t → Comes code s t

-- the machine does what was chosen as `run` does it
pub record Serves (code : List Body) (run : Runner) (d : ℕ) : Type 0 where
  pub serves : (c : Chosen) (fs : List Frame) → Comes code (begin code c fs d) (back code (run c) fs d)

-- the states to which the ways out and a throw of a stretch of code lead
pub record Ends : Type 0 where
  pub out : Exit → Value → Scope → World → State
  pub caught : Value → Scope → World → State

module _ (code : List Body) where
  pub comes_on : {s t u : State} → Comes code s t → Comes code t u → Comes code s u
  comes_on here r = r
  comes_on (next c) r = next (comes_on c r)

  pub comes_as : {s t u : State} → Comes code s t → t ≡ u → Comes code s u
  comes_as {s} c e = subst (λ (u : State). Comes code s u) e c

  pub one_step : {s t : State} → step code s ≡ t → Comes code s t
  one_step e = next (comes_as here e)

pub lowest_base : (above base : List Value) (n : ℕ) → length base ≡ n → lowest n (above ++ base) ≡ base
lowest_base [] base n e = let z : length base - n ≡ 0 = omega arith in rw z
lowest_base (v ∷ above) base n e =
    let z : length (v ∷ (above ++ base)) - n ≡ suc (length (above ++ base) - n) = omega (arith, length-append above base) in rw z (lowest_base above base n e)

module _ (code : List Body) (k : ℕ) (frames : List Frame) (d : ℕ) where
  -- the machine does an instruction
  pub stepped : (pc : ℕ) (stack : List Value) (slots : Scope) (w : World) (i : Instruction) (t : State) → slice_get (body_in code k).steps pc ≡ Some i → act code i.op k pc stack slots frames d w ≡ t → Comes code (At k pc stack slots frames d w) t
  stepped pc stack slots w i t h e = one_step code (ap (λ o. act_on code o k pc stack slots frames d w) h ∙ e)

  -- the state that an answer leads to: its value on the operands, or where a throw goes
  abbrev pub given : Ends → ℕ → List Value → Scope → Answer → State
  given ends pc stack slots (Got v w) = At k pc (v ∷ stack) slots frames d w
  given ends pc stack slots (Threw v w) = ends.caught v slots w
  given ends pc stack slots (Stopped y w) = stopped y w

  -- what stands at a place: an instruction, or a way out, whatever lies on the operands of the statement
  abbrev pub IsAt : Ends → List Value → ℕ → Item → Type 0
  IsAt ends base pc (Plain i) = slice_get (body_in code k).steps pc ≡ Some i
  IsAt ends base pc (Out shape e) = (above : List Value) (v : Value) (slots : Scope) (w : World) → Comes code (At k pc (v ∷ (above ++ base)) slots frames d w) (ends.out e v slots w)

  -- where the guards of a place take a throw
  abbrev pub guard_state : Ends → ℕ → List Value → Scope → Value → World → List Guard → State
  guard_state ends pc stack slots v w [] = ends.caught v slots w
  guard_state ends pc stack slots v w (g ∷ gs) = At k (pc + 1 + g.on) (v ∷ lowest g.kept stack) slots frames d w

  abbrev pub Catches : Ends → List Value → ℕ → List Guard → Type 0
  Catches ends base pc gs = (above : List Value) (v : Value) (slots : Scope) (w : World) → unwind code v (frame k pc (above ++ base) slots ∷ frames) d w ≡ guard_state ends pc (above ++ base) slots v w gs

  -- the written code stands in the body at this place
  abbrev pub HasAt : Ends → List Value → ℕ → List Placed → Type 0
  HasAt ends base pc [] = Unit {0}
  HasAt ends base pc (i ∷ is) = IsAt ends base pc i.item × Catches ends base pc i.guards × HasAt ends base (pc + 1) is

  pub has_front : (ends : Ends) (base : List Value) (pc : ℕ) (a b : List Placed) → HasAt ends base pc (a ++ b) → HasAt ends base pc a
  has_front ends base pc [] b h = tt
  has_front ends base pc (i ∷ a) b h = (h.0, h.1, has_front ends base (pc + 1) a b h.2)

  pub has_back : (ends : Ends) (base : List Value) (pc : ℕ) (a b : List Placed) → HasAt ends base pc (a ++ b) → HasAt ends base (pc + length a) b
  has_back ends base pc [] b h = let e : pc ≡ pc + 0 = omega arith in subst (λ n. HasAt ends base n b) e h
  has_back ends base pc (i ∷ a) b h =
      let e : pc + 1 + length a ≡ pc + length (i ∷ a) = omega arith in
      subst (λ n. HasAt ends base n b) e (has_back ends base (pc + 1) a b h.2)

  -- the same of items that have no guards of their own
  abbrev pub Stands : Ends → List Value → ℕ → List Item → Type 0
  Stands ends base pc c = HasAt ends base pc (unguarded c)

  pub stands_front : (ends : Ends) (base : List Value) (pc : ℕ) (a b : List Item) → Stands ends base pc (a ++ b) → Stands ends base pc a
  stands_front ends base pc [] b h = tt
  stands_front ends base pc (o ∷ a) b h = (h.0, h.1, stands_front ends base (pc + 1) a b h.2)

  pub stands_back : (ends : Ends) (base : List Value) (pc : ℕ) (a b : List Item) → Stands ends base pc (a ++ b) → Stands ends base (pc + length a) b
  stands_back ends base pc [] b h = let e : pc ≡ pc + 0 = omega arith in subst (λ n. Stands ends base n b) e h
  stands_back ends base pc (o ∷ a) b h =
      let e : pc + 1 + length a ≡ pc + length (o ∷ a) = omega arith in
      subst (λ n. Stands ends base n b) e (stands_back ends base (pc + 1) a b h.2)

  -- a way out that a form decides
  abbrev pub Decides : Ends → Ends → List Value → ℕ → Exit → ℕ → Option (ℕ → Op) → Type 0
  Decides ends inner base pc e n None = (v : Value) (slots : Scope) (w : World) → ends.out e v slots w ≡ inner.out e v slots w
  Decides ends inner base pc e n (Some f) = (shape : Shape) → slice_get (body_in code k).steps pc ≡ Some (record { shape = shape; op = f n }) → IsAt inner base pc (Out shape e)

  pub has_directed : (ends inner : Ends) (base : List Value) (ways : Ways) (end : ℕ) → ((v : Value) (slots : Scope) (w : World) → ends.caught v slots w ≡ inner.caught v slots w) → ((e : Exit) (p n : ℕ) → p + 1 + n ≡ end → Decides ends inner base p e n (ways e)) → (pc : ℕ) (is : List Placed) → pc + length is ≡ end → HasAt ends base pc (directed ways is) → HasAt inner base pc is
  has_directed ends inner base ways end same dec pc [] at h = tt
  has_directed ends inner base ways end same dec pc (i ∷ is) at h =
      let at' : pc + 1 + length is ≡ end = omega arith in
      (op_directed i.item h.0, λ above v slots w. h.1 above v slots w ∙ guard_same i.guards above v slots w, has_directed ends inner base ways end same dec (pc + 1) is at' h.2)
    where
      guard_same : (gs : List Guard) (above : List Value) (v : Value) (slots : Scope) (w : World) → guard_state ends pc (above ++ base) slots v w gs ≡ guard_state inner pc (above ++ base) slots v w gs
      guard_same [] above v slots w = same v slots w
      guard_same (g ∷ gs) above v slots w = refl

      way_directed : (shape : Shape) (e : Exit) (o : Option (ℕ → Op)) → Decides ends inner base pc e (length is) o → IsAt ends base pc (decided o (length is) shape e) → IsAt inner base pc (Out shape e)
      way_directed shape e None f c = λ above v slots w. comes_as code (c above v slots w) (f v slots w)
      way_directed shape e (Some g) f c = f shape c

      op_directed : (o : Item) → IsAt ends base pc (decide ways (length is) o) → IsAt inner base pc o
      op_directed (Plain i) e = e
      op_directed (Out shape e) c = way_directed shape e (ways e) (dec e pc (length is) (omega arith)) c
