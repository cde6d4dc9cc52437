-- Every run of code that goes forward ends: by the ticks left, by the depth left, and by the instructions ahead.
use Rattle.std.proofs.Common.{◌≡◌, ℕ, zero, suc, ◌+◌, ◌-◌, ◌<◌, ◌≤◌, Bool, true, false, List, [], ◌∷◌, length, Option, Some, None, refl, sym, ap, subst, arith}
use Rattle.std.specs.Prelude.{slice_get, nat_le, if◌then◌else◌}
use Rattle.std.proofs.lemmas.Bool.Decides.{nat_tests}
use Rattle.gv_base.specs.declared.value.Value.{Value}
use Rattle.gv_code.specs.declared.code.Body.{Body}
use Rattle.gv_code.specs.declared.code.Handler.{Handler}
use Rattle.gv_code.specs.declared.code.Instruction.{Instruction}
use Rattle.gv_code.specs.declared.code.Op.{Op}
use Rattle.gv_code.specs.declared.code.Op.TheVariants.{Push, Load, Store, Declare, DeclareShared, Invoke, Ordered, Equal, Not, Discard, Tick, JumpOn, JumpBack, JumpUnless, Leave, Finish}
use Rattle.gv_code.specs.Forward.{TakesTick, JumpFits, HandlersFit, GoesForward, Forward}
use Rattle.gv_meaning.specs.declared.frame.Frame.{Frame}
use Rattle.gv_meaning.specs.declared.world.Cell.{Cell}
use Rattle.gv_meaning.specs.declared.world.Cell.TheVariants.{Own, Shared}
use Rattle.gv_meaning.specs.declared.world.World.{World}
use Rattle.gv_meaning.specs.World.{Answer, Got, Threw, Stopped, paid, is_true}
use Rattle.gv_meaning.specs.Calls.{Chosen, Enter, Else, call_of}
use Rattle.gv_meaning.specs.Meaning.{Scope, cell_of, pick}
use Rattle.gv_meaning.specs.Machine.{State, At, Over, no_body, body_in, handler_at, popped, land, frame, store, stopped, unwind, back, enter, begin, act, act_on, step, steps, opened}
use Rattle.gv_written.specs.Ending.{Ends}
use Rattle.gv_written.proofs.Placed.{covers}
use Rattle.gv_written.proofs.Ticks.{answer_ticks, chosen_ticks, call_ticks}

-- the run from a state ends
pub data Done (code : List Body) : State → Type 0 where
  over : {o : Answer} → Done code (Over o)
  after : {s : State} → Done code (step code s) → Done code s

-- what waits ends with every answer that has no more ticks
record Waits (code : List Body) (t : ℕ) (fs : List Frame) (d : ℕ) : Type 0 where
  by : (o : Answer) → answer_ticks o ≤ t → Done code (back code o fs d)

record Serve (code : List Body) (t d : ℕ) : Type 0 where
  by : (c : Chosen) (fs : List Frame) → chosen_ticks c ≤ t → Waits code t fs d → Done code (begin code c fs d)

record Run (code : List Body) (t d : ℕ) : Type 0 where
  by : (k pc : ℕ) (stack : List Value) (slots : Scope) (fs : List Frame) (w : World) → w.ticks ≤ t → Waits code t fs (suc d) → Done code (At k pc stack slots fs d w)

waits_less : (code : List Body) (t u : ℕ) (fs : List Frame) (d : ℕ) → u ≤ t → Waits code t fs d → Waits code u fs d
waits_less code t u fs d le h = record { by = λ o ot. h.by o (omega arith) }

get_none : (xs : List Instruction) (i : ℕ) → length xs ≤ i → slice_get xs i ≡ None
get_none [] i le = refl
get_none (x ∷ xs) zero le = absurd (omega arith)
get_none (x ∷ xs) (suc i) le = get_none xs i (omega arith)

covered : (h : Handler) (p : ℕ) → true ≡ covers h p → p < h.to
covered h p e = grind (arith, nat_tests)

-- at a place of a body, from which the run goes on to later places, or to a tick
module _ (code : List Body) (t d k pc : ℕ) (fs : List Frame) (fits : GoesForward (body_in code k)) (waits : Waits code t fs (suc d)) (served : Serve code t d) (go : (p : ℕ) (stack : List Value) (slots : Scope) (w : World) → pc < p → w.ticks ≤ t → Done code (At k p stack slots fs d w)) (again : (p : ℕ) (stack : List Value) (slots : Scope) (w : World) → TakesTick (slice_get (body_in code k).steps p) → w.ticks ≤ t → Done code (At k p stack slots fs d w)) where
  lands : (hs : List Handler) → HandlersFit hs → (v : Value) (stack : List Value) (slots : Scope) (w : World) (other : State) → w.ticks ≤ t → Done code other → Done code (land v (handler_at hs pc) k stack slots fs d w other)
  lands [] f v stack slots w other le o = o
  lands (h ∷ hs) f v stack slots w other le o = found (covers h pc) refl (lands hs f.1 v stack slots w other le o)
    where
      found : (c : Bool) → c ≡ covers h pc → Done code (land v (handler_at hs pc) k stack slots fs d w other) → Done code (land v (if c then Some h else handler_at hs pc) k stack slots fs d w other)
      found false e r = r
      found true e r = let lt : pc < h.to = covered h pc e in let le' = f.0 in go h.target _ slots w (omega arith) le

  thrown : (v : Value) (stack : List Value) (slots : Scope) (w : World) → w.ticks ≤ t → Done code (unwind code v (frame k pc stack slots ∷ fs) d w)
  thrown v stack slots w le = lands (body_in code k).handlers fits.handlers v stack slots w (unwind code v fs (suc d) w) le (waits.by (Threw v w) le)

  waiting : (stack : List Value) (slots : Scope) → Waits code t (frame k pc stack slots ∷ fs) d
  waiting stack slots = record { by = told }
    where
      told : (o : Answer) → answer_ticks o ≤ t → Done code (back code o (frame k pc stack slots ∷ fs) d)
      told (Got v w) le = go (pc + 1) (v ∷ stack) slots w (omega arith) le
      told (Threw v w) le = thrown v stack slots w le
      told (Stopped y w) le = over

  picks : (b : Bool) (s u : State) → Done code s → Done code u → Done code (pick b s u)
  unfolding pick
  picks true s u p q = p
  picks false s u p q = q

  stores : (c : Cell) (slot : ℕ) (v : Value) (rest : List Value) (slots : Scope) (w : World) → w.ticks ≤ t → Done code (store c slot v k pc rest slots fs d w)
  stores (Own u) slot v rest slots w le = go (pc + 1) _ _ w (omega arith) le
  stores (Shared p) slot v rest slots w le = go (pc + 1) _ _ _ (omega arith) le

  ticked : (n : ℕ) (stack : List Value) (slots : Scope) (w : World) → w.ticks ≡ n → w.ticks ≤ t → Done code (paid stopped n w (λ w. At k (pc + 1) stack slots fs d w))
  ticked zero stack slots w e le = over
  ticked (suc n) stack slots w e le = go (pc + 1) stack slots _ (omega arith) (omega arith)

  acts : (i : Instruction) → slice_get (body_in code k).steps pc ≡ Some i → (o : Op) → i.op ≡ o → (stack : List Value) (slots : Scope) (w : World) → w.ticks ≤ t → Done code (act code o k pc stack slots fs d w)
  acts i e (Push c) q stack slots w le = go (pc + 1) _ _ _ (omega arith) le
  acts i e (Load s) q stack slots w le = go (pc + 1) _ _ _ (omega arith) le
  acts i e (Store s) q [] slots w le = over
  acts i e (Store s) q (v ∷ stack) slots w le = stores (cell_of slots s) s v stack slots w le
  acts i e (Declare s) q [] slots w le = over
  acts i e (Declare s) q (v ∷ stack) slots w le = go (pc + 1) _ _ _ (omega arith) le
  acts i e (DeclareShared s) q [] slots w le = over
  acts i e (DeclareShared s) q (v ∷ stack) slots w le = picks (nat_le 1 w.heap.cells) _ _ (go (pc + 1) _ _ _ (omega arith) le) over
  acts i e (Invoke name n) q stack slots w le =
      let r = popped n [] stack in
      let c = call_ticks name r.0 w in served.by (call_of name r.0 w) (frame k pc r.1 slots ∷ fs) (omega arith) (waiting r.1 slots)
  acts i e (Ordered o) q [] slots w le = over
  acts i e (Ordered o) q (v ∷ stack) slots w le = go (pc + 1) _ _ _ (omega arith) le
  acts i e Equal q [] slots w le = over
  acts i e Equal q (y ∷ []) slots w le = over
  acts i e Equal q (y ∷ x ∷ stack) slots w le = go (pc + 1) _ _ _ (omega arith) le
  acts i e Not q [] slots w le = over
  acts i e Not q (v ∷ stack) slots w le = go (pc + 1) _ _ _ (omega arith) le
  acts i e Discard q [] slots w le = over
  acts i e Discard q (v ∷ stack) slots w le = go (pc + 1) _ _ _ (omega arith) le
  acts i e Tick q stack slots w le = ticked w.ticks stack slots w refl le
  acts i e (JumpOn n) q stack slots w le = go (pc + 1 + n) _ _ _ (omega arith) le
  acts i e (JumpBack n) q stack slots w le = again (pc - n) stack slots w (back_to n q).1 le
    where
      back_to : (n : ℕ) → i.op ≡ JumpBack n → (n ≤ pc) × TakesTick (slice_get (body_in code k).steps (pc - n))
      back_to n q = subst (λ o. JumpFits (body_in code k).steps pc o) q (fits.jumps pc i e)
  acts i e (JumpUnless n) q [] slots w le = over
  acts i e (JumpUnless n) q (v ∷ stack) slots w le = picks (is_true v) _ _ (go (pc + 1) stack slots w (omega arith) le) (go (pc + 1 + n) stack slots w (omega arith) le)
  acts i e (Leave n kept) q [] slots w le = over
  acts i e (Leave n kept) q (v ∷ stack) slots w le = go (pc + 1 + n) _ _ _ (omega arith) le
  acts i e Finish q [] slots w le = over
  acts i e Finish q (v ∷ stack) slots w le = waits.by (Got v w) le

  acts_on : (o : Option Instruction) → slice_get (body_in code k).steps pc ≡ o → (stack : List Value) (slots : Scope) (w : World) → w.ticks ≤ t → Done code (act_on code o k pc stack slots fs d w)
  acts_on None e stack slots w le = over
  acts_on (Some i) e stack slots w le = acts i e i.op refl stack slots w le

-- an instruction that takes a tick
tick_acts : (code : List Body) (o : Option Instruction) (k p : ℕ) (stack : List Value) (slots : Scope) (fs : List Frame) (d : ℕ) (w : World) → TakesTick o → act_on code o k p stack slots fs d w ≡ act code Tick k p stack slots fs d w
tick_acts code None k p stack slots fs d w e = absurd e
tick_acts code (Some i) k p stack slots fs d w e = ap (λ (o : Op). act code o k p stack slots fs d w) e

none_forward : GoesForward no_body
none_forward = record { jumps = λ at i e. none at i e; handlers = tt }
  where
    none : (at : ℕ) (i : Instruction) → slice_get [] at ≡ Some i → JumpFits [] at i.op
    none at i e = absurd (cc)

-- each body goes forward, also one that isn't there
body_forward : (code : List Body) → Forward code → (k : ℕ) → GoesForward (body_in code k)
body_forward [] f k = none_forward
body_forward (b ∷ bs) f zero = f.0
body_forward (b ∷ bs) f (suc k) = body_forward bs f.1 k

module _ (code : List Body) (fits : Forward code) where
  pays : (t d k p : ℕ) (fs : List Frame) → Waits code t fs (suc d) → ((u : ℕ) → u < t → Run code u d) → (stack : List Value) (slots : Scope) (w : World) → TakesTick (slice_get (body_in code k).steps p) → w.ticks ≤ t → Done code (At k p stack slots fs d w)
  pays t d k p fs waits earlier stack slots w e le =
      after (subst (λ s. Done code s) (sym (tick_acts code (slice_get (body_in code k).steps p) k p stack slots fs d w e)) (paid_on w.ticks w refl le))
    where
      paid_on : (n : ℕ) (w : World) → w.ticks ≡ n → w.ticks ≤ t → Done code (paid stopped n w (λ w. At k (p + 1) stack slots fs d w))
      paid_on zero w e le = over
      paid_on (suc n) w e le = (earlier n (omega arith)).by k (p + 1) stack slots fs (record w { ticks = n }) (omega arith) (waits_less code t n fs (suc d) (omega arith) waits)

  at_done : (t d : ℕ) → Serve code t d → ((u : ℕ) → u < t → Run code u d) → (rest : ℕ) (k pc : ℕ) (stack : List Value) (slots : Scope) (fs : List Frame) (w : World) → length (body_in code k).steps ≤ pc + rest → w.ticks ≤ t → Waits code t fs (suc d) → Done code (At k pc stack slots fs d w)
  at_done t d served earlier zero k pc stack slots fs w room le waits =
      let e = get_none (body_in code k).steps pc (omega arith) in
      after (subst (λ o. Done code (act_on code o k pc stack slots fs d w)) (sym e) over)
  at_done t d served earlier (suc rest) k pc stack slots fs w room le waits =
      after (acts_on code t d k pc fs (body_forward code fits k) waits served
      (λ p stack slots w lt le. at_done t d served earlier rest k p stack slots fs w (omega arith) le waits)
      (λ p stack slots w e le. pays t d k p fs waits earlier stack slots w e le)
      (slice_get (body_in code k).steps pc) refl stack slots w le)

  runs : (t d : ℕ) → Serve code t d → ((u : ℕ) → u < t → Run code u d) → Run code t d
  runs t d served earlier = record { by = λ k pc stack slots fs w le waits. at_done t d served earlier (length (body_in code k).steps) k pc stack slots fs w (omega arith) le waits }

  serves : (t d : ℕ) → ((k : ℕ) (ps : List ℕ) (args : List Value) (w : World) (fs : List Frame) → w.ticks ≤ t → Waits code t fs d → Done code (enter code k ps args w fs d)) → Serve code t d
  serves t d enters = record { by = does }
    where
      does : (c : Chosen) (fs : List Frame) → chosen_ticks c ≤ t → Waits code t fs d → Done code (begin code c fs d)
      does (Enter k ps args w) fs le waits = enters k ps args w fs le waits
      does (Else o) fs le waits = waits.by o le

  -- by ticks, and inside by depth
  all : (n t : ℕ) → t < n → (d : ℕ) → Serve code t d × Run code t d
  all zero t lt d = absurd (omega arith)
  all (suc n) t lt zero =
      let s = serves t zero (λ k ps args w fs le waits. over) in
      (s, runs t zero s (λ u ut. (all n u (omega arith) zero).1))
  all (suc n) t lt (suc d) =
      let below = all (suc n) t lt d in
      let s = serves t (suc d) (λ k ps args w fs le waits. below.1.by k 0 [] _ fs w le waits) in
      (s, runs t (suc d) s (λ u ut. (all n u (omega arith) (suc d)).1))

  none_waits : (t d : ℕ) → Waits code t [] d
  none_waits t d = record { by = told }
    where
      told : (o : Answer) → answer_ticks o ≤ t → Done code (back code o [] d)
      told (Got v w) le = over
      told (Threw v w) le = over
      told (Stopped y w) le = over

counted : (code : List Body) (s : State) → Done code s → (n : ℕ) × (o : Answer) × (steps code n s ≡ Over o)
counted code s (over {o}) = (0, o, refl)
counted code s (after r) = let c = counted code (step code s) r in (suc c.0, c.1, c.2)

pub ends : (code : List Body) → Forward code → Ends code
ends code fits w =
    counted code (opened code w) ((all code fits (suc w.ticks) w.ticks (omega arith) w.depth).1.by 0 0 [] _ [] w (omega arith) (none_waits code fits w.ticks (suc w.depth)))
