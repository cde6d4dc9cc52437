-- After how many steps the run of code that goes forward is over.
use Rattle.std.proofs.Common.{◌≡◌, ℕ, zero, suc, ◌+◌, ◌-◌, ◌≤◌, Bool, true, false, List, [], ◌∷◌, Option, Some, None, refl, sym, ap, subst, arith}
use Rattle.std.specs.Prelude.{slice_get, nat_le, ◌&&◌}
use Rattle.std.proofs.lemmas.Bool.Decides.{nat_tests}
use Rattle.gv_code.specs.declared.code.Body.{Body}
use Rattle.gv_code.specs.declared.code.Handler.{Handler}
use Rattle.gv_code.specs.declared.code.Instruction.{Instruction}
use Rattle.gv_code.specs.declared.code.Op.{Op}
use Rattle.gv_code.specs.declared.code.Op.TheVariants.{Push, Load, Store, Declare, DeclareShared, Invoke, Ordered, Equal, Not, Discard, Tick, JumpOn, JumpBack, JumpUnless, Leave, Finish}
use Rattle.gv_code.specs.Forward.{TakesTick, JumpFits, HandlersFit, Forward}
use Rattle.gv_meaning.specs.declared.world.World.{World}
use Rattle.gv_meaning.specs.Machine.{opened, steps}
use Rattle.gv_written.proofs.Done.{ends}
use Rattle.gv_run.specs.Runs.{IsOver, EndsIn}

-- ---- code that goes forward, by a test

abbrev is_tick : Op → Bool
is_tick Tick = true
is_tick o = false

abbrev takes_tick : Option Instruction → Bool
takes_tick None = false
takes_tick (Some i) = is_tick i.op

abbrev jump_fits : List Instruction → ℕ → Op → Bool
jump_fits steps at (JumpBack n) = nat_le n at && takes_tick (slice_get steps (at - n))
jump_fits steps at o = true

abbrev jumps_fit : List Instruction → ℕ → List Instruction → Bool
jumps_fit steps at [] = true
jumps_fit steps at (i ∷ is) = jump_fits steps at i.op && jumps_fit steps (suc at) is

abbrev handlers_fit : List Handler → Bool
handlers_fit [] = true
handlers_fit (h ∷ hs) = nat_le h.to h.target && handlers_fit hs

abbrev forward : List Body → Bool
forward [] = true
forward (b ∷ bs) = (jumps_fit b.steps 0 b.steps && handlers_fit b.handlers) && forward bs

both : (a b : Bool) → true ≡ (a && b) → (true ≡ a) × (true ≡ b)
both true b e = (refl, e)
both false b e = absurd (cc)

is_tick_sound : (o : Op) → true ≡ is_tick o → o ≡ Tick
is_tick_sound Tick e = refl
is_tick_sound (Push c) e = absurd (cc)
is_tick_sound (Load s) e = absurd (cc)
is_tick_sound (Store s) e = absurd (cc)
is_tick_sound (Declare s) e = absurd (cc)
is_tick_sound (DeclareShared s) e = absurd (cc)
is_tick_sound (Invoke n m) e = absurd (cc)
is_tick_sound (Ordered o) e = absurd (cc)
is_tick_sound Equal e = absurd (cc)
is_tick_sound Not e = absurd (cc)
is_tick_sound Discard e = absurd (cc)
is_tick_sound (JumpOn n) e = absurd (cc)
is_tick_sound (JumpBack n) e = absurd (cc)
is_tick_sound (JumpUnless n) e = absurd (cc)
is_tick_sound (Leave n m) e = absurd (cc)
is_tick_sound Finish e = absurd (cc)

takes_tick_sound : (o : Option Instruction) → true ≡ takes_tick o → TakesTick o
takes_tick_sound None e = absurd (cc)
takes_tick_sound (Some i) e = is_tick_sound i.op e

at_least : (a b : ℕ) → true ≡ nat_le a b → a ≤ b
at_least a b e = grind (arith, nat_tests)

jump_sound : (steps : List Instruction) (at : ℕ) (o : Op) → true ≡ jump_fits steps at o → JumpFits steps at o
jump_sound steps at (JumpBack n) e =
    let b = both (nat_le n at) (takes_tick (slice_get steps (at - n))) e in
    (at_least n at b.0, takes_tick_sound (slice_get steps (at - n)) b.1)
jump_sound steps at (Push c) e = tt
jump_sound steps at (Load s) e = tt
jump_sound steps at (Store s) e = tt
jump_sound steps at (Declare s) e = tt
jump_sound steps at (DeclareShared s) e = tt
jump_sound steps at (Invoke n m) e = tt
jump_sound steps at (Ordered o) e = tt
jump_sound steps at Equal e = tt
jump_sound steps at Not e = tt
jump_sound steps at Discard e = tt
jump_sound steps at Tick e = tt
jump_sound steps at (JumpOn n) e = tt
jump_sound steps at (JumpUnless n) e = tt
jump_sound steps at (Leave n m) e = tt
jump_sound steps at Finish e = tt

jumps_sound : (steps : List Instruction) (from : ℕ) (is : List Instruction) → true ≡ jumps_fit steps from is → (k : ℕ) (i : Instruction) → slice_get is k ≡ Some i → JumpFits steps (from + k) i.op
jumps_sound steps from [] e k i q = absurd (cc)
jumps_sound steps from (j ∷ is) e zero i q =
    let b = both (jump_fits steps from j.op) (jumps_fit steps (suc from) is) e in
    let z : from + 0 ≡ from = omega arith in
    subst (λ m. JumpFits steps m i.op) (sym z) (subst (λ j. JumpFits steps from j.op) (is_some q) (jump_sound steps from j.op b.0))
  where
    is_some : Some j ≡ Some i → j ≡ i
    is_some e = cc
jumps_sound steps from (j ∷ is) e (suc k) i q =
    let b = both (jump_fits steps from j.op) (jumps_fit steps (suc from) is) e in
    let z : suc from + k ≡ from + suc k = omega arith in
    subst (λ m. JumpFits steps m i.op) z (jumps_sound steps (suc from) is b.1 k i q)

handlers_sound : (hs : List Handler) → true ≡ handlers_fit hs → HandlersFit hs
handlers_sound [] e = tt
handlers_sound (h ∷ hs) e = let b = both (nat_le h.to h.target) (handlers_fit hs) e in (at_least h.to h.target b.0, handlers_sound hs b.1)

sound : (code : List Body) → true ≡ forward code → Forward code
sound [] e = tt
sound (b ∷ bs) e =
    let p = both (jumps_fit b.steps 0 b.steps && handlers_fit b.handlers) (forward bs) e in
    let q = both (jumps_fit b.steps 0 b.steps) (handlers_fit b.handlers) p.0 in
    (record { jumps = jumps_in q.0; handlers = handlers_sound b.handlers q.1 }, sound bs p.1)
  where
    jumps_in : true ≡ jumps_fit b.steps 0 b.steps → (at : ℕ) (i : Instruction) → slice_get b.steps at ≡ Some i → JumpFits b.steps at i.op
    jumps_in e at i q = let z : 0 + at ≡ at = omega arith in subst (λ m. JumpFits b.steps m i.op) z (jumps_sound b.steps 0 b.steps e at i q)

-- ---- the other way

ands : (a b : Bool) → true ≡ a → true ≡ b → true ≡ (a && b)
ands true b e f = f
ands false b e f = e

is_at_least : (a b : ℕ) → a ≤ b → true ≡ nat_le a b
is_at_least a b le = grind (arith, nat_tests)

ticks_complete : (o : Option Instruction) → TakesTick o → true ≡ takes_tick o
ticks_complete None e = absurd e
ticks_complete (Some i) e = sym (ap is_tick e)

jump_complete : (steps : List Instruction) (at : ℕ) (o : Op) → JumpFits steps at o → true ≡ jump_fits steps at o
jump_complete steps at (JumpBack n) f = ands (nat_le n at) (takes_tick (slice_get steps (at - n))) (is_at_least n at f.0) (ticks_complete (slice_get steps (at - n)) f.1)
jump_complete steps at (Push c) f = refl
jump_complete steps at (Load s) f = refl
jump_complete steps at (Store s) f = refl
jump_complete steps at (Declare s) f = refl
jump_complete steps at (DeclareShared s) f = refl
jump_complete steps at (Invoke n m) f = refl
jump_complete steps at (Ordered o) f = refl
jump_complete steps at Equal f = refl
jump_complete steps at Not f = refl
jump_complete steps at Discard f = refl
jump_complete steps at Tick f = refl
jump_complete steps at (JumpOn n) f = refl
jump_complete steps at (JumpUnless n) f = refl
jump_complete steps at (Leave n m) f = refl
jump_complete steps at Finish f = refl

jumps_complete : (steps : List Instruction) (from : ℕ) (is : List Instruction) → ((k : ℕ) (i : Instruction) → slice_get is k ≡ Some i → JumpFits steps (from + k) i.op) → true ≡ jumps_fit steps from is
jumps_complete steps from [] f = refl
jumps_complete steps from (j ∷ is) f =
    let z : from + 0 ≡ from = omega arith in
    ands (jump_fits steps from j.op) (jumps_fit steps (suc from) is) (jump_complete steps from j.op (subst (λ m. JumpFits steps m j.op) z (f 0 j refl)))
    (jumps_complete steps (suc from) is (λ k i q. let s : from + suc k ≡ suc from + k = omega arith in subst (λ m. JumpFits steps m i.op) s (f (suc k) i q)))

handlers_complete : (hs : List Handler) → HandlersFit hs → true ≡ handlers_fit hs
handlers_complete [] f = refl
handlers_complete (h ∷ hs) f = ands (nat_le h.to h.target) (handlers_fit hs) (is_at_least h.to h.target f.0) (handlers_complete hs f.1)

complete : (code : List Body) → Forward code → true ≡ forward code
complete [] f = refl
complete (b ∷ bs) f =
    ands (jumps_fit b.steps 0 b.steps && handlers_fit b.handlers) (forward bs)
    (ands (jumps_fit b.steps 0 b.steps) (handlers_fit b.handlers) (jumps_complete b.steps 0 b.steps (λ k i q. let z : k ≡ 0 + k = omega arith in subst (λ m. JumpFits b.steps m i.op) z (f.0.jumps k i q))) (handlers_complete b.handlers (f.0.handlers)))
    (complete bs f.1)

-- ---- the limit

-- the count of steps that the proof of a run's end gives, where the code goes forward
abbrev limit_by : (code : List Body) (b : Bool) → b ≡ forward code → World → ℕ
limit_by code true e w = (ends code (sound code e) w).0
limit_by code false e w = 0

pub limit : List Body → World → ℕ
limit code w = limit_by code (forward code) refl w

ends_by : (code : List Body) (b : Bool) (e : b ≡ forward code) (w : World) → true ≡ b → EndsIn code (limit_by code b e w) (opened code w)
ends_by code true e w t = let r = ends code (sound code e) w in record { over = subst IsOver (sym r.2) tt }
ends_by code false e w t = absurd (cc)

pub ends_in : (code : List Body) → Forward code → (w : World) → EndsIn code (limit code w) (opened code w)
unfolding limit
ends_in code f w = ends_by code (forward code) refl w (complete code f)
