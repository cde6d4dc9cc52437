-- Code that only goes forward between two ticks.
use Rattle.std.specs.Prelude.{◌≡◌, ℕ, ◌-◌, ◌≤◌, List, [], ◌∷◌, Option, Some, None, slice_get}
use Rattle.gv_code.specs.declared.code.Op.{Op}
use Rattle.gv_code.specs.declared.code.Op.TheVariants.{JumpBack, Tick}
use Rattle.gv_code.specs.declared.code.Instruction.{Instruction}
use Rattle.gv_code.specs.declared.code.Handler.{Handler}
use Rattle.gv_code.specs.declared.code.Body.{Body}

abbrev pub TakesTick : Option Instruction → Type 0
TakesTick None = ⊥
TakesTick (Some i) = i.op ≡ Tick

-- a jump back leads to where a tick is taken
abbrev pub JumpFits : List Instruction → ℕ → Op → Type 0
JumpFits steps at (JumpBack n) = (n ≤ at) × TakesTick (slice_get steps (at - n))
JumpFits steps at op = Unit {0}

-- a handler leads behind what it covers
abbrev pub HandlersFit : List Handler → Type 0
HandlersFit [] = Unit {0}
HandlersFit (h ∷ hs) = (h.to ≤ h.target) × HandlersFit hs

pub record GoesForward (b : Body) : Type 0 where
  pub jumps : (at : ℕ) (i : Instruction) → slice_get b.steps at ≡ Some i → JumpFits b.steps at i.op
  pub handlers : HandlersFit b.handlers

abbrev pub Forward : List Body → Type 0
Forward [] = Unit {0}
Forward (b ∷ bs) = GoesForward b × Forward bs
