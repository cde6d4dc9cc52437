-- The machine's parts as a state of the code meaning.
use Rattle.std.specs.Prelude.{◌≡◌, ℕ, List, true, false, length, nat_le, Option, Some, None}
use Rattle.gv_base.specs.declared.value.Value.{Value}
use Rattle.gv_heap.specs.Heap.{pay, with_new_place}
use Rattle.gv_code.specs.declared.code.Body.{Body}
use Rattle.gv_code.specs.declared.code.Op.{Op}
use Rattle.gv_meaning.specs.declared.frame.Frame.{Frame}
use Rattle.gv_meaning.specs.Machine.{State, At, Over, act, frame}
use Rattle.gv_calls.specs.Told.{answer_of}
use Rattle.gv_run.specs.declared.state.Control.{Control}
use Rattle.gv_run.specs.declared.state.Mode.{Mode}
use Rattle.gv_run.specs.declared.state.Mode.TheVariants as mode
use Rattle.gv_run.specs.declared.state.Running.{Running}

abbrev pub state_of : Mode → Control → State
state_of (mode.At r) c = At r.body r.at r.stack r.slots c.frames c.depth c.world
state_of (mode.Over told) c = Over (answer_of told c.world)

-- one instruction of a running body
abbrev pub acts : List Body → Op → Running → Control → State
acts code op r c = act code op r.body r.at r.stack r.slots c.frames c.depth c.world

-- a body that waits
abbrev pub frame_of : Running → Frame
frame_of r = frame r.body r.at r.stack r.slots

-- a new place with a value, which costs a cell; or none, where no cell is left
abbrev pub IsPlaced : Value → Control → Option ℕ → Control → Type 0
IsPlaced v old (Some place) new = (nat_le 1 old.world.heap.cells ≡ true) × (place ≡ length old.world.heap.places)
    × (new ≡ record old { world = record old.world { heap = pay (with_new_place old.world.heap v) 1 } })
IsPlaced v old None new = (nat_le 1 old.world.heap.cells ≡ false) × (new ≡ old)
