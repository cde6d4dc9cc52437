-- The world of a run, and the steps that the source meaning and the machine share: each step that is no jump is one definition here.
use Rattle.std.specs.Prelude.{ℕ, zero, suc, ℤ, pos, int_lt, int_le, Bool, true, false, List, [], ◌∷◌, length, Option, Some, None, nat_le, ◌==◌, slice_get, slice_set, if◌then◌else◌, unwrap_or}
use Rattle.gv_base.specs.Plain.{truth_of, equal_of}
use Rattle.gv_base.specs.declared.value.Value.{Value}
use Rattle.gv_base.specs.declared.value.Value.TheVariants.{Null, Bool as Truth, Int, Long, Obj}
use Rattle.gv_core.specs.declared.expr.Const.{Const}
use Rattle.gv_core.specs.declared.expr.Const.TheVariants as const
use Rattle.gv_core.specs.declared.expr.Order.{Order}
use Rattle.gv_core.specs.declared.expr.Order.TheVariants as order
use Rattle.gv_heap.specs.Heap.{pay, with_new}
use Rattle.gv_heap.specs.declared.object.Object.{Object}
pub use Rattle.gv_meaning.specs.declared.world.World.{World}
pub use Rattle.gv_meaning.specs.declared.world.Why.{Why}
pub use Rattle.gv_meaning.specs.declared.world.Why.TheVariants.{Ticks, Cells, Depth}
pub use Rattle.gv_meaning.specs.declared.world.Cell.{Cell}
pub use Rattle.gv_meaning.specs.declared.world.Cell.TheVariants.{Own, Shared}

-- how a step ends that is no jump: a built-in method, a call, a body
pub data Answer : Type 0 where
  Got : (v : Value) (w : World) → Answer
  Threw : (v : Value) (w : World) → Answer
  Stopped : (y : Why) (w : World) → Answer

-- ---- prices

-- goes on with one tick less, or stops
abbrev pub paid : {A : Type 0} → (Why → World → A) → ℕ → World → (World → A) → A
paid stop zero w go = stop Ticks w
paid stop (suc n) w go = go (record w { ticks = n })

abbrev pub paying : {A : Type 0} → (Why → World → A) → World → (World → A) → A
paying stop w go = paid stop w.ticks w go

-- goes on with a new object, for its price in cells, or stops
abbrev pub making : Object → ℕ → World → (Value → World → Answer) → Answer
making o price w go =
    if nat_le price w.heap.cells then go (Obj (length w.heap.objects)) (record w { heap = pay (with_new w.heap o) price }) else Stopped Cells w

-- ---- values

-- a constant's value: the object of a text that is no literal of the unit is null
abbrev pub value_or_null : Option Value → Value
value_or_null None = Null
value_or_null (Some v) = v

abbrev pub literal_in : List (ℕ × ℕ) → ℕ → Value
literal_in [] text = Null
literal_in (l ∷ ls) text = if l.0 == text then Obj l.1 else literal_in ls text

abbrev pub const_value : Const → World → Value
const_value const.Null w = Null
const_value (const.Bool b) w = Truth b
const_value (const.Int n) w = Int n
const_value (const.Long n) w = Long n
const_value (const.Text text) w = literal_in w.literals text

-- whether a value is true: an object is
abbrev pub is_true : Value → Bool
is_true v = unwrap_or (truth_of v) true

-- whether two values are equal, where no object is asked
abbrev pub are_equal : Value → Value → Bool
are_equal a b = unwrap_or (equal_of a b) false

-- an answer of `compareTo`, of which an order counts some
abbrev pub counts : Order → ℤ → Bool
counts order.Less n = int_lt n (pos 0)
counts order.LessEqual n = int_le n (pos 0)
counts order.Greater n = int_lt (pos 0) n
counts order.GreaterEqual n = int_le (pos 0) n

abbrev pub ordered : Order → Value → Value
ordered o (Int n) = Truth (counts o n)
ordered o v = Null

-- ---- variables

-- the value at a place, and a new one there
abbrev pub held : World → ℕ → Value
held w p = value_or_null (slice_get w.heap.places p)

abbrev pub stored : ℕ → Value → World → World
stored p v w = record w { heap = record w.heap { places = slice_set w.heap.places p v } }

abbrev pub read : Cell → World → Value
read (Own v) w = v
read (Shared p) w = held w p
