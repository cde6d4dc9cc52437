-- Arithmetic on Integers, of 32 bits, and Longs, of 64, by whole numbers. What doesn't fit wraps.
use Rattle.std.specs.Prelude.{ℕ, ◌/◌, ◌^◌, Bool, true, false, ℤ, pos, ◌+ℤ◌, ◌-ℤ◌, ◌*ℤ◌, int_rem, if◌then◌else◌}
use Rattle.std.specs.Int.{Width, w32, w64, int_wrap, int_bit_and, int_bit_or, int_bit_xor, int_shr, int_rem_euclid, cast_signed, cast_unsigned}
use Rattle.std.specs.Int.RustNames.{int_div, unsigned_abs}
use mir.Val.{bits}
use Rattle.std.specs.Ordering.{int_eq}
use Rattle.gv_base.specs.declared.value.Value.{Value}
use Rattle.gv_base.specs.declared.value.Value.TheVariants.{Null, Int, Long}
use Rattle.gv_base.specs.declared.outcome.Arith.{Arith}
use Rattle.gv_base.specs.declared.outcome.Arith.TheVariants.{Value as Gives, NotNumbers, ByZero}
use Rattle.gv_base.specs.declared.outcome.ArithOp.{ArithOp}
use Rattle.gv_base.specs.declared.outcome.ArithOp.TheVariants.{Plus, Minus, Multiply, Mod, IntDiv, LeftShift, RightShift, RightShiftUnsigned, And, Or, Xor}

-- how far a shift by b goes: b's lowest five bits at 32 bits, and its lowest six at 64
abbrev pub distance : Width → ℤ → ℕ
distance w b = unsigned_abs (int_rem_euclid b (pos (bits w)))

-- an operation on whole numbers at w's bits, where `make` makes the value
abbrev pub number_result : Width → (ℤ → Value) → ArithOp → ℤ → ℤ → Arith
number_result w make Plus a b = Gives (make (int_wrap w (a +ℤ b)))
number_result w make Minus a b = Gives (make (int_wrap w (a -ℤ b)))
number_result w make Multiply a b = Gives (make (int_wrap w (a *ℤ b)))
number_result w make Mod a b = if int_eq b (pos 0) then ByZero else Gives (make (int_rem a b))
number_result w make IntDiv a b = if int_eq b (pos 0) then ByZero else Gives (make (int_wrap w (int_div a b)))
number_result w make LeftShift a b = Gives (make (int_wrap w (a *ℤ pos (2 ^ distance w b))))
number_result w make RightShift a b = Gives (make (int_shr a (distance w b)))
number_result w make RightShiftUnsigned a b = Gives (make (cast_signed w (cast_unsigned w a / 2 ^ distance w b)))
number_result w make And a b = Gives (make (int_bit_and w a b))
number_result w make Or a b = Gives (make (int_bit_or w a b))
number_result w make Xor a b = Gives (make (int_bit_xor w a b))

abbrev pub int_result : ArithOp → ℤ → ℤ → Arith
int_result op a b = number_result w32 Int op a b

abbrev pub long_result : ArithOp → ℤ → ℤ → Arith
long_result op a b = number_result w64 Long op a b

-- a shift keeps the left side's kind
abbrev pub is_shift : ArithOp → Bool
is_shift LeftShift = true
is_shift RightShift = true
is_shift RightShiftUnsigned = true
is_shift op = false

-- the operation on two values: at 64 bits where a side is a Long, but a shift at the left side's
abbrev pub arith_of : ArithOp → Value → Value → Arith
arith_of op (Int a) (Int b) = int_result op a b
arith_of op (Int a) (Long b) = if is_shift op then int_result op a b else long_result op a b
arith_of op (Long a) (Int b) = long_result op a b
arith_of op (Long a) (Long b) = long_result op a b
arith_of op a b = NotNumbers

-- the value that an operation gives, where it gives one
abbrev pub given : Arith → Value
given (Gives v) = v
given other = Null

abbrev pub applied : ArithOp → Value → Value → Value
applied op a b = given (arith_of op a b)

-- a value is an Integer or a Long
abbrev pub IsNumber : Value → Type 0
IsNumber (Int n) = Unit {0}
IsNumber (Long n) = Unit {0}
IsNumber v = ⊥
