-- Truth, equality and hash of values, where no object has to be asked.
use Rattle.std.specs.Prelude.{◌/◌, ◌%◌, ◌^◌, ℤ, pos, Bool, true, false, not, ◌==◌, if◌then◌else◌, Option, Some, None}
use Rattle.std.specs.Int.{w32, w64, cast_signed, cast_unsigned}
use Rattle.std.specs.Int.Bits.{bit_xor}
use Rattle.std.specs.Ordering.{int_eq}
use Rattle.gv_base.specs.declared.value.Value.{Value}
use Rattle.gv_base.specs.declared.value.Value.TheVariants.{Null, Bool as Truth, Int, Long, Class, Obj}

-- null, false and zero are false
abbrev pub truth_of : Value → Option Bool
truth_of Null = Some false
truth_of (Truth b) = Some b
truth_of (Int n) = Some (not (int_eq n (pos 0)))
truth_of (Long n) = Some (not (int_eq n (pos 0)))
truth_of (Class c) = Some true
truth_of (Obj o) = None

-- null equals null alone; numbers are equal by their values, and classes as the same one
abbrev pub equal_of : Value → Value → Option Bool
equal_of Null Null = Some true
equal_of Null b = Some false
equal_of a Null = Some false
equal_of (Obj o) b = None
equal_of a (Obj o) = None
equal_of (Truth x) (Truth y) = Some (if x then y else not y)
equal_of (Int x) (Int y) = Some (int_eq x y)
equal_of (Int x) (Long y) = Some (int_eq x y)
equal_of (Long x) (Int y) = Some (int_eq x y)
equal_of (Long x) (Long y) = Some (int_eq x y)
equal_of (Class x) (Class y) = Some (x == y)
equal_of a b = Some false

-- n ^ (n >>> 32) on the 64 bits of n, cut to the lowest 32
abbrev pub long_hash_of : ℤ → ℤ
long_hash_of n = let bits = cast_unsigned w64 n in cast_signed w32 (bit_xor bits (bits / 2 ^ 32) % 2 ^ 32)

abbrev pub hash_of : Value → Option ℤ
hash_of Null = Some (pos 0)
hash_of (Truth b) = Some (pos (if b then 1231 else 1237))
hash_of (Int n) = Some n
hash_of (Long n) = Some (long_hash_of n)
hash_of (Class c) = None
hash_of (Obj o) = None
