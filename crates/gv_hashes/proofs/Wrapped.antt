-- What the code's sums and products wrap to.
use Rattle.std.proofs.Common.{◌≡◌, ◌+◌, ◌*◌, ◌%◌, ◌^◌, ◌<◌, ℤ, pos, ◌+ℤ◌, ◌*ℤ◌, w32, ap, ◌∙◌, lit<}
use Rattle.std.specs.Int.{int_wrap, int_bit_xor, cast_signed, cast_unsigned}
use Rattle.std.specs.Int.Bits.{bit_xor}
use Rattle.std.specs.Int.RustNames.{FitsSigned}
use Rattle.std.proofs.lemmas.Int.{wrapping_add-bits, wrapping_add_onto, wrapping_mul-bits, int_wrap-add_left, to_z-of_z}
use Rattle.std.proofs.lemmas.Nat.{xor_lt}
use Rattle.std.proofs.Math.Nat.{mod-lt}
use Rattle.std.proofs.Math.Facts.{Fits-lt-pow, Fits-of_z}
use Rattle.gv_hashes.specs.Rules as spec

bits_below : (z : ℤ) → FitsSigned w32 z → cast_unsigned w32 z < 2 ^ 32
bits_below z f = Fits-lt-pow (Fits-of_z f)

pub joined_is : (hash next : ℤ) → FitsSigned w32 hash → FitsSigned w32 next
    → cast_signed w32 ((cast_unsigned w32 hash * 31 % 2 ^ 32 + cast_unsigned w32 next) % 2 ^ 32) ≡ spec.joined hash next
joined_is hash next f g =
    wrapping_add_onto w32 (cast_unsigned w32 hash * 31 % 2 ^ 32) next (mod-lt (cast_unsigned w32 hash * 31) (lit< tt)) g
    ∙ ap (λ z. int_wrap w32 (z +ℤ next)) (wrapping_mul-bits w32 (cast_unsigned w32 hash) 31 (bits_below hash f) (lit< tt))
    ∙ ap (λ z. int_wrap w32 (int_wrap w32 (z *ℤ pos 31) +ℤ next)) (to_z-of_z w32 hash f)
    ∙ int_wrap-add_left w32 (hash *ℤ pos 31) next

pub summed_is : (sum key value : ℤ) → FitsSigned w32 sum → FitsSigned w32 key → FitsSigned w32 value
    → cast_signed w32 ((cast_unsigned w32 sum + bit_xor (cast_unsigned w32 key) (cast_unsigned w32 value)) % 2 ^ 32) ≡ spec.summed sum key value
summed_is sum key value f g h =
    wrapping_add-bits w32 (cast_unsigned w32 sum) (bit_xor (cast_unsigned w32 key) (cast_unsigned w32 value)) (bits_below sum f)
    (xor_lt 32 (cast_unsigned w32 key) (cast_unsigned w32 value) (bits_below key g) (bits_below value h))
    ∙ ap (λ z. int_wrap w32 (z +ℤ int_bit_xor w32 key value)) (to_z-of_z w32 sum f)
