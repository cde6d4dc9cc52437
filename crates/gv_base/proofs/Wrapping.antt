-- Quotients and shifts to the left, as whole numbers that wrap.
use Rattle.std.proofs.Common.{◌≡◌, ℕ, zero, suc, ◌%◌, ◌^◌, ◌<◌, ◌≤◌, ℤ, pos, negsuc, ◌*ℤ◌, neg_ℤ, w8, w16, w32, w64, refl, ap, sym, ◌∙◌, lit<, arith}
use Rattle.std.specs.Int.{Width, w128, int_wrap, int_wrapping_div, int_shl, cast_signed, cast_unsigned}
use Rattle.std.specs.Int.RustNames.{int_div, unsigned_abs, FitsSigned}
use Rattle.std.proofs.lemmas.Int.{wrapping_mul-bits, int_wrap-mul_right, to_z-of_z}
use Rattle.std.proofs.Math.Nat.{div-le_self, mod-eq_of_lt}
use Rattle.std.proofs.Math.Pow.{pow-lt}
use Rattle.std.proofs.Math.Facts.{Fits-lt-pow, Fits-of_z}
use lib.Signed.{nat_abs-le}
use mir.Val.{bits, hbits}

-- what is not too far from 0 is wrapped by its bits
bits_wrap : (w : Width) (z : ℤ) → unsigned_abs z < 2 ^ bits w → cast_signed w (cast_unsigned w z) ≡ int_wrap w z
unfolding int_wrap
bits_wrap w (pos n) h = ap (cast_signed w) (sym (mod-eq_of_lt h))
bits_wrap w (negsuc n) h = let e : n % 2 ^ bits w ≡ n = mod-eq_of_lt (omega arith) in ap (cast_signed w) (omega arith)

abs_neg : (n : ℕ) → unsigned_abs (neg_ℤ (pos n)) ≡ n
abs_neg zero = refl
abs_neg (suc n) = refl

abs_quotient : (a b : ℤ) → unsigned_abs (int_div a b) ≤ unsigned_abs a
abs_quotient (pos a) (pos b) = div-le_self a b
abs_quotient (pos a) (negsuc b) = rw abs_neg (div-le_self a (suc b))
abs_quotient (negsuc a) (pos b) = rw abs_neg (div-le_self (suc a) b)
abs_quotient (negsuc a) (negsuc b) = div-le_self (suc a) (suc b)

half_below : (w : Width) → hbits w < bits w
half_below w8 = lit< tt
half_below w16 = lit< tt
half_below w32 = lit< tt
half_below w64 = lit< tt
half_below w128 = lit< tt

abs_fits : (w : Width) (z : ℤ) → FitsSigned w z → unsigned_abs z < 2 ^ bits w
abs_fits w z f = let le = nat_abs-le z f.sfits in let lt = pow-lt (half_below w) in omega arith

pub quotient_wraps : (w : Width) (a b : ℤ) → FitsSigned w a → int_wrapping_div w a b ≡ int_wrap w (int_div a b)
quotient_wraps w a b f = let small = abs_fits w a f in let le = abs_quotient a b in bits_wrap w (int_div a b) (omega arith)

pub shl_wraps : (w : Width) (a : ℤ) (k : ℕ) → FitsSigned w a → k < bits w → int_shl w a k ≡ int_wrap w (a *ℤ pos (2 ^ k))
shl_wraps w a k f h =
    let small : 2 ^ k < 2 ^ bits w = pow-lt h in
    wrapping_mul-bits w (cast_unsigned w a) (2 ^ k) (Fits-lt-pow (Fits-of_z f)) small
    ∙ ap (λ x. int_wrap w (x *ℤ cast_signed w (2 ^ k))) (to_z-of_z w a f)
    ∙ ap (λ x. int_wrap w (a *ℤ x)) (bits_wrap w (pos (2 ^ k)) small)
    ∙ int_wrap-mul_right w a (pos (2 ^ k))
