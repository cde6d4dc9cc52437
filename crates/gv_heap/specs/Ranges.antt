-- The ranges that can be made.
use Rattle.std.specs.Prelude.{◌≡◌, ℕ, ◌+◌, ◌≤◌, ℤ, ◌-ℤ◌, Bool, false, FitsSigned, if◌then◌else◌}
use Rattle.std.specs.Int.{w32}
use Rattle.std.specs.Int.RustNames.{unsigned_abs}

-- a range, as contracts see it
pub record RangeState : Type 0 where
  pub first : ℤ
  pub last : ℤ
  pub open_end : Bool
  pub long : Bool

-- how many elements a range has: up or down to its last, which an open end leaves out
abbrev pub range_size : ℤ → ℤ → Bool → ℕ
range_size first last open_end = unsigned_abs (last -ℤ first) + (if open_end then 0 else 1)

-- a range has no more elements than an Integer can count, and one of Integers ends in Integers
pub record IsRange (first last : ℤ) (open_end long : Bool) : Type 0 where
  pub size : range_size first last open_end ≤ 2147483647
  pub first_fits : long ≡ false → FitsSigned w32 first
  pub last_fits : long ≡ false → FitsSigned w32 last
