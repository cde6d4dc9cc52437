-- A count of faults, which ends at 2^64 - 1.
use Rattle.std.specs.Prelude.{◌≡◌, ℕ, ◌+◌, ◌^◌, ◌-◌, ◌<◌, ◌≤◌, min, Result, MatchResult}

-- what a count is after one more fault
abbrev pub one_more : ℕ → ℕ
one_more count = min (count + 1) (2 ^ 64 - 1)

-- the count rose, or stands at its end
abbrev pub HasRisen : ℕ → ℕ → Type 0
HasRisen old new = (old ≤ new) × (one_more old ≤ new) × (new < 2 ^ 64)

-- it did neither
abbrev pub IsSteady : ℕ → ℕ → Type 0
IsSteady old new = new < one_more old

-- a call failed only where the count rose, and else left it
abbrev pub HasCause : {T E : Type 0} → ℕ → ℕ → Result T E → Type 0
HasCause old new result = MatchResult result (λ _. new ≡ old) (λ _. HasRisen old new)
