use Rattle.std.proofs.Common.{◌<◌, ℕ, length, get_or}
use Rattle.std.specs.Str.{chars}
use Rattle.value_tests.proofs.chars.at_places.Given as goal

abbrev pub invariant-loop-place : goal.invariant-loop-place
invariant-loop-place l = (k : ℕ) → k < l.place-index → get_or l.places k 0 < length (chars l.text)
