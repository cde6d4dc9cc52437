use Rattle.std.proofs.Common.{◌≡◌, drop, map, string_bytes}
use Rattle.gv_words.specs.Words as spec
use Rattle.gv_words.proofs.words.read.Given as goal

-- the words that are left decide
abbrev pub invariant-loop-place : goal.invariant-loop-place
invariant-loop-place l =
    spec.read l.asked l.place (map string_bytes (drop l.place l.words)) ≡
    spec.read spec.nothing 0 (map string_bytes l.words)
