use Rattle.std.proofs.Common.{◌≡◌, ◌+◌, ◌≤◌, length}
use Rattle.gv_lex.specs.Places as spec
use Rattle.gv_lex.proofs.places.past.Given as goal

abbrev pub invariant-characters : goal.invariant-characters
invariant-characters l = record {
  value : spec.past l.here l.rest ≡ spec.past l.initial.here l.initial.rest;
  line : l.here.line + length l.rest ≤ l.initial.here.line + length l.initial.rest;
  column : l.here.column + length l.rest ≤ l.initial.here.column + length l.initial.rest;
}

abbrev pub decreases-characters : goal.decreases-characters
decreases-characters l = length l.rest
