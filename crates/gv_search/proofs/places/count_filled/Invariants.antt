use Rattle.std.proofs.Common.{◌≡◌, length, ◌+◌}
use denote.Text.{Utf8}
use denote.Shadow.{shadow}
use Rattle.gv_search.specs.Texts.{count_places}
use Rattle.gv_search.proofs.places.count_filled.Given as goal

-- what was counted and what is left are all places
abbrev pub invariant-loop-found : goal.invariant-loop-found
invariant-loop-found l = shadow (Utf8 l.rest) × (l.count + count_places l.rest l.part ≡ count_places l.fn.text l.fn.part)

abbrev pub decreases-loop-found : goal.decreases-loop-found
decreases-loop-found l = length l.rest
