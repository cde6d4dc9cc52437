use Rattle.std.proofs.Common.{◌≡◌, ◌++◌, length, string_bytes}
use denote.Text.{Utf8}
use denote.Shadow.{shadow}
use Rattle.gv_search.specs.Texts as spec
use Rattle.gv_search.proofs.rewrite.replaced_filled.Given as goal

-- what was written and what is left make up the whole
abbrev pub invariant-loop-before : goal.invariant-loop-before
invariant-loop-before l = shadow (Utf8 l.rest) × (string_bytes l.new ++ spec.replaced l.rest l.part l.with ≡ spec.replaced l.fn.text l.fn.part l.fn.with)

abbrev pub decreases-loop-before : goal.decreases-loop-before
decreases-loop-before l = length l.rest
