use Rattle.std.proofs.Common.{◌≡◌, ◌++◌, drop, string_bytes}
use Rattle.gv_calls.proofs.Commas.{more_kinds}
use Rattle.gv_calls.proofs.messages.push_kinds.Given as goal

-- what is put so far, and the names that are left
abbrev pub invariant-loop-value : goal.invariant-loop-value
invariant-loop-value l = string_bytes l.text ++ more_kinds l.world (drop l.value-index l.rest) ≡ string_bytes l.initial.text ++ more_kinds l.world l.rest
