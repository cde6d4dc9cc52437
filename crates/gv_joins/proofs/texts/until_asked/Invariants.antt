use Rattle.std.proofs.Common.{◌≡◌, length, string_bytes}
use Rattle.gv_joins.specs.Texts.{until_asked}
use Rattle.gv_joins.proofs.texts.until_asked.Given as goal

abbrev pub invariant-loop-value : goal.invariant-loop-value
invariant-loop-value l = until_asked l.names l.classes l.heap l.separator l.source (string_bytes l.text) ≡ until_asked l.names l.classes l.heap l.fn.separator l.fn.source (string_bytes l.fn.text)

abbrev pub decreases-loop-value : goal.decreases-loop-value
decreases-loop-value l = length l.source
