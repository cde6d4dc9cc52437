use Rattle.std.proofs.Common.{◌≡◌, string_bytes}
use Rattle.gv_texts.specs.Texts.{until_asked}
use Rattle.gv_texts.proofs.Weights.{weight}
use Rattle.gv_texts.proofs.walk.until_asked.Given as goal

abbrev pub invariant-loop-next : goal.invariant-loop-next
invariant-loop-next l = until_asked l.names l.classes l.heap l.todo (string_bytes l.text) l.inside ≡ until_asked l.names l.classes l.heap l.fn.todo (string_bytes l.fn.text) l.fn.inside

abbrev pub decreases-loop-next : goal.decreases-loop-next
decreases-loop-next l = weight l.todo
