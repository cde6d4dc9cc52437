use Rattle.std.proofs.Common.{◌≡◌}
use Rattle.gv_lists.specs.Joining.{repeated}
use Rattle.gv_lists.proofs.joining.repeat.Given as goal

abbrev pub invariant-loop : goal.invariant-loop
invariant-loop l = l.all.items ≡ repeated l.counter l.items
