use Rattle.std.proofs.Common.{◌≡◌, ◌++◌, length, drop}
use Rattle.gv_meaning.specs.Opening.{with_literals, numbered}
use Rattle.gv_meaning.proofs.open.make_literals.Given as goal

-- the texts that are left decide
abbrev pub invariant-loop-text : goal.invariant-loop-text
invariant-loop-text l = record {
  numbers : l.literals.items ++ numbered (length l.heap.objects) (drop l.text-index l.texts) ≡ numbered (length l.initial.heap.objects) l.texts;
  strings : with_literals l.names (drop l.text-index l.texts) l.heap ≡ with_literals l.names l.texts l.initial.heap;
}
