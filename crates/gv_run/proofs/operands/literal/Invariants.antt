use Rattle.std.proofs.Common.{◌≡◌, drop}
use Rattle.gv_meaning.specs.World.{literal_in}
use Rattle.gv_run.proofs.operands.literal.Given as goal

abbrev pub invariant-loop-l : goal.invariant-loop-l
invariant-loop-l l = literal_in (drop l.l-index l.literals) l.text ≡ literal_in l.literals l.text
