use Rattle.std.proofs.Common.{◌≡◌, drop}
use Rattle.gv_loose.specs.Loose.{first_statement}
use Rattle.gv_loose.proofs.loose.first_statement.Given as goal

abbrev pub invariant-loop-top : goal.invariant-loop-top
invariant-loop-top l = first_statement (drop l.top-index l.tops) ≡ first_statement l.tops
