use Rattle.std.proofs.Common.{◌≡◌, drop}
use Rattle.gv_meaning.specs.Calls.{row_in}
use Rattle.gv_calls.proofs.rows.row_for.Given as goal

-- the kinds that are left decide
abbrev pub invariant-loop-kind : goal.invariant-loop-kind
invariant-loop-kind l = row_in (drop l.kind-index l.kinds) l.name l.arguments ≡ row_in l.kinds l.name l.arguments
