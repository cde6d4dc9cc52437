use Rattle.std.proofs.Common.{◌≡◌, drop}
use Rattle.gv_code.specs.Pieces.{joined}
use Rattle.gv_emit.specs.Lists.{list_piece}
use Rattle.gv_emit.proofs.stmts.+stmts.Given as goal

abbrev pub invariant-piece_of_all-loop-stmt : goal.invariant-piece_of_all-loop-stmt
invariant-piece_of_all-loop-stmt l = joined l.piece (list_piece l.scope l.below (drop l.stmt-index l.all)) ≡ list_piece l.height l.below l.all
