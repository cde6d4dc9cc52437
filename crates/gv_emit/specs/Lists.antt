-- The code of several statements, in order.
use Rattle.std.specs.Prelude.{ℕ, ◌+◌, List, [], ◌∷◌}
use Rattle.gv_core.specs.declared.stmt.Stmt.{Stmt}
use Rattle.gv_code.specs.Pieces.{Piece, Shape, bare, joined}
use Rattle.gv_written.specs.Written.{declares, stmt_piece}

-- each with the variables in scope that those before it declare
abbrev pub list_piece : ℕ → Shape → List Stmt → Piece
list_piece height below [] = bare []
list_piece height below (s ∷ ss) = joined (stmt_piece height below s) (list_piece (height + declares s) below ss)
