-- The code of several expressions, in order.
use Rattle.std.specs.Prelude.{ℕ, List, [], ◌∷◌, ◌++◌}
use Rattle.gv_core.specs.declared.expr.Expr.{Expr}
use Rattle.gv_code.specs.declared.code.OperandKind.TheVariants.{Value as V}
use Rattle.gv_code.specs.declared.piece.Item.{Item}
use Rattle.gv_code.specs.Pieces.{Shape}
use Rattle.gv_written.specs.Written.{expr_items}

-- each leaves its value below the next
abbrev pub list_items : ℕ → Shape → List Expr → List Item
list_items height below [] = []
list_items height below (e ∷ es) = expr_items height below e ++ list_items height (V ∷ below) es
