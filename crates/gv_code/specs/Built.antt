-- Code while it is written.
use Rattle.std.specs.Prelude.{List, [], ◌∷◌, ◌++◌}
use Rattle.gv_code.specs.declared.code.OperandKind.TheVariants.{Value as V}
use Rattle.gv_code.specs.declared.code.Body.{Body}
use Rattle.gv_code.specs.declared.code.Code.{Code}
use Rattle.gv_code.specs.declared.piece.Item.{Item}
use Rattle.gv_code.specs.Pieces.{Shape}

-- the bodies that are done, and of the next one the items so far, behind which these operands lie on the stack
pub record Built : Type 0 where
  pub bodies : List Body
  pub items : List Item
  pub shape : Shape

abbrev pub nothing : Built
nothing = record { bodies = []; items = []; shape = [] }

-- items that leave one value more
abbrev pub with_value : List Item → Built → Built
with_value items b = record { bodies = b.bodies; items = b.items ++ items; shape = V ∷ b.shape }

abbrev pub with_body : Body → Built → Built
with_body body b = record { bodies = b.bodies ++ body ∷ []; items = b.items; shape = b.shape }

-- the run starts with the first body
abbrev pub finished : Built → Code
finished b = record { bodies = b.bodies; methods = []; start = 0 }
