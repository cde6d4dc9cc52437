-- That a walk comes to an end: what is still to say has a weight, and each thing that is said takes some of it away.
use Rattle.std.proofs.Common.{◌≡◌, ℕ, zero, suc, ◌+◌, ◌<◌, ◌≤◌, List, [], ◌∷◌}
use Rattle.gv_base.specs.declared.value.Value.{Value}
use Rattle.gv_texts.specs.Texts.{pair}
use Rattle.gv_texts.specs.declared.todo.Todo.{Todo}
use Rattle.gv_texts.specs.declared.todo.Todo.TheVariants.{Mark, Piece, Inner, Lazy, Leave}

-- an entry is two values and the sign between them
abbrev pub level_weight : ℕ → ℕ
level_weight zero = 1
level_weight (suc n) = suc (suc (level_weight n + level_weight n))

abbrev pub weight_of : Todo → ℕ
weight_of (Inner n v) = level_weight n
weight_of todo = 1

abbrev pub weight : List Todo → ℕ
weight [] = 0
weight (t ∷ ts) = weight_of t + weight ts
