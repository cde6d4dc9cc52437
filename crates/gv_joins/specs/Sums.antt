-- The sum of elements.
use Rattle.std.specs.Prelude.{List, [], ◌∷◌}
use Rattle.gv_base.specs.declared.value.Value.{Value}
use Rattle.gv_base.specs.declared.value.Value.TheVariants.{Null}
use Rattle.gv_joins.specs.declared.join.Join.TheVariants.{Sum}
use Rattle.gv_joins.specs.declared.join.Outcome.{Outcome}
use Rattle.gv_joins.specs.declared.join.Outcome.TheVariants.{Adds, Answers}

-- what was summed is asked `plus` of the next element; where there is none, it is the answer
abbrev pub added : Value → List Value → Outcome
added sum [] = Answers sum
added sum (v ∷ vs) = Adds (Sum vs) sum v

-- of no elements null; else the first element, and to it those behind it
abbrev pub sum : List Value → Outcome
sum [] = Answers Null
sum (v ∷ vs) = added v vs
