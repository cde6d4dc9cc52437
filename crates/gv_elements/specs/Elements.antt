-- Elements that are still to come.
use Rattle.std.specs.Prelude.{ℕ, suc, ℤ, pos, ◌-ℤ◌, int_lt, Bool, true, false, List, [], map, Option, Some, None, if◌then◌else◌}
use Rattle.std.specs.Int.RustNames.{unsigned_abs}
use Rattle.gv_base.specs.declared.value.Value.{Value}
use Rattle.gv_base.specs.declared.value.Value.TheVariants.{Int, Long}
use Rattle.gv_rows.specs.Values.{numbers}
use Rattle.gv_elements.specs.declared.elements.Source.{Source}
use Rattle.gv_elements.specs.declared.elements.Source.TheVariants.{Held, Ints, Longs}

-- the numbers from a first to a last one, up or down; none where the last one lies on the other side
abbrev pub between : ℤ → ℤ → Bool → List ℤ
between first last down = if (if down then int_lt first last else int_lt last first) then [] else numbers (suc (unsigned_abs (last -ℤ first))) down first

abbrev pub from : Option ℤ → ℤ → Bool → List ℤ
from None last down = []
from (Some next) last down = between next last down

abbrev pub elements_from : Source → List Value
elements_from (Held values) = values
elements_from (Ints next last down) = map Int (from next last down)
elements_from (Longs next last down) = map Long (from next last down)

-- the numbers between two; Longs where one of the two is a Long
abbrev pub values_between : Value → Value → Bool → List Value
values_between (Int first) (Int last) down = map Int (between first last down)
values_between (Int first) (Long last) down = map Long (between first last down)
values_between (Long first) (Int last) down = map Long (between first last down)
values_between (Long first) (Long last) down = map Long (between first last down)
values_between first last down = []
