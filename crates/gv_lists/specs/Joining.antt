-- What the rows of a list answer that make a longer one.
use Rattle.std.specs.Prelude.{ℕ, zero, suc, ℤ, List, [], ◌∷◌, ◌++◌, Option, Some, None, if◌then◌else◌}
use Rattle.gv_base.specs.declared.value.Value.{Value}
use Rattle.gv_base.specs.declared.value.Value.TheVariants.{Null, Obj}
use Rattle.gv_heap.specs.Heap.{HeapState, object_at}
use Rattle.gv_rows.specs.Reply.{Reply, just, new_list}
use Rattle.gv_rows.specs.Takes.{is_sequence}
use Rattle.gv_rows.specs.Values.{natural, sequence_at}
use Rattle.gv_lists.specs.Throwing.{negative_count}

-- what plus puts last: the elements of a List or a Range, or the value
abbrev pub added : HeapState → Value → List Value
added heap (Obj id) = if is_sequence (object_at heap id) then sequence_at heap id else Obj id ∷ []
added heap value = value ∷ []

abbrev pub plus_reply : HeapState → List Value → Value → Reply
plus_reply heap items x = new_list heap (items ++ added heap x)

-- the elements so many times
abbrev pub repeated : ℕ → List Value → List Value
repeated zero items = []
repeated (suc n) items = items ++ repeated n items

abbrev pub multiply_by : HeapState → List Value → ℤ → Option ℕ → Reply
multiply_by heap items n None = negative_count n
multiply_by heap items n (Some count) = new_list heap (repeated count items)

abbrev pub multiply_reply : HeapState → List Value → Option ℤ → Reply
multiply_reply heap items None = just heap Null
multiply_reply heap items (Some n) = multiply_by heap items n (natural n)
