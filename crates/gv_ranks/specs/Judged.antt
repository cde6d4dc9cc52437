-- Which keys have an order among themselves.
use Rattle.std.specs.Prelude.{Bool, true, false, List, [], ◌∷◌, Option, Some, if◌then◌else◌}
use Rattle.gv_base.specs.declared.value.Value.{Value}
use Rattle.gv_base.specs.declared.value.Value.TheVariants.{Null, Bool as Truth, Int, Long, Class, Obj}
use Rattle.gv_heap.specs.Heap.{HeapState, object_at}
use Rattle.gv_heap.specs.declared.object.Object.{Object}
use Rattle.gv_heap.specs.declared.object.Object.TheVariants as object
use Rattle.gv_rows.specs.Values.{class_of}
use Rattle.gv_ranks.specs.declared.judged.Judged.{Judged}
use Rattle.gv_ranks.specs.declared.judged.Judged.TheVariants.{Orders, Bars}
use Rattle.gv_ranks.specs.declared.judged.Keyed.{Keyed}
use Rattle.gv_ranks.specs.declared.judged.Kind.{Kind}
use Rattle.gv_ranks.specs.declared.judged.Kind.TheVariants as kind

-- ---- what keys are

abbrev pub object_kind : Option Object → Kind
object_kind (Some (object.Text text)) = kind.Text
object_kind (Some (object.GString parts)) = kind.Text
object_kind other = kind.Unordered

abbrev pub kind_of : HeapState → Value → Kind
kind_of heap Null = kind.Null
kind_of heap (Truth b) = kind.Truth
kind_of heap (Int n) = kind.Number
kind_of heap (Long n) = kind.Number
kind_of heap (Class c) = kind.Unordered
kind_of heap (Obj id) = object_kind (object_at heap id)

abbrev pub is_null : Value → Bool
is_null Null = true
is_null v = false

-- what may stand beside a first key of a kind: null, and its own kind where that has an order
abbrev pub fits : Kind → Kind → Bool
fits first kind.Null = true
fits kind.Number kind.Number = true
fits kind.Text kind.Text = true
fits kind.Truth kind.Truth = true
fits first other = false

-- ---- whether they can be ordered

-- the first key that may not stand beside `first` bars it
abbrev pub judged_beside : HeapState → Value → List Keyed → Judged
judged_beside heap first [] = Orders
judged_beside heap first (k ∷ ks) = if fits (kind_of heap first) (kind_of heap k.key) then judged_beside heap first ks else Bars (class_of heap first) (class_of heap k.key)

-- the first key that isn't null has to have an order itself, and all behind it have to fit it
abbrev pub judged : HeapState → List Keyed → Judged
judged heap [] = Orders
judged heap (k ∷ ks) = if is_null k.key then judged heap ks else judged_beside heap k.key (k ∷ ks)
