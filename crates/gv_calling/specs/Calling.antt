-- The call that each method asks for.
use Rattle.std.specs.Prelude.{◌≡◌, ◌-◌, ◌≤◌, ◌<◌, Bool, true, false, ◌&&◌, List, [], ◌∷◌, length, take, slice_get, codes, Option, Some, None, if◌then◌else◌}
use Rattle.gv_base.specs.declared.exception.ExceptionKind.TheVariants.{IllegalArgumentException}
use Rattle.gv_base.specs.declared.value.Value.{Value}
use Rattle.gv_base.specs.declared.value.Value.TheVariants.{Null, Class, Obj}
use Rattle.gv_frames.specs.Frames.{Unless}
use Rattle.gv_frames.specs.declared.called.Called.{Called}
use Rattle.gv_frames.specs.declared.called.Called.TheVariants as called
use Rattle.gv_frames.specs.declared.frame.Turn.{Turn}
use Rattle.gv_frames.specs.declared.frame.Turn.TheVariants.{Call, Done, Thrown, CellsSpent, OutOfMemory}
use Rattle.gv_frames.specs.declared.frame.WalkFrame.TheVariants.{Answer}
use Rattle.gv_heap.specs.Heap.{HeapState, object_at, pay, with_new}
use Rattle.gv_heap.specs.Prices.{closure_price}
use Rattle.gv_heap.specs.declared.closure.Closure.{Closure}
use Rattle.gv_heap.specs.declared.object.Object.{Object}
use Rattle.gv_heap.specs.declared.object.Object.TheVariants as object
use Rattle.gv_rows.specs.Reply.{said}
use Rattle.gv_rows.specs.Takes.{is_closure}

abbrev pub one_call : Value → Called → List Value → Turn
one_call receiver c args = Call Answer receiver c args

abbrev pub call_with : Value → Value → Turn
call_with closure argument = one_call closure called.Call (argument ∷ [])

-- ---- with

-- the copy of a closure; its delegate, the receiver, comes first
abbrev pub copy_for : Value → Closure → Closure
copy_for receiver c = record c { delegate = receiver; strategy = 1 }

abbrev pub Copied : HeapState → Value → Closure → Turn → HeapState → Type 0
Copied old receiver c OutOfMemory new = Unit {0}
Copied old receiver c CellsSpent new = (old.cells < closure_price c.origin) × (new ≡ old)
Copied old receiver c result new =
    (closure_price c.origin ≤ old.cells) × (new ≡ pay (with_new old (object.Closure (copy_for receiver c))) (closure_price c.origin)) × (result ≡ call_with (Obj (length old.objects)) receiver)

abbrev pub Withs : HeapState → Value → Option Object → Turn → HeapState → Type 0
Withs old receiver (Some (object.Closure c)) result new = Copied old receiver c result new
Withs old receiver other result new = (result ≡ Done Null) × (new ≡ old)

-- ---- use

abbrev pub is_class : Value → Bool
is_class (Class c) = true
is_class v = false

abbrev pub are_classes : List Value → Bool
are_classes [] = true
are_classes (v ∷ vs) = is_class v && are_classes vs

abbrev pub is_list_of_classes : Option Object → Bool
is_list_of_classes (Some (object.List vs)) = are_classes vs
is_list_of_classes other = false

-- classes, maybe none, or one list of classes
abbrev pub opens : HeapState → List Value → Bool
opens heap (Obj id ∷ []) = is_list_of_classes (object_at heap id)
opens heap vs = are_classes vs

abbrev pub closure_at : HeapState → Value → Bool
closure_at heap (Obj id) = is_closure (object_at heap id)
closure_at heap v = false

abbrev pub ends_with_closure : HeapState → Option Value → Bool
ends_with_closure heap (Some v) = closure_at heap v
ends_with_closure heap None = false

-- these, and then a closure
abbrev pub takes : HeapState → List Value → Bool
takes heap args = ends_with_closure heap (slice_get args (length args - 1)) && opens heap (take (length args - 1) args)

abbrev pub bad_arguments : Turn
bad_arguments = Thrown IllegalArgumentException (said (codes "Bad arguments: ") (codes "use"))

abbrev pub used : HeapState → Value → List Value → Turn
used heap receiver args = if takes heap args then one_call receiver called.Use args else bad_arguments

abbrev pub Uses : HeapState → Value → List Value → Turn → Type 0
Uses heap receiver args result = Unless result (result ≡ used heap receiver args)
