-- What a call of a built-in method does that calls no script code.
use Rattle.std.specs.Prelude.{◌≡◌, ℕ, ◌<◌, ◌≤◌, List, length, Option, Some, codes, ◌++◌, Bool, if◌then◌else◌}
use Rattle.gv_base.specs.declared.exception.ExceptionKind.{ExceptionKind}
use Rattle.gv_base.specs.declared.exception.ExceptionKind.TheVariants.{IllegalArgumentException, UnsupportedOperationException}
use Rattle.gv_base.specs.declared.value.Value.{Value}
use Rattle.gv_base.specs.declared.value.Value.TheVariants.{Obj}
use Rattle.gv_heap.specs.Heap.{HeapState, pay, with_new}
use Rattle.gv_heap.specs.Prices.{filled_price, text_price}
use Rattle.gv_heap.specs.declared.object.Object.TheVariants.{Text as TextObject, List as ListObject}
use Rattle.gv_rows.specs.declared.done.Done.{Done}
use Rattle.gv_rows.specs.declared.done.Done.TheVariants as done

-- it answers a value and leaves the heap so, once its price in cells is paid; or it throws, and changes nothing
pub data Reply : Type 0 where
  Answers : (value : Value) (price : ℕ) (heap : HeapState) → Reply
  Throws : (kind : ExceptionKind) (message : Option (List ℕ)) → Reply

-- the price is asked as a whole: a call that can't pay does nothing. Want of memory may leave more in the heap.
abbrev pub Did : HeapState → Reply → Done → HeapState → Type 0
Did old (Answers value price heap) (done.Value v) new = (price ≤ old.cells) × (v ≡ value) × (new ≡ pay heap price)
Did old (Answers value price heap) done.CellsSpent new = (old.cells < price) × (new ≡ old)
Did old (Throws kind message) (done.Thrown k m) new = (k ≡ kind) × (m ≡ message) × (new ≡ old)
Did old reply done.OutOfMemory new = Unit {0}
Did old reply result new = ⊥

-- it throws, whatever the heap is
abbrev pub DoesThrow : ExceptionKind → Option (List ℕ) → Done → Type 0
DoesThrow kind message result = (heap : HeapState) → Did heap (Throws kind message) result heap

-- ---- what all rows have in common

-- a value, and nothing is made
abbrev pub just : HeapState → Value → Reply
just heap value = Answers value 0 heap

-- a new String, a new List
abbrev pub new_text : HeapState → List ℕ → Reply
new_text heap text = Answers (Obj (length heap.objects)) (text_price text) (with_new heap (TextObject text))

abbrev pub new_list : HeapState → List Value → Reply
new_list heap elements = Answers (Obj (length heap.objects)) (filled_price elements) (with_new heap (ListObject elements))

-- a text of two parts
abbrev pub said : List ℕ → List ℕ → Option (List ℕ)
said front rest = Some (front ++ rest)

-- where null is given for a kind, the row does nothing else
abbrev pub unless_null : List ℕ → Bool → Reply → Reply
unless_null name is_null reply = if is_null then Throws IllegalArgumentException (said (codes "Null argument: ") name) else reply

-- a row that writes does nothing on a range
abbrev pub unless_range : List ℕ → Bool → Reply → Reply
unless_range name is_range reply = if is_range then Throws UnsupportedOperationException (said name (codes "() on a range")) else reply
