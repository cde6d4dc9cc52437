-- The texts of a call, each as its bytes.
use Rattle.std.specs.Prelude.{ℕ, List, [], Option, Some}
use Rattle.gv_base.specs.declared.value.Value.{Value}
use Rattle.gv_base.specs.declared.value.Value.TheVariants.{Obj}
use Rattle.gv_heap.specs.Heap.{HeapState, object_at}
use Rattle.gv_heap.specs.declared.object.Object.{Object}
use Rattle.gv_heap.specs.declared.object.Object.TheVariants as object

-- the text of a String
abbrev pub text_of : Option Object → List ℕ
text_of (Some (object.Text text)) = text
text_of other = []

abbrev pub text_at : HeapState → ℕ → List ℕ
text_at heap id = text_of (object_at heap id)

-- the text that an argument is
abbrev pub text_in : HeapState → Value → List ℕ
text_in heap (Obj id) = text_at heap id
text_in heap value = []
