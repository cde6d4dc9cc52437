-- What a row of Map does that takes a key.
use Rattle.std.specs.Prelude.{ℕ, List, codes, Option, Some, None}
use Rattle.gv_base.specs.declared.exception.ExceptionKind.TheVariants.{UnsupportedOperationException}
use Rattle.gv_base.specs.declared.value.Value.{Value}
use Rattle.gv_classes.specs.declared.declared.Declared.{Declared}
use Rattle.gv_heap.specs.Heap.{HeapState}
use Rattle.gv_heap.specs.declared.key.MapKey.{MapKey}
use Rattle.gv_rows.specs.Reply.{Reply, Throws, said}
use Rattle.gv_rows.specs.Values.{class_of, class_text, key_of}

-- what a value throws that can't be a key
abbrev pub no_key : List (List ℕ) → List Declared → HeapState → Value → Reply
no_key names classes heap x = Throws UnsupportedOperationException (said (codes "Map key of class ") (class_text names classes (class_of heap x)))

abbrev pub for_key : Option MapKey → Reply → (MapKey → Reply) → Reply
for_key None throws reply = throws
for_key (Some key) throws reply = reply key

-- a row that takes the value x as a key, by what it does with the key
abbrev pub with_key : List (List ℕ) → List Declared → HeapState → Value → (MapKey → Reply) → Reply
with_key names classes heap x reply = for_key (key_of names classes heap x) (no_key names classes heap x) reply
