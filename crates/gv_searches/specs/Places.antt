-- What is removed at a place.
use Rattle.std.specs.Prelude.{ℕ, ℤ, codes, ◌++◌, length, remove, slice_get, Option, Some, None}
use Rattle.std.specs.Fmt.{decimal, signed_decimal}
use Rattle.gv_base.specs.declared.exception.ExceptionKind.TheVariants.{IndexOutOfBoundsException}
use Rattle.gv_base.specs.declared.value.Value.{Value}
use Rattle.gv_heap.specs.Heap.{HeapState, list_at, with_list}
use Rattle.gv_rows.specs.Reply.{Reply, Answers, Throws, said}
use Rattle.gv_rows.specs.Values.{natural}

-- a number that is no place of the list
abbrev pub outside : HeapState → ℕ → ℤ → Reply
outside heap id n = Throws IndexOutOfBoundsException (said (codes "Index: " ++ signed_decimal n) (codes ", Size: " ++ decimal (length (list_at heap id))))

-- the element that stands at a place goes out, and is answered
abbrev pub taken_or_outside : HeapState → ℕ → ℤ → ℕ → Option Value → Reply
taken_or_outside heap id n at (Some item) = Answers item 0 (with_list heap id (remove (list_at heap id) at))
taken_or_outside heap id n at None = outside heap id n

abbrev pub remove_place : HeapState → ℕ → ℤ → Option ℕ → Reply
remove_place heap id n (Some at) = taken_or_outside heap id n at (slice_get (list_at heap id) at)
remove_place heap id n None = outside heap id n

-- `remove` with an Integer; an object that is no list has no place
abbrev pub remove_reply : HeapState → ℕ → ℤ → Reply
remove_reply heap id n = remove_place heap id n (natural n)
