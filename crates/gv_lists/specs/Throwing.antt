-- What rows of lists throw themselves.
use Rattle.std.specs.Prelude.{ℕ, ℤ, List, codes, ◌++◌}
use Rattle.std.specs.Fmt.{decimal, signed_decimal}
use Rattle.gv_base.specs.declared.exception.ExceptionKind.TheVariants.{IllegalArgumentException, IndexOutOfBoundsException, NoSuchElementException}
use Rattle.gv_rows.specs.Reply.{Reply, Throws, said}

-- a place out of bounds, as it was given, among so many elements
abbrev pub outside : ℤ → ℕ → Reply
outside at size = Throws IndexOutOfBoundsException (said (codes "Index: " ++ signed_decimal at) (codes ", Size: " ++ decimal size))

-- an element of an empty list is asked for
abbrev pub of_empty : List ℕ → Reply
of_empty name = Throws NoSuchElementException (said name (codes "() of an empty list"))

-- a count below 0
abbrev pub negative_count : ℤ → Reply
negative_count n = Throws IllegalArgumentException (said (codes "Negative count: ") (signed_decimal n))

-- an item of the places to read is no number
abbrev pub bad_places : Reply
bad_places = Throws IllegalArgumentException (said (codes "Bad arguments: ") (codes "getAt"))
