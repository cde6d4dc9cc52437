-- What the rows of a string answer that are numbers and Booleans. No object is made.
use Rattle.std.specs.Prelude.{ℕ, ℤ, pos, negsuc, ◌-◌, ◌^◌, ◌==◌, List, length, Option, Some, None}
use Rattle.std.specs.Str.{chars}
use Rattle.gv_base.specs.declared.value.Value.{Value}
use Rattle.gv_base.specs.declared.value.Value.TheVariants.{Bool as Truth, Int, Long}
use Rattle.gv_chars.specs.Chars as char
use Rattle.gv_heap.specs.Heap.{HeapState}
use Rattle.gv_rows.specs.Reply.{Reply, just}
use Rattle.gv_rows.specs.Values.{integer_of}
use Rattle.gv_search.specs.Texts as search
use Rattle.gv_strings.specs.Throwing.{no_number}

-- ---- how many characters there are

abbrev pub size_reply : HeapState → List ℕ → Reply
size_reply heap text = just heap (integer_of (length (chars text)))

abbrev pub empty_reply : HeapState → List ℕ → Reply
empty_reply heap text = just heap (Truth (length text == 0))

-- ---- where a part stands

abbrev pub contains_reply : HeapState → List ℕ → List ℕ → Reply
contains_reply heap text part = just heap (Truth (search.contains text part))

abbrev pub starts_reply : HeapState → List ℕ → List ℕ → Reply
starts_reply heap text part = just heap (Truth (search.starts_with text part))

abbrev pub ends_reply : HeapState → List ℕ → List ℕ → Reply
ends_reply heap text part = just heap (Truth (search.ends_with text part))

-- a place, or -1
abbrev pub place_value : Option ℕ → Value
place_value None = Int (negsuc 0)
place_value (Some at) = integer_of at

abbrev pub index_reply : HeapState → List ℕ → List ℕ → Reply
index_reply heap text part = just heap (place_value (search.first_place text part))

abbrev pub last_index_reply : HeapState → List ℕ → List ℕ → Reply
last_index_reply heap text part = just heap (place_value (search.last_place text part))

abbrev pub count_reply : HeapState → List ℕ → List ℕ → Reply
count_reply heap text part = just heap (integer_of (search.count_places text part))

-- ---- order

abbrev pub compare_reply : HeapState → List ℕ → List ℕ → Reply
compare_reply heap text other = just heap (Int (char.compared (chars text) (chars other)))

-- ---- numbers

-- the number of 32, or 64, bits that the trimmed text writes
abbrev pub integer_in : List ℕ → Option ℤ
integer_in text = char.integer_in (negsuc (2 ^ 31 - 1)) (pos (2 ^ 31 - 1)) (chars text)

abbrev pub long_in : List ℕ → Option ℤ
long_in text = char.integer_in (negsuc (2 ^ 63 - 1)) (pos (2 ^ 63 - 1)) (chars text)

abbrev pub integer_or : HeapState → List ℕ → Option ℤ → Reply
integer_or heap text None = no_number text
integer_or heap text (Some n) = just heap (Int n)

abbrev pub long_or : HeapState → List ℕ → Option ℤ → Reply
long_or heap text None = no_number text
long_or heap text (Some n) = just heap (Long n)

abbrev pub integer_reply : HeapState → List ℕ → Reply
integer_reply heap text = integer_or heap text (integer_in text)

abbrev pub long_reply : HeapState → List ℕ → Reply
long_reply heap text = long_or heap text (long_in text)
