-- What the rows of a string answer that are new Strings of all its characters, or of more.
use Rattle.std.specs.Prelude.{ℕ, ℤ, ◌==◌, List, codes, encode_utf8_all, length, reverse, unwrap_or, Option, Some, None, if◌then◌else◌}
use Rattle.std.specs.Str.{chars}
use Rattle.gv_base.specs.declared.value.Value.TheVariants.{Null}
use Rattle.gv_chars.specs.Chars as char
use Rattle.gv_heap.specs.Heap.{HeapState}
use Rattle.gv_rows.specs.Reply.{Reply, just, new_text}
use Rattle.gv_rows.specs.Values.{natural}
use Rattle.gv_search.specs.Texts.{replaced}
use Rattle.gv_strings.specs.Throwing.{empty_padding, negative_count}

-- a new String of these characters
abbrev pub new_chars : HeapState → List ℕ → Reply
new_chars heap cs = new_text heap (encode_utf8_all cs)

abbrev pub trim_reply : HeapState → List ℕ → Reply
trim_reply heap text = new_chars heap (char.trimmed (chars text))

abbrev pub reverse_reply : HeapState → List ℕ → Reply
reverse_reply heap text = new_chars heap (reverse (chars text))

abbrev pub replace_reply : HeapState → List ℕ → List ℕ → List ℕ → Reply
replace_reply heap text part other = new_text heap (replaced text part other)

-- ---- the text so many times

abbrev pub multiply_by : HeapState → List ℕ → ℤ → Option ℕ → Reply
multiply_by heap text n None = negative_count n
multiply_by heap text n (Some count) = new_chars heap (char.repeated count (chars text))

abbrev pub multiply_reply : HeapState → List ℕ → Option ℤ → Reply
multiply_reply heap text None = just heap Null
multiply_reply heap text (Some n) = multiply_by heap text n (natural n)

-- ---- made longer

abbrev pub blank : List ℕ
blank = codes " "

-- the size that a number means: none where it is negative
abbrev pub size_of : ℤ → ℕ
size_of n = unwrap_or (natural n) 0

abbrev pub left_by : HeapState → List ℕ → ℕ → List ℕ → Reply
left_by heap text size unit =
    if length unit == 0 then empty_padding else new_chars heap (char.padded_left size (chars unit) (chars text))

abbrev pub right_by : HeapState → List ℕ → ℕ → List ℕ → Reply
right_by heap text size unit =
    if length unit == 0 then empty_padding else new_chars heap (char.padded_right size (chars unit) (chars text))

abbrev pub left_reply : HeapState → List ℕ → Option ℤ → List ℕ → Reply
left_reply heap text None unit = just heap Null
left_reply heap text (Some n) unit = left_by heap text (size_of n) unit

abbrev pub right_reply : HeapState → List ℕ → Option ℤ → List ℕ → Reply
right_reply heap text None unit = just heap Null
right_reply heap text (Some n) unit = right_by heap text (size_of n) unit
