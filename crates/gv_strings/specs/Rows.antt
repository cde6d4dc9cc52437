-- What a call of a row of String does.
use Rattle.std.specs.Prelude.{◌≡◌, ℕ, true, List, [], ◌∷◌, codes, bytes_eq, if◌then◌else◌}
use Rattle.gv_base.specs.declared.value.Value.{Value}
use Rattle.gv_base.specs.declared.value.Value.TheVariants.{Null, Obj}
use Rattle.gv_heap.specs.Heap.{HeapState, object_at}
use Rattle.gv_natives.specs.Table.{Method}
use Rattle.gv_rows.specs.Reply.{Reply, just, unless_null}
use Rattle.gv_rows.specs.Takes.{is_text, lacks_one}
use Rattle.gv_rows.specs.Values.{number_in}
use Rattle.gv_strings.specs.Lists.{blanks, chars_reply, tokens_reply}
use Rattle.gv_strings.specs.Making.{blank, left_reply, multiply_reply, replace_reply, reverse_reply, right_reply, trim_reply}
use Rattle.gv_strings.specs.Parts.{get_reply, part_reply, rest_reply}
use Rattle.gv_strings.specs.Reading.{compare_reply, contains_reply, count_reply, empty_reply, ends_reply, index_reply, integer_reply, last_index_reply, long_reply, size_reply, starts_reply}
use Rattle.gv_strings.specs.Texts.{text_at, text_in}

-- ---- the receiver

-- a String that is there
abbrev pub IsReceiver : HeapState → Value → Type 0
IsReceiver heap (Obj id) = is_text (object_at heap id) ≡ true
IsReceiver heap value = ⊥

-- the number of the object that a value is
abbrev pub object_of : Value → ℕ
object_of (Obj id) = id
object_of value = 0

-- ---- the rows by their names

-- without an argument
abbrev pub row_alone : HeapState → List ℕ → List ℕ → Reply
row_alone heap name text =
    if bytes_eq name (codes "length") then size_reply heap text
    else if bytes_eq name (codes "size") then size_reply heap text
    else if bytes_eq name (codes "isEmpty") then empty_reply heap text
    else if bytes_eq name (codes "tokenize") then tokens_reply heap text blanks
    else if bytes_eq name (codes "trim") then trim_reply heap text
    else if bytes_eq name (codes "reverse") then reverse_reply heap text
    else if bytes_eq name (codes "toList") then chars_reply heap text
    else if bytes_eq name (codes "toInteger") then integer_reply heap text
    else if bytes_eq name (codes "toLong") then long_reply heap text
    else just heap Null

-- with one argument
abbrev pub row_with : HeapState → List ℕ → List ℕ → Value → Reply
row_with heap name text x =
    if bytes_eq name (codes "multiply") then multiply_reply heap text (number_in x)
    else if bytes_eq name (codes "getAt") then get_reply heap text x
    else if bytes_eq name (codes "contains") then contains_reply heap text (text_in heap x)
    else if bytes_eq name (codes "startsWith") then starts_reply heap text (text_in heap x)
    else if bytes_eq name (codes "endsWith") then ends_reply heap text (text_in heap x)
    else if bytes_eq name (codes "indexOf") then index_reply heap text (text_in heap x)
    else if bytes_eq name (codes "lastIndexOf") then last_index_reply heap text (text_in heap x)
    else if bytes_eq name (codes "substring") then rest_reply heap text (number_in x)
    else if bytes_eq name (codes "count") then count_reply heap text (text_in heap x)
    else if bytes_eq name (codes "tokenize") then tokens_reply heap text (text_in heap x)
    else if bytes_eq name (codes "padLeft") then left_reply heap text (number_in x) blank
    else if bytes_eq name (codes "padRight") then right_reply heap text (number_in x) blank
    else if bytes_eq name (codes "compareTo") then compare_reply heap text (text_in heap x)
    else just heap Null

-- with two arguments
abbrev pub row_with_two : HeapState → List ℕ → List ℕ → Value → Value → Reply
row_with_two heap name text x y =
    if bytes_eq name (codes "substring") then part_reply heap text (number_in x) (number_in y)
    else if bytes_eq name (codes "replace") then replace_reply heap text (text_in heap x) (text_in heap y)
    else if bytes_eq name (codes "padLeft") then left_reply heap text (number_in x) (text_in heap y)
    else if bytes_eq name (codes "padRight") then right_reply heap text (number_in x) (text_in heap y)
    else just heap Null

abbrev pub row_reply : HeapState → List ℕ → List ℕ → List Value → Reply
row_reply heap name text [] = row_alone heap name text
row_reply heap name text (x ∷ []) = row_with heap name text x
row_reply heap name text (x ∷ y ∷ more) = row_with_two heap name text x y

-- null arguments first, then the row's own conditions
abbrev pub string_reply : HeapState → Method → ℕ → List Value → Reply
string_reply heap row id args = unless_null row.name (lacks_one row args) (row_reply heap row.name (text_at heap id) args)
