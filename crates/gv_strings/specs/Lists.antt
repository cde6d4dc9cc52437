-- What the rows of a string answer that are Lists of new Strings.
use Rattle.std.specs.Prelude.{ℕ, ◌+◌, List, [], ◌∷◌, ◌++◌, codes, encode_utf8_all, length, map}
use Rattle.std.specs.Str.{chars}
use Rattle.gv_base.specs.declared.value.Value.{Value}
use Rattle.gv_base.specs.declared.value.Value.TheVariants.{Obj}
use Rattle.gv_chars.specs.Chars as char
use Rattle.gv_heap.specs.Heap.{HeapState, pay, with_new}
use Rattle.gv_heap.specs.Prices.{text_price}
use Rattle.gv_heap.specs.declared.object.Object.TheVariants.{Text as TextObject, List as ListObject}
use Rattle.gv_rows.specs.Reply.{Reply, Answers}

-- ---- a List of new Strings

-- the heap with these Strings more, in order
abbrev pub with_texts : HeapState → List (List ℕ) → HeapState
with_texts heap texts = record heap { objects = heap.objects ++ map TextObject texts }

-- their numbers, from the first on
abbrev pub numbered : ℕ → List (List ℕ) → List Value
numbered id [] = []
numbered id (text ∷ texts) = Obj id ∷ numbered (id + 1) texts

-- what they cost
abbrev pub texts_price : List (List ℕ) → ℕ
texts_price [] = 0
texts_price (text ∷ texts) = text_price text + texts_price texts

-- the heap once these Strings are made and paid
abbrev pub paid_texts : HeapState → List (List ℕ) → HeapState
paid_texts heap texts = pay (with_texts heap texts) (texts_price texts)

-- the heap with these Strings and their List, which comes last
abbrev pub with_list_of : HeapState → List (List ℕ) → HeapState
with_list_of heap texts = with_new (with_texts heap texts) (ListObject (numbered (length heap.objects) texts))

-- the Strings, and the List with one for each
abbrev pub list_price : List (List ℕ) → ℕ
list_price texts = texts_price texts + (1 + length texts)

abbrev pub texts_reply : HeapState → List (List ℕ) → Reply
texts_reply heap texts = Answers (Obj (length heap.objects + length texts)) (list_price texts) (with_list_of heap texts)

-- ---- rows

-- space, tab, line feed, carriage return and form feed
abbrev pub blanks : List ℕ
blanks = codes " \t\n\r\u{c}"

-- the pieces between these characters
abbrev pub tokens_reply : HeapState → List ℕ → List ℕ → Reply
tokens_reply heap text separators = texts_reply heap (map encode_utf8_all (char.pieces (chars separators) (chars text)))

abbrev pub chars_reply : HeapState → List ℕ → Reply
chars_reply heap text = texts_reply heap (map encode_utf8_all (char.singles (chars text)))
