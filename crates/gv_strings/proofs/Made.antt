-- Strings that are made one after the other.
use Rattle.std.proofs.Common.{◌≡◌, ℕ, ◌+◌, ◌-◌, ◌≤◌, List, [], ◌∷◌, ◌++◌, length, map, refl, ap, append-nil, append_assoc, length-append, ◌∙◌, arith}
use Rattle.std.proofs.lemmas.List.{length-map}
use Rattle.gv_base.specs.declared.value.Value.{Value}
use Rattle.gv_base.specs.declared.value.Value.TheVariants.{Obj}
use Rattle.gv_heap.specs.Heap.{HeapState, pay, with_new}
use Rattle.gv_heap.specs.Prices.{filled_price, text_price}
use Rattle.gv_heap.specs.declared.object.Object.TheVariants.{Text as TextObject}
use Rattle.gv_rows.specs.Reply.{Did, new_list}
use Rattle.gv_rows.specs.declared.done.Done.{Done}
use Rattle.gv_rows.specs.declared.done.Done.TheVariants as done
use Rattle.gv_strings.specs.Lists.{list_price, numbered, paid_texts, texts_price, texts_reply, with_list_of}

-- none more
pub paid_none : (heap : HeapState) → paid_texts heap [] ≡ heap
paid_none heap =
    let cells : heap.cells - 0 ≡ heap.cells = omega arith in
    ap (λ os. record { objects = os; places = heap.places; cells = heap.cells - 0 }) (append-nil heap.objects)
    ∙ ap (λ n. record { objects = heap.objects; places = heap.places; cells = n }) cells

-- one, and then the others
pub paid_one : (heap : HeapState) (text : List ℕ) (texts : List (List ℕ)) → paid_texts (pay (with_new heap (TextObject text)) (text_price text)) texts ≡ paid_texts heap (text ∷ texts)
paid_one heap text texts =
    let cells : heap.cells - text_price text - texts_price texts ≡ heap.cells - (text_price text + texts_price texts) = omega arith in
    ap (λ os. record { objects = os; places = heap.places; cells = heap.cells - text_price text - texts_price texts }) (append_assoc heap.objects (TextObject text ∷ []) (map TextObject texts))
    ∙ ap (λ n. record { objects = heap.objects ++ TextObject text ∷ map TextObject texts; places = heap.places; cells = n }) cells

pub numbered_one : (heap : HeapState) (strings : List Value) (text : List ℕ) (texts : List (List ℕ)) →
    (strings ++ Obj (length heap.objects) ∷ []) ++ numbered (length (pay (with_new heap (TextObject text)) (text_price text)).objects) texts
    ≡ strings ++ numbered (length heap.objects) (text ∷ texts)
numbered_one heap strings text texts =
    append_assoc strings (Obj (length heap.objects) ∷ []) (numbered (length (heap.objects ++ TextObject text ∷ [])) texts)
    ∙ ap (λ n. strings ++ Obj (length heap.objects) ∷ numbered n texts) (length-append heap.objects (TextObject text ∷ []))

pub ruleset making = (paid_none, paid_one, numbered_one)

-- their List comes last
length_numbered : (id : ℕ) (texts : List (List ℕ)) → length (numbered id texts) ≡ length texts
length_numbered id [] = refl
length_numbered id (text ∷ texts) = omega (arith, length_numbered (id + 1) texts)

pub did_list : (heap : HeapState) (texts : List (List ℕ)) (result : Done) (new : HeapState) → list_price texts ≤ heap.cells →
    Did (paid_texts heap texts) (new_list (paid_texts heap texts) (numbered (length heap.objects) texts)) result new → Did heap (texts_reply heap texts) result new
did_list heap texts (done.Value value) new paid (enough, is, made) =
    let many = length_numbered (length heap.objects) texts in
    let count : length (heap.objects ++ map TextObject texts) ≡ length heap.objects + length texts =
    length-append heap.objects (map TextObject texts) ∙ ap (λ n. length heap.objects + n) (length-map texts TextObject) in
    let cells : heap.cells - texts_price texts - filled_price (numbered (length heap.objects) texts) ≡ heap.cells - list_price texts = omega arith in
    (paid, is ∙ ap Obj count, made ∙ ap (λ n. record (with_list_of heap texts) { cells = n }) cells)
did_list heap texts done.CellsSpent new paid (short, same) =
    let many = length_numbered (length heap.objects) texts in
    absurd (omega arith)
did_list heap texts done.OutOfMemory new paid did = tt
did_list heap texts (done.Thrown kind message) new paid did = absurd did
