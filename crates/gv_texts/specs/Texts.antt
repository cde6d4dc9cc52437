-- The text of a value, by turns.
use Rattle.std.specs.Prelude.{◌≡◌, ℕ, zero, suc, ◌-◌, Bool, true, false, List, [], ◌∷◌, ◌++◌, codes, Option, Some, None}
use Rattle.std.specs.Fmt.{signed_decimal}
use Rattle.gv_base.specs.declared.meta.MetaObject.{MetaObject}
use Rattle.gv_base.specs.declared.meta.MetaObject.TheVariants as meta
use Rattle.gv_base.specs.declared.value.Value.{Value}
use Rattle.gv_base.specs.declared.value.Value.TheVariants.{Null, Bool as Truth, Int, Long, Class, Obj}
use Rattle.gv_classes.specs.declared.declared.Declared.{Declared}
use Rattle.gv_heap.specs.Heap.{HeapState, object_at}
use Rattle.gv_heap.specs.declared.object.Object.{Object}
use Rattle.gv_heap.specs.declared.object.Object.TheVariants as object
use Rattle.gv_rows.specs.Values.{class_text}
use Rattle.gv_texts.specs.Todo.{inner, opened, mark_text}
use Rattle.gv_texts.specs.declared.todo.Mark.TheVariants as mark
use Rattle.gv_texts.specs.declared.question.Question.{Question}
use Rattle.gv_texts.specs.declared.question.Question.TheVariants.{Enter, ToString, Call}
use Rattle.gv_texts.specs.declared.said.Said.{Said}
use Rattle.gv_texts.specs.declared.said.Said.TheVariants as said
use Rattle.gv_texts.specs.declared.todo.Pending.{Pending}
use Rattle.gv_texts.specs.declared.todo.Pending.TheVariants.{Answer, Entry}
use Rattle.gv_texts.specs.declared.todo.Todo.{Todo}
use Rattle.gv_texts.specs.declared.todo.Todo.TheVariants.{Mark, Piece, Inner, Lazy, Leave}
use Rattle.gv_texts.specs.declared.walk.TextTurn.{TextTurn}
use Rattle.gv_texts.specs.declared.walk.TextTurn.TheVariants.{Text, Asks}
use Rattle.gv_texts.specs.declared.walk.TextWalk.{TextWalk}

-- ---- what values say of themselves

-- its text; what lies in an entry, with a `=` between; that it is entered first; that it is asked
pub data Saying : Type 0 where
  Says : (text : List ℕ) → Saying
  Pairs : (key : Value) (value : Value) → Saying
  Opens : Saying
  IsAsked : Saying

abbrev pub meta_text : MetaObject → List ℕ
meta_text (meta.Class of side) = codes "MetaClass"
meta_text (meta.Member of side name) = codes "MetaMember"
meta_text (meta.Method name body) = codes "MetaMethod"

abbrev pub object_saying : Option Object → Saying
object_saying (Some (object.Text text)) = Says text
object_saying (Some (object.GString parts)) = Opens
object_saying (Some (object.List elements)) = Opens
object_saying (Some (object.Map entries)) = Opens
object_saying (Some (object.Range range)) = Opens
object_saying (Some (object.Closure closure)) = Says (codes "Closure")
object_saying (Some (object.Entry key value)) = Pairs key value
object_saying (Some (object.Instance instance)) = IsAsked
object_saying (Some (object.Meta m)) = Says (meta_text m)
object_saying None = Says []

-- the things to say of a value that nothing is around: it is entered without a question
abbrev pub root_object : Value → Option Object → Saying → List Todo
root_object v o Opens = opened o []
root_object v o saying = inner v ∷ []

abbrev pub root : HeapState → Value → List Todo
root heap (Obj id) = root_object (Obj id) (object_at heap id) (object_saying (object_at heap id))
root heap v = inner v ∷ []

-- the number of the object that a value is
abbrev pub id_of : Value → ℕ
id_of (Obj id) = id
id_of v = 0

-- an entry's key and value, unless more entries lie in each other than were made before them
abbrev pub pair : ℕ → Value → Value → List Todo → List Todo
pair zero key value rest = rest
pair (suc n) key value rest = Inner n key ∷ Mark mark.Equals ∷ Inner n value ∷ rest

-- a walk that has asked
abbrev pub asking : Pending → List Todo → List ℕ → ℕ → Value → Question → TextTurn
asking pending rest text inside receiver question = Asks (record { pending = pending; todo = rest; text = text; inside = inside }) receiver question

module _ (names : List (List ℕ)) (classes : List Declared) (heap : HeapState) where
  abbrev pub saying : Value → Saying
  saying Null = Says (codes "null")
  saying (Truth true) = Says (codes "true")
  saying (Truth false) = Says (codes "false")
  saying (Int n) = Says (signed_decimal n)
  saying (Long n) = Says (signed_decimal n)
  saying (Class c) = Says (codes "class " ++ class_text names classes c)
  saying (Obj id) = object_saying (object_at heap id)

  -- ---- up to the next question

  -- a value that says so of itself is said behind a text, and what is said then
  abbrev pub going : Saying → Value → List Todo → (List ℕ → ℕ → TextTurn) → (Value → Value → List ℕ → ℕ → TextTurn) → List ℕ → ℕ → TextTurn
  going (Says t) v rest go pair text inside = go (text ++ t) inside
  going (Pairs k w) v rest go pair text inside = pair k w text inside
  going Opens v rest go pair text inside = asking (Entry (id_of v)) rest text (suc inside) v Enter
  going IsAsked v rest go pair text inside = asking Answer rest text inside v ToString

  abbrev pub inner_said : ℕ → Value → List Todo → (List ℕ → ℕ → TextTurn) → List ℕ → ℕ → TextTurn
  inner_said zero v rest go text inside = going (saying v) v rest go (λ k w. go) text inside
  inner_said (suc n) v rest go text inside =
      going (saying v) v rest go (λ k w. inner_said n k (Mark mark.Equals ∷ Inner n w ∷ rest) (λ text. inner_said n w rest go (text ++ codes "="))) text inside

  abbrev pub until_asked : List Todo → List ℕ → ℕ → TextTurn
  until_asked [] text inside = Text text
  until_asked (Mark m ∷ rest) text inside = until_asked rest (text ++ mark_text m) inside
  until_asked (Piece t ∷ rest) text inside = until_asked rest (text ++ t) inside
  until_asked (Inner n v ∷ rest) text inside = inner_said n v rest (until_asked rest) text inside
  until_asked (Lazy closure ∷ rest) text inside = asking Answer rest text inside (Obj closure) Call
  until_asked (Leave ∷ rest) text inside = until_asked rest text (inside - 1)

  -- ---- the turns

  -- what a walk goes on with, behind the answer to its question
  abbrev pub answered : Pending → Value → List Todo → List Todo
  answered Answer answer rest = inner answer ∷ rest
  answered (Entry id) answer rest = opened (object_at heap id) (Leave ∷ rest)

  abbrev pub started : Value → TextTurn
  started v = until_asked (root heap v) [] 0

  -- of a value that lies in another one
  abbrev pub inner_started : Value → TextTurn
  inner_started v = until_asked (inner v ∷ []) [] 0

  abbrev pub resumed : TextWalk → Value → TextTurn
  resumed walk answer = until_asked (answered walk.pending answer walk.todo) walk.text walk.inside

-- ---- as the code says it

-- what is done of a saying at once: a text is put behind another one
abbrev pub IsSaid : Saying → List ℕ → Said → List ℕ → Type 0
IsSaid (Says t) old said.Done new = new ≡ old ++ t
IsSaid (Pairs k v) old (said.Pairs key value) new = (key ≡ k) × (value ≡ v) × (new ≡ old)
IsSaid Opens old said.Opens new = new ≡ old
IsSaid IsAsked old said.Asked new = new ≡ old
IsSaid saying old said new = ⊥
