-- The hash of a value, by turns.
use Rattle.std.specs.Prelude.{ℕ, suc, ◌-◌, ℤ, pos, Bool, true, false, List, [], ◌∷◌, Option, Some, unwrap_or, if◌then◌else◌}
use Rattle.std.specs.Str.{chars}
use Rattle.gv_base.specs.Plain.{hash_of}
use Rattle.gv_base.specs.declared.value.Value.{Value}
use Rattle.gv_base.specs.declared.value.Value.TheVariants.{Int, Class, Obj}
use Rattle.gv_classes.specs.declared.declared.Declared.{Declared}
use Rattle.gv_heap.specs.Heap.{HeapState, object_at}
use Rattle.gv_heap.specs.declared.object.Object.{Object}
use Rattle.gv_heap.specs.declared.object.Object.TheVariants as object
use Rattle.gv_rows.specs.Values.{class_text}
use Rattle.gv_texts.specs.Texts as texts
use Rattle.gv_texts.specs.declared.question.Question.{Question}
use Rattle.gv_texts.specs.declared.question.Question.TheVariants.{Enter, HashCode}
use Rattle.gv_texts.specs.declared.walk.TextTurn.{TextTurn}
use Rattle.gv_texts.specs.declared.walk.TextTurn.TheVariants as text
use Rattle.gv_hashes.specs.Opened.{opened}
use Rattle.gv_hashes.specs.Rules.{text_hash, with_element, with_entry, last_of}
use Rattle.gv_hashes.specs.declared.step.Hashed.{Hashed}
use Rattle.gv_hashes.specs.declared.step.Hashed.TheVariants as hashed
use Rattle.gv_hashes.specs.declared.step.Step.{Step}
use Rattle.gv_hashes.specs.declared.step.Step.TheVariants as step
use Rattle.gv_hashes.specs.declared.todo.Stage.{Stage}
use Rattle.gv_hashes.specs.declared.todo.Stage.TheVariants as stage
use Rattle.gv_hashes.specs.declared.todo.Todo.{Todo}
use Rattle.gv_hashes.specs.declared.todo.Todo.TheVariants.{Inner, Start, Element, Entry, Leave}
use Rattle.gv_hashes.specs.declared.walk.HashTurn.{HashTurn}
use Rattle.gv_hashes.specs.declared.walk.HashTurn.TheVariants.{Is, NoInteger, Asks}
use Rattle.gv_hashes.specs.declared.walk.HashWalk.{HashWalk}

-- ---- how a value is hashed

-- a text by its characters, a string with parts by its text, an instance by what it answers, lists, ranges and maps by what is in them;
-- all others have 0
abbrev pub object_step : Option Object → Hashed
object_step (Some (object.Text t)) = hashed.Is (text_hash (chars t))
object_step (Some (object.GString parts)) = hashed.ByText
object_step (Some (object.List elements)) = hashed.Opens
object_step (Some (object.Range range)) = hashed.Opens
object_step (Some (object.Map entries)) = hashed.Opens
object_step (Some (object.Instance instance)) = hashed.Asked
object_step other = hashed.Is (pos 0)

abbrev pub id_of : Value → ℕ
id_of (Obj id) = id
id_of v = 0

-- ---- a value's step: its hash, or what is asked first

abbrev pub text_step : TextTurn → Step
text_step (text.Text t) = step.Is (text_hash (chars t))
text_step (text.Asks walk receiver question) = step.Waits (stage.Text walk) receiver question

-- a hash that an instance answers is an Integer
abbrev pub answer_step : Value → Step
answer_step (Int n) = step.Is n
answer_step answer = step.NoInteger answer

-- ---- how deep a walk is

abbrev pub stage_inside : Stage → ℕ
stage_inside stage.Answer = 0
stage_inside (stage.Entry id) = 0
stage_inside (stage.Text walk) = walk.inside

-- a value that is entered is around what is hashed then
abbrev pub entered : Stage → ℕ → ℕ
entered (stage.Entry id) inside = suc inside
entered s inside = inside

abbrev pub asking : Stage → List Todo → List ℤ → ℕ → Value → Question → HashTurn
asking s todo hashes inside receiver question = Asks (record { stage = s; todo = todo; hashes = hashes; inside = entered s inside }) receiver question

-- a step behind which other things are hashed
abbrev pub stepped : Step → List Todo → (List ℤ → ℕ → HashTurn) → List ℤ → ℕ → HashTurn
stepped (step.Is hash) todo go hashes inside = go (hash ∷ hashes) inside
stepped (step.NoInteger answer) todo go hashes inside = NoInteger answer
stepped (step.Waits s receiver question) todo go hashes inside = asking s todo hashes inside receiver question

module _ (names : List (List ℕ)) (classes : List Declared) (heap : HeapState) where
  -- a class has the hash of its name
  abbrev pub hash_step : Value → Hashed
  hash_step (Obj id) = object_step (object_at heap id)
  hash_step (Class c) = hashed.Is (text_hash (chars (class_text names classes c)))
  hash_step v = hashed.Is (unwrap_or (hash_of v) (pos 0))

  abbrev pub text_turn : Bool → Value → TextTurn
  text_turn is_inner v = if is_inner then texts.inner_started names classes heap v else texts.started names classes heap v

  abbrev pub value_step : Bool → Value → Hashed → Step
  value_step is_inner v (hashed.Is hash) = step.Is hash
  value_step is_inner v hashed.ByText = text_step (text_turn is_inner v)
  value_step is_inner v hashed.Opens = step.Waits (stage.Entry (id_of v)) v Enter
  value_step is_inner v hashed.Asked = step.Waits stage.Answer v HashCode

  -- ---- up to the hash, or the next question
  abbrev pub until_asked : List Todo → List ℤ → ℕ → HashTurn
  until_asked [] hashes inside = Is (last_of hashes)
  until_asked (Inner v ∷ rest) hashes inside = stepped (value_step true v (hash_step v)) rest (until_asked rest) hashes inside
  until_asked (Start hash ∷ rest) hashes inside = until_asked rest (hash ∷ hashes) inside
  until_asked (Element ∷ rest) hashes inside = until_asked rest (with_element hashes) inside
  until_asked (Entry ∷ rest) hashes inside = until_asked rest (with_entry hashes) inside
  until_asked (Leave ∷ rest) hashes inside = until_asked rest hashes (inside - 1)

  -- ---- the turns

  -- the value itself is entered without a question
  abbrev pub root_turn : Value → Hashed → HashTurn
  root_turn v hashed.Opens = until_asked (opened (object_at heap (id_of v)) []) [] 0
  root_turn v how = stepped (value_step false v how) [] (until_asked []) [] 0

  abbrev pub started : Value → HashTurn
  started v = root_turn v (hash_step v)

  abbrev pub resumed_at : Stage → List Todo → List ℤ → ℕ → Value → HashTurn
  resumed_at stage.Answer todo hashes inside answer = stepped (answer_step answer) todo (until_asked todo) hashes inside
  resumed_at (stage.Text walk) todo hashes inside answer = stepped (text_step (texts.resumed names classes heap walk answer)) todo (until_asked todo) hashes inside
  resumed_at (stage.Entry id) todo hashes inside answer = until_asked (opened (object_at heap id) (Leave ∷ todo)) hashes inside

  abbrev pub resumed : HashWalk → Value → HashTurn
  resumed walk answer = resumed_at walk.stage walk.todo walk.hashes walk.inside answer
