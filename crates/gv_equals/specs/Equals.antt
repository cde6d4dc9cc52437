-- Whether two values are equal, by turns.
use Rattle.std.specs.Prelude.{ℕ, zero, suc, ◌+◌, ◌-◌, ◌==◌, Bool, true, false, List, [], ◌∷◌, length, Option, Some, None, bytes_eq, if◌then◌else◌}
use Rattle.gv_base.specs.Plain.{equal_of}
use Rattle.gv_base.specs.declared.value.Value.{Value}
use Rattle.gv_base.specs.declared.value.Value.TheVariants.{Obj}
use Rattle.gv_classes.specs.declared.declared.Declared.{Declared}
use Rattle.gv_heap.specs.Heap.{HeapState, object_at}
use Rattle.gv_heap.specs.declared.object.Object.{Object}
use Rattle.gv_heap.specs.declared.object.Object.TheVariants as object
use Rattle.gv_rows.specs.Values.{elements_in}
use Rattle.gv_texts.specs.Texts as texts
use Rattle.gv_texts.specs.declared.question.Question.{Question}
use Rattle.gv_texts.specs.declared.question.Question.TheVariants.{Enter, Equals}
use Rattle.gv_texts.specs.declared.walk.TextTurn.{TextTurn}
use Rattle.gv_texts.specs.declared.walk.TextTurn.TheVariants as text
use Rattle.gv_truths.specs.Truths as truths
use Rattle.gv_truths.specs.Truths.{walk_inside}
use Rattle.gv_truths.specs.declared.truth.TruthTurn.{TruthTurn}
use Rattle.gv_truths.specs.declared.truth.TruthTurn.TheVariants as truth
use Rattle.gv_equals.specs.Pairs.{opened}
use Rattle.gv_equals.specs.declared.compared.Compared.{Compared}
use Rattle.gv_equals.specs.declared.compared.Compared.TheVariants.{Decided, Texts, Opens, Asked}
use Rattle.gv_equals.specs.declared.compared.Kind.{Kind}
use Rattle.gv_equals.specs.declared.compared.Kind.TheVariants as kind
use Rattle.gv_equals.specs.declared.stage.Same.{Same}
use Rattle.gv_equals.specs.declared.stage.Same.TheVariants.{Pair, Alone, Leave}
use Rattle.gv_equals.specs.declared.stage.Stage.{Stage}
use Rattle.gv_equals.specs.declared.stage.Stage.TheVariants as stage
use Rattle.gv_equals.specs.declared.step.Step.{Step}
use Rattle.gv_equals.specs.declared.step.Step.TheVariants.{Goes, Waits}
use Rattle.gv_equals.specs.declared.walk.EqualTurn.{EqualTurn}
use Rattle.gv_equals.specs.declared.walk.EqualTurn.TheVariants.{Is, Asks}
use Rattle.gv_equals.specs.declared.walk.EqualWalk.{EqualWalk}

-- ---- how two values are compared

abbrev pub kind_of : Option Object → Kind
kind_of (Some (object.Instance instance)) = kind.Instance
kind_of (Some (object.Text t)) = kind.Text
kind_of (Some (object.GString parts)) = kind.Text
kind_of (Some (object.List elements)) = kind.Sequence
kind_of (Some (object.Range range)) = kind.Sequence
kind_of (Some (object.Map entries)) = kind.Map
kind_of other = kind.Other

abbrev pub size_of : Option Object → ℕ
size_of (Some (object.Map entries)) = length entries
size_of other = length (elements_in other)

-- what has as much in it is entered
abbrev pub by_size : Bool → Compared
by_size same = if same then Opens else Decided false

-- an instance is asked; texts, lists and maps are compared by what they are; all else is equal as the same object
abbrev pub by_kind : Kind → Kind → Bool → Bool → Compared
by_kind kind.Instance k same_size same = Asked
by_kind kind.Text kind.Text same_size same = Texts
by_kind kind.Sequence kind.Sequence same_size same = by_size same_size
by_kind kind.Map kind.Map same_size same = by_size same_size
by_kind k l same_size same = Decided same

abbrev pub compare_objects : HeapState → ℕ → ℕ → Compared
compare_objects heap i j = by_kind (kind_of (object_at heap i)) (kind_of (object_at heap j)) (size_of (object_at heap i) == size_of (object_at heap j)) (i == j)

-- an object beside a number, a Boolean or a class
abbrev pub by_left : Kind → Compared
by_left kind.Instance = Asked
by_left k = Decided false

abbrev pub compare_values : HeapState → Value → Value → Compared
compare_values heap (Obj i) (Obj j) = compare_objects heap i j
compare_values heap (Obj i) right = by_left (kind_of (object_at heap i))
compare_values heap left right = Decided false

abbrev pub compare_or : Option Bool → Compared → Compared
compare_or (Some same) compared = Decided same
compare_or None compared = compared

abbrev pub compare : HeapState → Value → Value → Compared
compare heap left right = compare_or (equal_of left right) (compare_values heap left right)

-- ---- a pair's step: it is known to be equal or not, or something is asked first

abbrev pub id_of : Value → ℕ
id_of (Obj id) = id
id_of v = 0

abbrev pub right_step : List ℕ → TextTurn → Step
right_step left (text.Text right) = Goes (bytes_eq left right)
right_step left (text.Asks walk receiver question) = Waits (stage.Right walk left) receiver question

abbrev pub truth_step : TruthTurn → Step
truth_step (truth.Is b) = Goes b
truth_step (truth.Asks walk receiver question) = Waits (stage.Truth walk) receiver question

-- ---- how deep a walk is

abbrev pub stage_inside : Stage → ℕ
stage_inside stage.Answer = 0
stage_inside (stage.Truth walk) = walk_inside walk
stage_inside (stage.Entry left right) = 0
stage_inside (stage.Left walk right is_inner) = walk.inside
stage_inside (stage.Right walk left) = walk.inside

-- two values that are entered are around what is compared then
abbrev pub entered : Stage → ℕ → ℕ
entered (stage.Entry left right) inside = suc inside
entered s inside = inside

abbrev pub asking : Stage → List Same → ℕ → Value → Question → EqualTurn
asking s todo inside receiver question = Asks (record { stage = s; todo = todo; inside = entered s inside }) receiver question

-- a step behind which other pairs are compared
abbrev pub stepped : Step → List Same → (ℕ → EqualTurn) → ℕ → EqualTurn
stepped (Goes true) todo go inside = go inside
stepped (Goes false) todo go inside = Is false
stepped (Waits s receiver question) todo go inside = asking s todo inside receiver question

module _ (names : List (List ℕ)) (classes : List Declared) (heap : HeapState) where
  abbrev pub text_turn : Bool → Value → TextTurn
  text_turn is_inner v = if is_inner then texts.inner_started names classes heap v else texts.started names classes heap v

  abbrev pub left_step : Bool → Value → TextTurn → Step
  left_step is_inner right (text.Text left) = right_step left (text_turn is_inner right)
  left_step is_inner right (text.Asks walk receiver question) = Waits (stage.Left walk right is_inner) receiver question

  abbrev pub pair_step : Bool → Value → Value → Compared → Step
  pair_step is_inner left right (Decided same) = Goes same
  pair_step is_inner left right Texts = left_step is_inner right (text_turn is_inner left)
  pair_step is_inner left right Opens = Waits (stage.Entry (id_of left) (id_of right)) left Enter
  pair_step is_inner left right Asked = Waits stage.Answer left (Equals right)

  -- ---- up to the first pair that isn't equal, or the next question
  abbrev pub until_told : List Same → ℕ → EqualTurn
  until_told [] inside = Is true
  until_told (Pair left right ∷ rest) inside = stepped (pair_step true left right (compare heap left right)) rest (until_told rest) inside
  until_told (Alone ∷ rest) inside = Is false
  until_told (Leave ∷ rest) inside = until_told rest (inside - 1)

  -- ---- the turns

  -- the two values themselves are entered without a question
  abbrev pub root_turn : Value → Value → Compared → EqualTurn
  root_turn left right Opens = until_told (opened (object_at heap (id_of left)) (object_at heap (id_of right)) []) 0
  root_turn left right compared = stepped (pair_step false left right compared) [] (until_told []) 0

  abbrev pub started : Value → Value → EqualTurn
  started left right = root_turn left right (compare heap left right)

  abbrev pub resumed_at : Stage → List Same → ℕ → Value → EqualTurn
  resumed_at stage.Answer todo inside answer = stepped (truth_step (truths.started names classes heap answer)) todo (until_told todo) inside
  resumed_at (stage.Truth walk) todo inside answer = stepped (truth_step (truths.resumed names classes heap walk answer)) todo (until_told todo) inside
  resumed_at (stage.Entry left right) todo inside answer = until_told (opened (object_at heap left) (object_at heap right) (Leave ∷ todo)) inside
  resumed_at (stage.Left walk right is_inner) todo inside answer = stepped (left_step is_inner right (texts.resumed names classes heap walk answer)) todo (until_told todo) inside
  resumed_at (stage.Right walk left) todo inside answer = stepped (right_step left (texts.resumed names classes heap walk answer)) todo (until_told todo) inside

  abbrev pub resumed : EqualWalk → Value → EqualTurn
  resumed walk answer = resumed_at walk.stage walk.todo walk.inside answer
