-- The truth of a value, by turns.
use Rattle.std.specs.Prelude.{ℕ, Bool, true, false, List, [], ◌∷◌, Option, Some, None, unwrap_or}
use Rattle.gv_base.specs.Plain.{truth_of}
use Rattle.gv_base.specs.declared.value.Value.{Value}
use Rattle.gv_base.specs.declared.value.Value.TheVariants.{Null, Bool as Truth, Int, Long, Class, Obj}
use Rattle.gv_classes.specs.declared.declared.Declared.{Declared}
use Rattle.gv_heap.specs.Heap.{HeapState, object_at}
use Rattle.gv_heap.specs.declared.object.Object.{Object}
use Rattle.gv_heap.specs.declared.object.Object.TheVariants as object
use Rattle.gv_rows.specs.Values.{elements_of}
use Rattle.gv_texts.specs.Texts as texts
use Rattle.gv_texts.specs.declared.question.Question.TheVariants.{AsBoolean}
use Rattle.gv_texts.specs.declared.walk.TextTurn.{TextTurn}
use Rattle.gv_texts.specs.declared.walk.TextTurn.TheVariants as text
use Rattle.gv_truths.specs.declared.truth.TruthTurn.{TruthTurn}
use Rattle.gv_truths.specs.declared.truth.TruthTurn.TheVariants.{Is, Asks}
use Rattle.gv_truths.specs.declared.truth.TruthWalk.{TruthWalk}
use Rattle.gv_truths.specs.declared.truth.TruthWalk.TheVariants.{Instance, Text}

-- texts, lists, ranges and maps are true where they aren't empty
abbrev pub is_some : {A : Type 0} → List A → Bool
is_some [] = false
is_some (x ∷ xs) = true

abbrev pub text_truth : TextTurn → TruthTurn
text_truth (text.Text t) = Is (is_some t)
text_truth (text.Asks walk receiver question) = Asks (Text walk) receiver question

-- an instance is false exactly where it answers so, or null
abbrev pub answered_truth : Value → Bool
answered_truth Null = false
answered_truth (Truth b) = b
answered_truth v = true

abbrev pub walk_inside : TruthWalk → ℕ
walk_inside Instance = 0
walk_inside (Text walk) = walk.inside

module _ (names : List (List ℕ)) (classes : List Declared) (heap : HeapState) where
  abbrev pub object_truth : ℕ → Option Object → TruthTurn
  object_truth id (Some (object.Text t)) = Is (is_some t)
  object_truth id (Some (object.GString parts)) = text_truth (texts.started names classes heap (Obj id))
  object_truth id (Some (object.List elements)) = Is (is_some elements)
  object_truth id (Some (object.Range range)) = Is (is_some (elements_of range))
  object_truth id (Some (object.Map entries)) = Is (is_some entries)
  object_truth id (Some (object.Instance instance)) = Asks Instance (Obj id) AsBoolean
  object_truth id other = Is true

  abbrev pub started : Value → TruthTurn
  started (Obj id) = object_truth id (object_at heap id)
  started v = Is (unwrap_or (truth_of v) true)

  abbrev pub resumed : TruthWalk → Value → TruthTurn
  resumed Instance answer = Is (answered_truth answer)
  resumed (Text walk) answer = text_truth (texts.resumed names classes heap walk answer)
