-- What is done with the text of a value.
use Rattle.std.specs.Prelude.{◌≡◌, ℕ, ◌≤◌, ◌<◌, List, ◌++◌, codes, length, Option, Some, Result, Ok, Err}
use Rattle.std.specs.declared.alloc.AllocError.{AllocError}
use Rattle.gv_base.specs.declared.value.Value.{Value}
use Rattle.gv_base.specs.declared.value.Value.TheVariants.{Obj}
use Rattle.gv_classes.specs.declared.declared.Declared.{Declared}
use Rattle.gv_heap.specs.Heap.{HeapState, pay, with_new}
use Rattle.gv_heap.specs.Prices.{text_price}
use Rattle.gv_heap.specs.declared.object.Object.TheVariants as object
use Rattle.gv_search.specs.Texts.{without_first}
use Rattle.gv_texts.specs.Texts as texts
use Rattle.gv_texts.specs.declared.question.Question.{Question}
use Rattle.gv_texts.specs.declared.walk.TextTurn.{TextTurn}
use Rattle.gv_texts.specs.declared.walk.TextTurn.TheVariants as text
use Rattle.gv_says.specs.declared.saying.SaidTurn.{SaidTurn}
use Rattle.gv_says.specs.declared.saying.SaidTurn.TheVariants as turn
use Rattle.gv_says.specs.declared.saying.Saying.{Saying}
use Rattle.gv_says.specs.declared.saying.Then.{Then}
use Rattle.gv_says.specs.declared.saying.Then.TheVariants.{Line, Print, New, Behind, Without}

-- a value is asked; a text is printed; a new String is answered
pub data Outcome : Type 0 where
  Asks : (saying : Saying) (receiver : Value) (question : Question) → Outcome
  Prints : (printed : List ℕ) → Outcome
  MakesText : (made : List ℕ) → Outcome

-- what the code gives of it, and the heap that it leaves
abbrev pub Turned : HeapState → Outcome → SaidTurn → HeapState → Type 0
Turned old (Asks saying receiver question) (turn.Asks s r q) new = (s ≡ saying) × (r ≡ receiver) × (q ≡ question) × (new ≡ old)
Turned old (Prints printed) (turn.Print t) new = (t ≡ printed) × (new ≡ old)
Turned old (MakesText made) (turn.Done v) new = (v ≡ Obj (length old.objects)) × (text_price made ≤ old.cells) × (new ≡ pay (with_new old (object.Text made)) (text_price made))
Turned old (MakesText made) turn.CellsSpent new = (old.cells < text_price made) × (new ≡ old)
Turned old outcome result new = ⊥

abbrev pub Turns : HeapState → Outcome → Result SaidTurn AllocError → HeapState → Type 0
Turns old outcome (Ok result) new = Turned old outcome result new
Turns old outcome (Err error) new = Unit {0}

-- ---- the turns

abbrev pub ended : Then → List ℕ → Outcome
ended Line said = Prints (said ++ codes "\n")
ended Print said = Prints said
ended New said = MakesText said
ended (Behind front) said = MakesText (front ++ said)
ended (Without whole) said = MakesText (without_first whole said)

abbrev pub going : Then → TextTurn → Outcome
going then (text.Text said) = ended then said
going then (text.Asks walk receiver question) = Asks (record { walk = walk; «then» = then }) receiver question

module _ (names : List (List ℕ)) (classes : List Declared) (heap : HeapState) where
  abbrev pub started : Value → Then → Outcome
  started value then = going then (texts.started names classes heap value)

  abbrev pub resumed : Saying → Value → Outcome
  resumed saying answer = going saying.then (texts.resumed names classes heap saying.walk answer)
