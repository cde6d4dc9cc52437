-- The texts of elements, in order, with a separator between.
use Rattle.std.specs.Prelude.{ℕ, List, [], ◌∷◌, ◌++◌}
use Rattle.gv_base.specs.declared.value.Value.{Value}
use Rattle.gv_classes.specs.declared.declared.Declared.{Declared}
use Rattle.gv_heap.specs.Heap.{HeapState}
use Rattle.gv_texts.specs.Texts as texts
use Rattle.gv_texts.specs.declared.question.Question.{Question}
use Rattle.gv_texts.specs.declared.walk.TextTurn.{TextTurn}
use Rattle.gv_texts.specs.declared.walk.TextTurn.TheVariants as text
use Rattle.gv_texts.specs.declared.walk.TextWalk.{TextWalk}
use Rattle.gv_joins.specs.declared.join.Join.TheVariants as join
use Rattle.gv_joins.specs.declared.join.Joining.{Joining}
use Rattle.gv_joins.specs.declared.join.Outcome.{Outcome}
use Rattle.gv_joins.specs.declared.join.Outcome.TheVariants.{Asks, MakesText}

-- an element's text asks, behind what was said
abbrev pub asking : List ℕ → List ℕ → List Value → TextWalk → Value → Question → Outcome
asking separator said vs walk receiver question = Asks (join.Text (record { separator = separator; text = said; source = vs; walk = walk })) receiver question

-- an element's text is put behind what was said, and what is said then
abbrev pub said_by : List ℕ → List Value → (List ℕ → Outcome) → TextTurn → List ℕ → Outcome
said_by separator vs go (text.Text t) said = go (said ++ t)
said_by separator vs go (text.Asks walk receiver question) said = asking separator said vs walk receiver question

module _ (names : List (List ℕ)) (classes : List Declared) (heap : HeapState) where
  -- behind what was said: the separator, the element's text, and so on
  abbrev pub until_asked : List ℕ → List Value → List ℕ → Outcome
  until_asked separator [] said = MakesText said
  until_asked separator (v ∷ vs) said = said_by separator vs (until_asked separator vs) (texts.started names classes heap v) (said ++ separator)

  -- the first element has no separator before it
  abbrev pub all_said : List ℕ → List Value → Outcome
  all_said separator [] = MakesText []
  all_said separator (v ∷ vs) = said_by separator vs (until_asked separator vs) (texts.started names classes heap v) []

  abbrev pub resumed : Joining → Value → Outcome
  resumed joining answer = said_by joining.separator joining.source (until_asked joining.separator joining.source) (texts.resumed names classes heap joining.walk answer) joining.text
