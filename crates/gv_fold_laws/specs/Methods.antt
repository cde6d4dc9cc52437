-- The calls that each method makes, and what it comes to.
use Rattle.std.specs.Prelude.{◌≡◌, ℕ, zero, suc, ◌+◌, Bool, true, false, List, [], ◌∷◌, ◌++◌, map, All, if◌then◌else◌}
use Rattle.gv_base.specs.declared.value.Value.{Value}
use Rattle.gv_base.specs.declared.value.Value.TheVariants.{Null, Bool as Truth}
use Rattle.gv_classes.specs.declared.declared.Declared.{Declared}
use Rattle.gv_heap.specs.Heap.{HeapState}
use Rattle.gv_rows.specs.Values.{integer_of}
use Rattle.gv_truths.specs.Truths as truths
use Rattle.gv_truths.specs.declared.truth.TruthTurn.TheVariants.{Is}
use Rattle.gv_folds.specs.Folds.{Outcome, Answers, list_answer, going}
use Rattle.gv_folds.specs.Rows.{new_fold}
use Rattle.gv_folds.specs.declared.fold.Keeping.{Keeping}
use Rattle.gv_folds.specs.declared.fold.Keeping.TheVariants.{Each, Collected, Found, FoundAll, Any, Every, Injected, Counted}
use Rattle.gv_folds.specs.declared.source.Args.TheVariants.{One, Two}
use Rattle.gv_folds.specs.declared.source.Source.TheVariants.{Plain, Indexed}
use Rattle.gv_fold_laws.specs.Runs.{Answered, Leads}

-- an element, the heap behind the closure's call with it, its answer, and whether that is true
pub record Given : Type 0 where
  pub element : Value
  pub heap : HeapState
  pub answer : Value
  pub is_true : Bool

abbrev pub elements : List Given → List Value
elements gs = map (λ g. g.element) gs

abbrev pub answers : List Given → List Value
answers gs = map (λ g. g.answer) gs

-- ---- the calls

-- with the element alone
abbrev pub alone : Given → Answered
alone g = record { args = One g.element; heap = g.heap; answer = g.answer }

-- with its place behind it
abbrev pub placed : ℕ → List Given → List Answered
placed at [] = []
placed at (g ∷ gs) = record { args = Two g.element (integer_of at); heap = g.heap; answer = g.answer } ∷ placed (at + 1) gs

-- with the answer before it, and at first with a value
abbrev pub injected : Value → List Given → List Answered
injected v [] = []
injected v (g ∷ gs) = record { args = Two v g.element; heap = g.heap; answer = g.answer } ∷ injected g.answer gs

abbrev pub last_answer : Value → List Given → Value
last_answer v [] = v
last_answer v (g ∷ gs) = last_answer g.answer gs

-- ---- what is judged

abbrev pub true_elements : List Given → List Value
true_elements [] = []
true_elements (g ∷ gs) = if g.is_true then g.element ∷ true_elements gs else true_elements gs

abbrev pub true_count : List Given → ℕ
true_count [] = 0
true_count (g ∷ gs) = if g.is_true then suc (true_count gs) else true_count gs

module _ (names : List (List ℕ)) (classes : List Declared) (closure : Value) where
  -- a method that keeps so of the answers makes these calls, and comes to this
  abbrev pub Comes : Keeping → List Value → List Answered → Outcome → Type 0
  Comes keeping vs calls o = Leads names classes (going (new_fold closure (Plain vs) keeping)) calls o

  -- `each`, `collect`, `inject`, `eachWithIndex`
  pub record Gathers (gs : List Given) : Type 0 where
    pub each : (receiver : Value) → Comes (Each receiver) (elements gs) (map alone gs) (Answers receiver)
    pub collect : Comes (Collected []) (elements gs) (map alone gs) (list_answer (answers gs))
    pub inject : (first : Value) → Comes (Injected first) (elements gs) (injected first gs) (Answers (last_answer first gs))
    pub with_index : (receiver : Value) → Leads names classes (going (new_fold closure (Indexed 0 (elements gs)) (Each receiver))) (placed 0 gs) (Answers receiver)

  -- the truth of each answer is known without a question
  abbrev pub IsTold : Given → Type 0
  IsTold g = truths.started names classes g.heap g.answer ≡ Is g.is_true

  -- all have this truth
  abbrev pub Tell : Bool → List Given → Type 0
  Tell b gs = All (λ g. g.is_true ≡ b) gs

  -- `findAll` and `count`; `any`, `every` and `find` where no answer ends them
  pub record Judges (gs : List Given) : Type 0 where
    pub find_all : Comes (FoundAll []) (elements gs) (map alone gs) (list_answer (true_elements gs))
    pub count : Comes (Counted 0) (elements gs) (map alone gs) (Answers (integer_of (true_count gs)))
    pub none : Tell false gs → Comes Any (elements gs) (map alone gs) (Answers (Truth false))
    pub not_found : Tell false gs → Comes Found (elements gs) (map alone gs) (Answers Null)
    pub all : Tell true gs → Comes Every (elements gs) (map alone gs) (Answers (Truth true))

  -- `any`, `every` and `find`, which end at the answer that tells: no element behind it is handed out
  pub record Stops (gs : List Given) (last : Given) (behind : List Value) : Type 0 where
    pub some : Tell false gs → last.is_true ≡ true → Comes Any (elements gs ++ last.element ∷ behind) (map alone (gs ++ last ∷ [])) (Answers (Truth true))
    pub found : Tell false gs → last.is_true ≡ true → Comes Found (elements gs ++ last.element ∷ behind) (map alone (gs ++ last ∷ [])) (Answers last.element)
    pub not_all : Tell true gs → last.is_true ≡ false → Comes Every (elements gs ++ last.element ∷ behind) (map alone (gs ++ last ∷ [])) (Answers (Truth false))
