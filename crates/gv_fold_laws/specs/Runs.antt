-- How the turns of a fold follow one another.
use Rattle.std.specs.Prelude.{ℕ, List, [], ◌∷◌}
use Rattle.gv_base.specs.declared.value.Value.{Value}
use Rattle.gv_classes.specs.declared.declared.Declared.{Declared}
use Rattle.gv_heap.specs.Heap.{HeapState}
use Rattle.gv_folds.specs.Folds.{Outcome, Calls, resumed}
use Rattle.gv_folds.specs.declared.fold.Fold.{Fold}
use Rattle.gv_folds.specs.declared.source.Args.{Args}

-- a call of the closure, the heap that it leaves, and its answer
pub record Answered : Type 0 where
  pub args : Args
  pub heap : HeapState
  pub answer : Value

module _ (names : List (List ℕ)) (classes : List Declared) where
  -- the outcome asks for these calls, one after the other, and with their answers comes to the last one
  pub data Leads : Outcome → List Answered → Outcome → Type 0 where
    stays : {o : Outcome} → Leads o [] o
    goes : {fold : Fold} {a : Answered} {more : List Answered} {o : Outcome} → Leads (resumed names classes a.heap fold a.answer) more o → Leads (Calls fold a.args) (a ∷ more) o
