-- The turns of each walk and method as turns of one type.
use Rattle.std.specs.Prelude.{ℕ, List, [], ◌∷◌, ◌++◌, codes, Option, Some, None}
use Rattle.gv_base.specs.declared.exception.ExceptionKind.TheVariants.{GroovyCastException}
use Rattle.gv_base.specs.declared.value.Value.{Value}
use Rattle.gv_base.specs.declared.value.Value.TheVariants.{Null, Bool as Truth, Int}
use Rattle.gv_classes.specs.declared.declared.Declared.{Declared}
use Rattle.gv_distinct.specs.declared.turn.DistinctTurn.{DistinctTurn}
use Rattle.gv_distinct.specs.declared.turn.DistinctTurn.TheVariants as distinct
use Rattle.gv_equals.specs.declared.walk.EqualTurn.{EqualTurn}
use Rattle.gv_equals.specs.declared.walk.EqualTurn.TheVariants as equal
use Rattle.gv_folds.specs.declared.source.Args.{Args}
use Rattle.gv_folds.specs.declared.source.Args.TheVariants.{One, Two}
use Rattle.gv_folds.specs.declared.turn.FoldTurn.{FoldTurn}
use Rattle.gv_folds.specs.declared.turn.FoldTurn.TheVariants as fold
use Rattle.gv_hashes.specs.declared.walk.HashTurn.{HashTurn}
use Rattle.gv_hashes.specs.declared.walk.HashTurn.TheVariants as hash
use Rattle.gv_heap.specs.Heap.{HeapState}
use Rattle.gv_rows.specs.Values.{class_of, class_text}
use Rattle.gv_says.specs.declared.saying.SaidTurn.{SaidTurn}
use Rattle.gv_says.specs.declared.saying.SaidTurn.TheVariants as said
use Rattle.gv_searches.specs.declared.turn.SearchTurn.{SearchTurn}
use Rattle.gv_searches.specs.declared.turn.SearchTurn.TheVariants as search
use Rattle.gv_texts.specs.Questions.{argument_of}
use Rattle.gv_texts.specs.declared.question.Question.{Question}
use Rattle.gv_texts.specs.declared.question.Question.TheVariants as question
use Rattle.gv_truths.specs.declared.truth.TruthTurn.{TruthTurn}
use Rattle.gv_truths.specs.declared.truth.TruthTurn.TheVariants as truth
use Rattle.gv_frames.specs.declared.called.Called.{Called}
use Rattle.gv_frames.specs.declared.called.Called.TheVariants as called
use Rattle.gv_frames.specs.declared.frame.Turn.{Turn}
use Rattle.gv_frames.specs.declared.frame.Turn.TheVariants.{Call, Done, Print, Thrown, CellsSpent}
use Rattle.gv_frames.specs.declared.frame.WalkFrame.{WalkFrame}
use Rattle.gv_frames.specs.declared.frame.WalkFrame.TheVariants as frame

abbrev pub called_name : Called → List ℕ
called_name called.Enter = codes "#enter"
called_name called.New = codes "#new"
called_name called.Use = codes "#use"
called_name called.Invoke = codes "#invoke"
called_name called.ToString = codes "toString"
called_name called.Call = codes "call"
called_name called.AsBoolean = codes "asBoolean"
called_name called.Equals = codes "equals"
called_name called.HashCode = codes "hashCode"
called_name called.Plus = codes "plus"

abbrev pub called_by : Question → Called
called_by question.Enter = called.Enter
called_by question.ToString = called.ToString
called_by question.Call = called.Call
called_by question.AsBoolean = called.AsBoolean
called_by (question.Equals v) = called.Equals
called_by question.HashCode = called.HashCode

abbrev pub args_of : Option Value → List Value
args_of None = []
args_of (Some v) = v ∷ []

-- a question is the call that asks it
abbrev pub asked : WalkFrame → Value → Question → Turn
asked waits receiver q = Call waits receiver (called_by q) (args_of (argument_of q))

abbrev pub truth_turn : TruthTurn → Turn
truth_turn (truth.Is b) = Done (Truth b)
truth_turn (truth.Asks walk receiver q) = asked (frame.Truth walk) receiver q

abbrev pub equal_turn : EqualTurn → Turn
equal_turn (equal.Is b) = Done (Truth b)
equal_turn (equal.Asks walk receiver q) = asked (frame.Equal walk) receiver q

abbrev pub said_turn : SaidTurn → Turn
said_turn (said.Asks saying receiver q) = asked (frame.Said saying) receiver q
said_turn (said.Print text) = Print text
said_turn (said.Done v) = Done v
said_turn said.CellsSpent = CellsSpent

abbrev pub search_turn : SearchTurn → Turn
search_turn (search.Asks s receiver q) = asked (frame.Search s) receiver q
search_turn (search.Done v) = Done v

abbrev pub distinct_turn : DistinctTurn → Turn
distinct_turn (distinct.Asks d receiver q) = asked (frame.Distinct d) receiver q
distinct_turn (distinct.Done v) = Done v
distinct_turn distinct.CellsSpent = CellsSpent

abbrev pub values_of : Args → List Value
values_of (One v) = v ∷ []
values_of (Two v w) = v ∷ w ∷ []

abbrev pub calls : WalkFrame → Value → Args → Turn
calls waits closure args = Call waits closure called.Call (values_of args)

abbrev pub fold_turn : FoldTurn → Turn
fold_turn (fold.Calls f args) = calls (frame.Fold f) f.closure args
fold_turn (fold.Asks f receiver q) = asked (frame.Fold f) receiver q
fold_turn (fold.Done v) = Done v
fold_turn fold.CellsSpent = CellsSpent

module _ (names : List (List ℕ)) (classes : List Declared) (heap : HeapState) where
  abbrev pub kind_name : Value → List ℕ
  kind_name Null = codes "null"
  kind_name v = class_text names classes (class_of heap v)

  -- an answer to `hashCode` that is no Integer
  abbrev pub no_integer : Value → Turn
  no_integer v = Thrown GroovyCastException (Some (codes "Cannot cast object of class '" ++ kind_name v ++ codes "' to class 'Integer'"))

  abbrev pub hash_turn : HashTurn → Turn
  hash_turn (hash.Is h) = Done (Int h)
  hash_turn (hash.NoInteger answer) = no_integer answer
  hash_turn (hash.Asks walk receiver q) = asked (frame.Hash walk) receiver q
