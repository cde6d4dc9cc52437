-- What is told of a run.
use Rattle.std.specs.Prelude.{ℕ, List, [], ◌∷◌, ◌++◌, codes, Option, Some, None}
use Rattle.gv_base.specs.declared.value.Value.{Value}
use Rattle.gv_base.specs.declared.value.Value.TheVariants.{Obj}
use Rattle.gv_heap.specs.Heap.{HeapState, object_at}
use Rattle.gv_heap.specs.declared.object.Object.{Object}
use Rattle.gv_heap.specs.declared.object.Object.TheVariants as object
use Rattle.gv_rows.specs.Values.{class_of, class_text}
use Rattle.gv_meaning.specs.declared.world.World.{World}
use Rattle.gv_meaning.specs.World.{Answer, Got, Threw, Stopped}
use Rattle.gv_simulate.specs.declared.report.Ending.{Ending}
use Rattle.gv_simulate.specs.declared.report.Ending.TheVariants as ending
use Rattle.gv_simulate.specs.declared.report.Report.{Report}

-- the text of a String
abbrev pub text_in : Option Object → Option (List ℕ)
text_in (Some (object.Text text)) = Some text
text_in o = None

abbrev pub text_at : HeapState → Value → Option (List ℕ)
text_at heap (Obj id) = text_in (object_at heap id)
text_at heap v = None

-- the message of an exception is its first field
abbrev pub first_text : HeapState → List Value → Option (List ℕ)
first_text heap [] = None
first_text heap (v ∷ vs) = text_at heap v

abbrev pub message_in : HeapState → Option Object → Option (List ℕ)
message_in heap (Some (object.Instance i)) = first_text heap i.fields
message_in heap o = None

abbrev pub message_of : HeapState → Value → Option (List ℕ)
message_of heap (Obj id) = message_in heap (object_at heap id)
message_of heap v = None

-- an exception's class, and its message where it has one
abbrev pub with_message : List ℕ → Option (List ℕ) → List ℕ
with_message name None = name
with_message name (Some message) = name ++ codes ": " ++ message

abbrev pub uncaught_text : Value → World → List ℕ
uncaught_text v w = with_message (class_text w.names w.classes (class_of w.heap v)) (message_of w.heap v)

abbrev pub ending_of : Answer → Ending
ending_of (Got v w) = ending.Value
ending_of (Threw v w) = ending.Uncaught (uncaught_text v w)
ending_of (Stopped y w) = ending.Stopped y

abbrev pub output_of : Answer → List ℕ
output_of (Got v w) = w.output
output_of (Threw v w) = w.output
output_of (Stopped y w) = w.output

abbrev pub report_of : Answer → Report
report_of o = record { output = output_of o; ending = ending_of o }
