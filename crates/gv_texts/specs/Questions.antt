-- The calls by which walks ask. A name that begins with `#` is no method's: a value that lies in another one is entered.
use Rattle.std.specs.Prelude.{ℕ, List, codes, Option, Some, None}
use Rattle.gv_base.specs.declared.value.Value.{Value}
use Rattle.gv_texts.specs.declared.question.Question.{Question}
use Rattle.gv_texts.specs.declared.question.Question.TheVariants.{Enter, ToString, Call, AsBoolean, Equals, HashCode}

abbrev pub question_name : Question → List ℕ
question_name Enter = codes "#enter"
question_name ToString = codes "toString"
question_name Call = codes "call"
question_name AsBoolean = codes "asBoolean"
question_name (Equals v) = codes "equals"
question_name HashCode = codes "hashCode"

abbrev pub argument_of : Question → Option Value
argument_of (Equals v) = Some v
argument_of question = None
