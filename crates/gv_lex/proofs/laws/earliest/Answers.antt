use Rattle.std.proofs.Common.{None}
use Rattle.std.specs.Str.{chars}
use Rattle.gv_lex.specs.Lexing.{reading_of}
use Rattle.gv_lex.specs.Places.{first_of}
use Rattle.gv_lex.proofs.Order.{earliest, judged-err}
use Rattle.gv_lex.proofs.laws.earliest.Goals as goal

pub returns : goal.returns
returns c = λ file bytes r utf8 is.
    let reading = reading_of file (chars bytes) in
    earliest r reading.refusals (judged-err (first_of None reading.refusals) reading.tokens r (rw utf8 at is))
