-- The written code of a unit does what the unit means.
use Rattle.std.proofs.Common.{◌≡◌, List, subst, sym}
use Rattle.gv_core.specs.declared.stmt.Source.{Source}
use Rattle.gv_code.specs.declared.code.Body.{Body}
use Rattle.gv_written.specs.Correct.{IsRight}
use Rattle.gv_written.specs.Written.{code_of}
use Rattle.gv_written.proofs.Bodies.{right}

pub code_right : (code : List Body) (unit : List Source) → code ≡ code_of unit → IsRight code unit
code_right code unit e = subst (λ c. IsRight c unit) (sym e) (right unit)
