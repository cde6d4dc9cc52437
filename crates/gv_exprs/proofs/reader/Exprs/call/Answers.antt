use Rattle.std.proofs.Common.{arith, refl}
use Rattle.gv_grammar.specs.Exprs.{call}
use Rattle.gv_grammar.proofs.LongerPaths as longer
use Rattle.gv_exprs.proofs.ResultsPaths.{passed, passed_less}
use Rattle.gv_exprs.proofs.reader.Exprs.call.Goals as goal

pub arguments-requires-clause-shorter : goal.arguments-requires-clause-shorter
arguments-requires-clause-shorter g c = let a = passed_less c.args.tokens.now.rest.now c.advance.new.self.rest.now c.requires.next c.advance.ensures in omega arith

pub returns-in_ok-new-in-Ok : goal.returns-in_ok-new-in-Ok
returns-in_ok-new-in-Ok g c =
    rw (c.place-place.ensures, c.in_ok-new-in-Ok.ensures, c.in_ok-all_args-in-Ok.ensures.2) (call (passed _ c.requires.next c.advance.ensures) (c.in-Ok.ensures.is) (c.in_ok-all_args-in-Ok.ensures.1))

pub returns-in-Err-Refused : goal.returns-in-Err-Refused
returns-in-Err-Refused g c = (refl, refl, longer.no_call c.args.self.now.all (passed _ c.requires.next c.advance.ensures) (rw c.in-Err-Refused.field-0-is at (c.in-Err-Refused.ensures)))
