use Rattle.std.proofs.Common.{arith, drop}
use Rattle.gv_spelling.proofs.Paths.{path_longest, no_path, end_some}
use Rattle.gv_spelling.proofs.strings.path_len.Goals as goal

pub returns-then-end-gt1-clause-some : goal.returns-then-end-gt1-clause-some
returns-then-end-gt1-clause-some c =
    let p = c.has_dollar.ensures.parts c.if-not-has_dollar.false in
    λ some. path_longest c.args.quote c.args.text.now c.path_end-end.result p.0 p.1 c.path_end-end.ensures.value (omega arith) c.path_end-end.ensures.within

pub returns-else-end-gt1-clause-none : goal.returns-else-end-gt1-clause-none
returns-else-end-gt1-clause-none c =
    λ zero. no_path c.args.quote c.args.text.now (omega (arith, end_some (drop 1 c.args.text.now), c.path_end-end.ensures.value))
