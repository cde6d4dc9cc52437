use Rattle.std.proofs.Common.{◌≡◌, Some}
use Rattle.gv_grammar.specs.Tokens.{kind_of, postfix_of}
use Rattle.gv_grammar.proofs.LongerPaths as longer
use Rattle.gv_exprs.proofs.reader.Exprs.suffix.Goals as goal

pub returns-in-Some : goal.returns-in-Some
returns-in-Some g c =
    let p : postfix_of (kind_of c.args.tokens.now.rest.now) ≡ Some c.in-Some.op = cc in
    rw (c.place-place.ensures, c.in_ok-new.ensures, c.advance.ensures) (longer.postfix_here c.args.self.now.all _ p)
