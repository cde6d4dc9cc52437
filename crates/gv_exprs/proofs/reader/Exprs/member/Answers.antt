use Rattle.std.proofs.Common.{◌≡◌, length, length-drop, drop, arith, refl, ap, Some, None}
use Rattle.gv_grammar.specs.Tokens.{kind_of, member_of}
use Rattle.gv_grammar.specs.Exprs.{IsMemberName}
use Rattle.gv_grammar.proofs.LongerPaths as longer
use Rattle.gv_exprs.proofs.reader.Exprs.member.Goals as goal

pub returns-in_default : goal.returns-in_default
returns-in_default g c = let p : member_of (kind_of c.args.tokens.now.rest.now) ≡ None = cc in absurd (c.requires.next p)

pub member_name-requires-clause-within : goal.member_name-requires-clause-within
member_name-requires-clause-within g c = let a = ap length c.advance.ensures in let b = length-drop 1 c.args.tokens.now.rest.now in omega arith

pub returns-in_ok-new-in-Ok : goal.returns-in_ok-new-in-Ok
returns-in_ok-new-in-Ok g c =
    let p : member_of (kind_of c.args.tokens.now.rest.now) ≡ Some c.in-Some.op = cc in
    let d : IsMemberName c.args.self.now.all c.in-Ok.label (drop 1 c.args.tokens.now.rest.now) c.member_name.new.tokens.rest.now = rw (← c.advance.ensures) (c.in-Ok.ensures.is) in
    rw (c.place-place.ensures, c.in_ok-new-in-Ok.ensures) (longer.member_here c.args.self.now.all _ p d)

pub returns-in-Err-Refused : goal.returns-in-Err-Refused
returns-in-Err-Refused g c =
    let p : member_of (kind_of c.args.tokens.now.rest.now) ≡ Some c.in-Some.op = cc in
    (refl, refl, longer.no_member c.args.self.now.all p (rw (← c.advance.ensures) (rw c.in-Err-Refused.field-0-is at (c.in-Err-Refused.ensures))))
