use Rattle.std.proofs.Common.{refl}
use Rattle.gv_lex.proofs.Putting.{follows_refused}
use Rattle.gv_lex.proofs.lexer.Lexer.inside.Goals as goal

pub returns-in-Close-clause-follows : goal.returns-in-Close-clause-follows
returns-in-Close-clause-follows c = rw c.in-Close.is c.end_text.ensures.follows

pub returns-in_ok-end_text-in-Unended-clause-follows : goal.returns-in_ok-end_text-in-Unended-clause-follows
returns-in_ok-end_text-in-Unended-clause-follows c = λ later keeps.
    rw c.in-Unended.is (follows_refused later c.args.self.now c.end_text-in-Unended.new.self c.refuse.new.self _ _ refl (c.in_ok-end_text-in-Unended.ensures.follows later keeps) (rw c.refusal.ensures at (c.refuse.ensures later)))

pub returns-in-Part-clause-follows : goal.returns-in-Part-clause-follows
returns-in-Part-clause-follows c = rw c.in-Part.is c.begin_part.ensures.follows

pub returns-in-Path-clause-follows : goal.returns-in-Path-clause-follows
returns-in-Path-clause-follows c = rw c.in-Path.is c.path.ensures.follows

pub returns-in-BadEscape-clause-follows : goal.returns-in-BadEscape-clause-follows
returns-in-BadEscape-clause-follows c = λ later keeps. rw c.in-BadEscape.is (rw c.refusal-in-BadEscape.ensures at (c.refuse-in-BadEscape.ensures later))

pub returns-in-LoneDollar-clause-follows : goal.returns-in-LoneDollar-clause-follows
returns-in-LoneDollar-clause-follows c = λ later keeps. rw c.in-LoneDollar.is (rw c.refusal-in-LoneDollar.ensures at (c.refuse-in-LoneDollar.ensures later))
