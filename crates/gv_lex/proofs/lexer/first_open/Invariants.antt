use Rattle.std.proofs.Common.{◌≡◌, length, reverse}
use Rattle.gv_lex.specs.Lexing.{open_refusals}
use Rattle.gv_lex.specs.Places.{first_of}
use Rattle.gv_lex.proofs.lexer.first_open.Given as goal

abbrev pub invariant-around : goal.invariant-around
invariant-around l = first_of l.first (open_refusals (reverse l.rest)) ≡ first_of l.initial.first (open_refusals (reverse l.initial.rest))

abbrev pub decreases-around : goal.decreases-around
decreases-around l = length l.rest
