use Rattle.std.proofs.Common.{◌++◌, ◌≤◌, List, length}
use Rattle.gv_lex.specs.declared.token.Token.{Token}
use Rattle.gv_tree.specs.declared.expr.Arg.{Arg}
use Rattle.gv_grammar.specs.Phrases.{Nothing}
use Rattle.gv_grammar.specs.Exprs.{AreArguments, AreArgs}
use Rattle.gv_exprs.proofs.reader.Exprs.arguments.Given as goal

abbrev pub invariant-loop-args : goal.invariant-loop-args
invariant-loop-args g l = record {
  shorter : length l.tokens.rest.now ≤ length l.fn.tokens.rest.now;
  sound : (xs : List Arg) (rest : List Token) → AreArgs l.self.all xs l.tokens.rest.now rest → AreArguments l.self.all (l.args ++ xs) l.fn.tokens.rest.now rest;
  refused : Nothing (AreArgs l.self.all) l.tokens.rest.now → Nothing (AreArguments l.self.all) l.fn.tokens.rest.now;
}

abbrev pub decreases-loop-args : goal.decreases-loop-args
decreases-loop-args g l = length l.tokens.rest.now
