use Rattle.std.proofs.Common.{◌++◌, ◌≤◌, List, length}
use Rattle.gv_lex.specs.declared.token.Token.{Token}
use Rattle.gv_tree.specs.declared.expr.Arg.{Arg}
use Rattle.gv_grammar.specs.Phrases.{Nothing}
use Rattle.gv_grammar.specs.Commands.{AreCommandArgs}
use Rattle.gv_cursor.specs.Reading.{Stopped}
use Rattle.gv_commands.proofs.commands.command_args.Given as goal

abbrev pub invariant-loop-args : goal.invariant-loop-args
invariant-loop-args l = record {
  shorter : length l.tokens.rest.now ≤ length l.fn.tokens.rest.now;
  sound : (xs : List Arg) (rest : List Token) → AreCommandArgs l.all xs l.tokens.rest.now rest → AreCommandArgs l.all (l.args ++ xs) l.fn.tokens.rest.now rest;
  refused : Nothing (Stopped (AreCommandArgs l.all)) l.tokens.rest.now → Nothing (Stopped (AreCommandArgs l.all)) l.fn.tokens.rest.now;
}

abbrev pub decreases-loop-args : goal.decreases-loop-args
decreases-loop-args l = length l.tokens.rest.now
