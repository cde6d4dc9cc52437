use Rattle.gv_grammar.specs.Exprs.{IsCond}
use Rattle.gv_grammar.specs.Commands.{IsCommandArg}
use Rattle.gv_cursor.specs.Reading.{Stopped}
use Rattle.gv_commands.proofs.Heading as heading
use Rattle.gv_cursor.proofs.Results as results
use Rattle.gv_cursor.proofs.Results.{refused_on}
use Rattle.gv_commands.proofs.commands.keyed_arg.Goals as goal

pub returns-in_err-value : goal.returns-in_err-value
returns-in_err-value c =
    results.passed_on_exactly (IsCond c.args.all) (Stopped (IsCommandArg c.args.all)) _ _ _ _ c.from_residual.result (c.from_residual.ensures.1)
    (λ f. heading.no_keyed_value c.args.all {k = c.args.key} _ c.requires.key c.requires.colon (rw (← c.advance.ensures, ← c.advance-2.ensures) f)) (c.in_err-value.ensures)

pub returns-in_err-expect_stop : goal.returns-in_err-expect_stop
returns-in_err-expect_stop c =
    refused_on (Stopped (IsCommandArg c.args.all)) _ _ _ c.from_residual-in_err-expect_stop.result (c.from_residual-in_err-expect_stop.ensures.1) (c.in_err-expect_stop.ensures.stops.0)
    (heading.keyed_value_goes_on c.args.all {k = c.args.key} _ c.requires.key c.requires.colon {x = c.in_ok-value.value} {us = c.read_cond.new.tokens.rest.now} (rw (← c.advance.ensures, ← c.advance-2.ensures) (c.in_ok-value.ensures))
    (c.in_err-expect_stop.ensures.stops.1))

pub returns : goal.returns
returns c =
    rw (c.in_ok-expect_stop.ensures.same, c.in_ok-new.ensures)
    (heading.keyed_value c.args.all _ c.requires.key c.requires.colon (rw (← c.advance.ensures, ← c.advance-2.ensures) (c.in_ok-value.ensures.is)) c.in_ok-expect_stop.ensures.stops)
