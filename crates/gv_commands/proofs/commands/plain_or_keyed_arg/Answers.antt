use Rattle.std.proofs.Common.{subst}
use Rattle.gv_grammar.specs.Exprs.{IsCond}
use Rattle.gv_grammar.specs.Commands.{IsCommandArg}
use Rattle.gv_grammar.proofs.Longest.{symbol_eaten}
use Rattle.gv_cursor.specs.Reading.{Stopped}
use Rattle.gv_commands.proofs.Heading as heading
use Rattle.gv_cursor.proofs.Results as results
use Rattle.gv_cursor.proofs.Results.{refused_on}
use Rattle.gv_commands.proofs.commands.plain_or_keyed_arg.Goals as goal

pub returns-in_err-first : goal.returns-in_err-first
returns-in_err-first c =
    results.passed_on_exactly (IsCond c.args.all) (Stopped (IsCommandArg c.args.all)) _ _ _ _ c.from_residual.result (c.from_residual.ensures.1)
    (λ f. heading.no_first_value c.args.all c.args.tokens.now.rest.now c.requires.no_key f) (c.in_err-first.ensures)

pub returns-in_err-expect_stop : goal.returns-in_err-expect_stop
returns-in_err-expect_stop c =
    refused_on (Stopped (IsCommandArg c.args.all)) _ _ _ c.from_residual-in_err-expect_stop.result (c.from_residual-in_err-expect_stop.ensures.1) (c.in_err-expect_stop.ensures.stops.0)
    (heading.first_goes_on_there c.args.all c.args.tokens.now.rest.now c.requires.no_key c.read_cond.new.tokens.rest.now (c.in_ok-first.ensures) (c.if-not-sees.ensures) (c.in_err-expect_stop.ensures.stops.1))

pub returns-then-not-sees : goal.returns-then-not-sees
returns-then-not-sees c =
    rw (c.in_ok-expect_stop.ensures.same, c.in_ok-new.ensures) (heading.plain_value c.args.all (c.in_ok-first.ensures.is) (c.if-not-sees.ensures) c.in_ok-expect_stop.ensures.stops)

pub returns-in_err-value-in-GString : goal.returns-in_err-value-in-GString
returns-in_err-value-in-GString c =
    results.passed_on_exactly (IsCond c.args.all) (Stopped (IsCommandArg c.args.all)) _ _ _ _ c.from_residual-in_err-value-in-GString.result (c.from_residual-in_err-value-in-GString.ensures.1)
    (λ f. heading.no_string_value c.args.all c.args.tokens.now.rest.now c.requires.no_key c.read_cond.new.tokens.rest.now (c.in_ok-first.ensures) (c.if-not-sees.ensures) (rw (← c.advance.ensures) f)) (c.in_err-value-in-GString.ensures)

pub returns-in_err-expect_stop-in-GString : goal.returns-in_err-expect_stop-in-GString
returns-in_err-expect_stop-in-GString c =
    refused_on (Stopped (IsCommandArg c.args.all)) _ _ _ c.from_residual-in_err-expect_stop-in-GString.result (c.from_residual-in_err-expect_stop-in-GString.ensures.1)
    (c.in_err-expect_stop-in-GString.ensures.stops.0)
    (heading.string_value_goes_on c.args.all c.args.tokens.now.rest.now c.requires.no_key c.read_cond.new.tokens.rest.now (c.in_ok-first.ensures) (c.if-not-sees.ensures)
    {w = c.in_ok-value-in-GString.value} c.read_cond-in-GString.new.tokens.rest.now (rw (← c.advance.ensures) (c.in_ok-value-in-GString.ensures)) (c.in_err-expect_stop-in-GString.ensures.stops.1))

pub returns-in-GString : goal.returns-in-GString
returns-in-GString c =
    rw (c.in_ok-expect_stop-in-GString.ensures.same, c.in_ok-new-in-GString.ensures)
    (heading.string_value c.args.all {p = c.in-GString.place} {g = c.in-GString.text} {v = c.in_ok-value-in-GString.value} c.args.tokens.now.rest.now c.read_cond.new.tokens.rest.now c.read_cond-in-GString.new.tokens.rest.now
    (subst (λ e. IsCond c.args.all e c.args.tokens.now.rest.now c.read_cond.new.tokens.rest.now) c.in-GString.is (c.in_ok-first.ensures.is))
    (symbol_eaten c.read_cond.new.tokens.rest.now (c.if-not-sees.ensures)) (rw (← c.advance.ensures) (c.in_ok-value-in-GString.ensures.is)) c.in_ok-expect_stop-in-GString.ensures.stops)

pub returns : goal.returns
returns c =
    rw (c.refuse.ensures.0)
    (heading.no_string_key c.args.all c.args.tokens.now.rest.now c.requires.no_key c.read_cond.new.tokens.rest.now (c.in_ok-first.ensures) (c.if-not-sees.ensures) c.in_default.not-GString)
