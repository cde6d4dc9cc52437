use Rattle.std.proofs.Common.{[], ◌∷◌, arith, append_assoc}
use Rattle.gv_grammar.specs.Commands.{IsCommandArg, AreCommandArgs, last_carg, more_cargs}
use Rattle.gv_grammar.proofs.Lengths.{less, of_eats}
use Rattle.gv_grammar.proofs.Longest.{symbol_eaten}
use Rattle.gv_cursor.specs.Reading.{Stopped}
use Rattle.gv_commands.proofs.Heading as heading
use Rattle.gv_cursor.proofs.Results as results
use Rattle.gv_commands.proofs.commands.command_args.Goals as goal

pub loop-args-init : goal.loop-args-init
loop-args-init c = record { shorter = omega arith; sound = λ xs rest d. rw (c.new-args.ensures) d; refused = λ f. f }

pub returns-in_err-command_arg : goal.returns-in_err-command_arg
returns-in_err-command_arg c =
    results.passed_on_exactly (Stopped (IsCommandArg c.args.all)) (Stopped (AreCommandArgs c.args.all)) _ _ _ _ c.from_residual.result (c.from_residual.ensures.1)
    (λ f. c.loop-args.invariant.refused (heading.no_first_carg c.args.all f)) (c.in_err-command_arg.ensures)

pub returns-then-not-eat : goal.returns-then-not-eat
returns-then-not-eat c =
    rw (c.if-not-eat.ensures.0, c.in_ok-push.ensures.ok)
    (record {
      is = c.loop-args.invariant.sound (c.in_ok-command_arg.field-0 ∷ []) _ (last_carg (c.in_ok-command_arg.ensures.is) (λ h. c.if-not-eat.ensures.1 _ (symbol_eaten _ h)));
      stops = c.in_ok-command_arg.ensures.stops;
    })

pub loop-args-smaller : goal.loop-args-smaller
loop-args-smaller c = let a = heading.carg_shorter c.args.all (c.in_ok-command_arg.ensures) in let b = less (of_eats c.if-not-eat.ensures) in omega arith

pub loop-args-preserved : goal.loop-args-preserved
loop-args-preserved c =
    let a = heading.carg_shorter c.args.all (c.in_ok-command_arg.ensures) in
    let b = less (of_eats c.if-not-eat.ensures) in
    let s = c.loop-args.invariant.shorter in
    record {
      shorter = omega arith;
      sound = λ xs rest d. rw (c.in_ok-push.ensures.ok, append_assoc) (c.loop-args.invariant.sound (c.in_ok-command_arg.field-0 ∷ xs) rest (more_cargs (c.in_ok-command_arg.ensures.is) c.if-not-eat.ensures d));
      refused = λ f. c.loop-args.invariant.refused (heading.no_more_cargs c.args.all (c.in_ok-command_arg.ensures) c.if-not-eat.ensures f);
    }
