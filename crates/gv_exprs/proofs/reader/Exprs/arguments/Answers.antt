use Rattle.std.proofs.Common.{length, [], ◌∷◌, List, ap, subst, arith, append_assoc}
use Rattle.gv_spelling.specs.declared.kinds.Symbol.TheVariants as symbol
use Rattle.gv_lex.specs.declared.token.Token.{Token}
use Rattle.gv_grammar.specs.Tokens.{Eats}
use Rattle.gv_grammar.specs.Phrases.{Nothing}
use Rattle.gv_grammar.specs.Exprs.{AreArguments, no_argument, arguments, AreArgs, last_arg, more_args, IsArg}
use Rattle.gv_grammar.proofs.Lengths.{less, of_arg, of_eats}
use Rattle.gv_cursor.specs.Reading.{Before}
use Rattle.gv_exprs.specs.Elements.{ends_element}
use Rattle.gv_cursor.proofs.Results as results
use Rattle.gv_exprs.proofs.Lists.{long_arguments, no_arguments, no_arg, no_arg_comma, no_more_args}
use Rattle.gv_exprs.proofs.reader.Exprs.arguments.Goals as goal

pub returns-then-eat : goal.returns-then-eat
returns-then-eat g c = rw (c.new-args.ensures) (long_arguments c.args.self.now.all (no_argument (c.if-eat.ensures)))

pub loop-args-init : goal.loop-args-init
loop-args-init g c =
    let e = c.if-eat.ensures.0 in let h = ap length e in
    record {
      shorter = omega arith;
      sound = λ xs rest d. rw (c.new-args.ensures) (arguments (subst (λ (zs : List Token). AreArgs c.args.self.now.all xs zs rest) e d));
      refused = λ f. no_arguments c.args.self.now.all (c.if-eat.ensures.1) (subst (λ (zs : List Token). Nothing (AreArgs c.args.self.now.all) zs) e f);
    }

pub arg-requires-clause-shorter : goal.arg-requires-clause-shorter
arg-requires-clause-shorter g c = let a = c.loop-args.invariant.shorter in let b = c.requires.shorter in omega arith

pub returns-in_err-arg : goal.returns-in_err-arg
returns-in_err-arg g c = results.passed_on (Before ends_element (IsArg c.args.self.now.all)) (AreArguments c.args.self.now.all) _ _ _ _ c.from_residual.result (c.from_residual.ensures.1) (λ f. c.loop-args.invariant.refused (no_arg c.args.self.now.all f)) (c.in_err-arg.ensures)

pub returns-then-eat-2 : goal.returns-then-eat-2
returns-then-eat-2 g c = rw (c.in_ok-push.ensures.ok) (long_arguments c.args.self.now.all (c.loop-args.invariant.sound (c.in_ok-arg.field-0 ∷ []) _ (last_arg (c.in_ok-arg.ensures.is) (c.if-eat-2.ensures))))

pub loop-args-smaller : goal.loop-args-smaller
loop-args-smaller g c =
    let m : Eats symbol.Comma c.arg.new.tokens.rest.now c.expect.new.self.rest.now = rw (← (c.if-eat-2.ensures.0)) (c.in_ok-expect.ensures) in
    let a = less (of_arg c.args.self.now.all (c.in_ok-arg.ensures.is)) in let b = less (of_eats m) in omega arith

pub loop-args-preserved : goal.loop-args-preserved
loop-args-preserved g c =
    let m : Eats symbol.Comma c.arg.new.tokens.rest.now c.expect.new.self.rest.now = rw (← (c.if-eat-2.ensures.0)) (c.in_ok-expect.ensures) in
    let a = less (of_arg c.args.self.now.all (c.in_ok-arg.ensures.is)) in let b = less (of_eats m) in let s = c.loop-args.invariant.shorter in
    record {
      shorter = omega arith;
      sound = λ xs rest i. rw (c.in_ok-push.ensures.ok, append_assoc) (c.loop-args.invariant.sound (c.in_ok-arg.field-0 ∷ xs) rest (more_args (c.in_ok-arg.ensures.is) m i));
      refused = λ n. c.loop-args.invariant.refused (no_more_args c.args.self.now.all (c.in_ok-arg.ensures) m n);
    }

pub returns-in_err-expect : goal.returns-in_err-expect
returns-in_err-expect g c =
    results.unexpected_on (AreArguments c.args.self.now.all) (Eats symbol.Comma) _ _ _ _ _ c.from_residual-in_err-expect.result (c.from_residual-in_err-expect.ensures.1)
    (λ f. c.loop-args.invariant.refused (no_arg_comma c.args.self.now.all (c.in_ok-arg.ensures) (c.if-eat-2.ensures.1) (rw (← (c.if-eat-2.ensures.0)) f))) (c.in_err-expect.ensures)
