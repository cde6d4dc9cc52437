use Rattle.std.proofs.Common.{[], ◌∷◌, arith, append_assoc, inl, inr}
use Rattle.gv_spelling.specs.declared.kinds.Symbol.TheVariants as symbol
use Rattle.gv_grammar.specs.Tokens.{Eats}
use Rattle.gv_grammar.specs.Stmts.{AreParams, no_param, some_params}
use Rattle.gv_grammar.proofs.Lengths.{less, of_eats}
use Rattle.gv_cursor.proofs.Results.{passed_on_exactly, unexpected_on_exactly}
use Rattle.gv_decls.specs.Phrases.{IsParamAlone}
use Rattle.gv_grammar.proofs.StmtLengths.{of_param}
use Rattle.gv_decls.proofs.ParamPhrases.{closing_symbol, some_behind, no_params_param, last_one, one_more, no_params_behind, no_more_params}
use Rattle.gv_decls.proofs.values.Values.params.Goals as goal

pub returns-then-eat : goal.returns-then-eat
returns-then-eat g c = rw (c.new-params.ensures) (no_param (c.if-eat.ensures))

pub loop-params-init : goal.loop-params-init
loop-params-init g c = record {
  shorter = rw (c.if-eat.ensures.0) omega arith;
  sound = λ xs rest d. rw (c.new-params.ensures, ← (c.if-eat.ensures.0)) (some_params d);
  refused = λ f. some_behind c.args.self.now.tokens.now (c.if-eat.ensures.1) (rw (← (c.if-eat.ensures.0)) f);
}

pub param-requires-clause-within : goal.param-requires-clause-within
param-requires-clause-within g c = let a = c.loop-params.invariant.shorter in let b = c.requires.within in omega arith

pub returns-in_err-param : goal.returns-in_err-param
returns-in_err-param g c =
    passed_on_exactly (IsParamAlone c.args.self.now.tokens.now) (AreParams c.args.self.now.tokens.now c.args.close) _ _ _ _ c.from_residual.result (c.from_residual.ensures.1)
    (λ f. c.loop-params.invariant.refused (no_params_param c.args.self.now.tokens.now (closing_symbol (c.requires.close) c.args.self.now.tokens.now) f)) (c.in_err-param.ensures)

pub returns-then-eat-2 : goal.returns-then-eat-2
returns-then-eat-2 g c = rw (c.in_ok-push.ensures.ok) (c.loop-params.invariant.sound (c.in_ok-param.param ∷ []) _ (last_one c.args.self.now.tokens.now (c.in_ok-param.ensures) (c.if-eat-2.ensures)))

pub returns-then-is_rest : goal.returns-then-is_rest
returns-then-is_rest g c =
    rw (c.refuse.ensures.0) (c.loop-params.invariant.refused (no_params_behind c.args.self.now.tokens.now (closing_symbol (c.requires.close) c.args.self.now.tokens.now) (c.in_ok-param.ensures) (c.if-eat-2.ensures.1) (inl (c.if-is_rest.true))))

pub loop-params-smaller : goal.loop-params-smaller
loop-params-smaller g c =
    let m : Eats symbol.Comma c.param.new.cursor.rest.now c.expect.new.self.rest.now = rw (← (c.if-eat-2.ensures.0)) (c.in_ok-expect.ensures) in
    let a = less (of_param c.args.self.now.tokens.now (c.in_ok-param.ensures.is)) in let b = less (of_eats m) in omega arith

pub loop-params-preserved : goal.loop-params-preserved
loop-params-preserved g c =
    let m : Eats symbol.Comma c.param.new.cursor.rest.now c.expect.new.self.rest.now = rw (← (c.if-eat-2.ensures.0)) (c.in_ok-expect.ensures) in
    let a = less (of_param c.args.self.now.tokens.now (c.in_ok-param.ensures.is)) in let b = less (of_eats m) in let s = c.loop-params.invariant.shorter in
    record {
      shorter = omega arith;
      sound = λ xs rest i. rw (c.in_ok-push.ensures.ok, append_assoc) (c.loop-params.invariant.sound (c.in_ok-param.param ∷ xs) rest (one_more c.args.self.now.tokens.now (c.in_ok-param.ensures) (c.if-is_rest.false) m i));
      refused = λ n. c.loop-params.invariant.refused (no_more_params c.args.self.now.tokens.now (closing_symbol (c.requires.close) c.args.self.now.tokens.now) (c.in_ok-param.ensures) m n);
    }

pub returns-in_err-expect : goal.returns-in_err-expect
returns-in_err-expect g c =
    unexpected_on_exactly (AreParams c.args.self.now.tokens.now c.args.close) (Eats symbol.Comma) _ _ _ _ _ c.from_residual-in_err-expect.result (c.from_residual-in_err-expect.ensures.1)
    (λ f. c.loop-params.invariant.refused (no_params_behind c.args.self.now.tokens.now (closing_symbol (c.requires.close) c.args.self.now.tokens.now) (c.in_ok-param.ensures) (c.if-eat-2.ensures.1) (inr (rw (← (c.if-eat-2.ensures.0)) f)))) (c.in_err-expect.ensures)
