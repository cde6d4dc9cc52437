use Rattle.std.proofs.Common.{[], ◌∷◌, arith, append_assoc}
use Rattle.gv_grammar.specs.Stmts.{IsVar, AreVars, last_var, more_vars}
use Rattle.gv_grammar.proofs.Lengths.{less, of_eats}
use Rattle.gv_cursor.specs.Reading.{Stopped}
use Rattle.gv_decls.proofs.Declarations.{no_comma_there, no_vars_var, no_more_vars}
use Rattle.gv_grammar.proofs.StmtLengths.{of_var}
use Rattle.gv_cursor.proofs.Results.{passed_on_exactly}
use Rattle.gv_decls.proofs.values.Values.vars.Goals as goal

pub loop-vars-init : goal.loop-vars-init
loop-vars-init g c = record { shorter = omega arith; sound = λ xs rest d. rw (c.new-vars.ensures) d; refused = λ f. f }

pub var-requires-clause-within : goal.var-requires-clause-within
var-requires-clause-within g c = let a = c.loop-vars.invariant.shorter in let b = c.requires.within in omega arith

pub returns-in_err-var : goal.returns-in_err-var
returns-in_err-var g c = passed_on_exactly (Stopped (IsVar c.args.self.now.tokens.now)) (Stopped (AreVars c.args.self.now.tokens.now)) _ _ _ _ c.from_residual.result (c.from_residual.ensures.1) (λ f. c.loop-vars.invariant.refused (no_vars_var c.args.self.now.tokens.now f)) (c.in_err-var.ensures)

pub returns-then-not-eat : goal.returns-then-not-eat
returns-then-not-eat g c = record {
  is = rw (c.in_ok-push.ensures.ok, c.if-not-eat.ensures.0) (c.loop-vars.invariant.sound (c.in_ok-var.field-0 ∷ []) _ (last_var (c.in_ok-var.ensures.is) (no_comma_there (c.if-not-eat.ensures.1))));
  stops = rw (c.if-not-eat.ensures.0) (c.in_ok-var.ensures.stops);
}

pub loop-vars-smaller : goal.loop-vars-smaller
loop-vars-smaller g c = let a = less (of_var c.args.self.now.tokens.now (c.in_ok-var.ensures.is)) in let b = less (of_eats (c.if-not-eat.ensures)) in omega arith

pub loop-vars-preserved : goal.loop-vars-preserved
loop-vars-preserved g c =
    let a = less (of_var c.args.self.now.tokens.now (c.in_ok-var.ensures.is)) in let b = less (of_eats (c.if-not-eat.ensures)) in let s = c.loop-vars.invariant.shorter in
    record {
      shorter = omega arith;
      sound = λ xs rest i. rw (c.in_ok-push.ensures.ok, append_assoc) (c.loop-vars.invariant.sound (c.in_ok-var.field-0 ∷ xs) rest (more_vars (c.in_ok-var.ensures.is) (c.if-not-eat.ensures) i));
      refused = λ n. c.loop-vars.invariant.refused (no_more_vars c.args.self.now.tokens.now (c.in_ok-var.ensures) (c.if-not-eat.ensures) n);
    }
