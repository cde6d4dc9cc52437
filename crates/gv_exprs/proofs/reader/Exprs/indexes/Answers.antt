use Rattle.std.proofs.Common.{[], ◌∷◌, arith, append_assoc}
use Rattle.gv_spelling.specs.declared.kinds.Symbol.TheVariants as symbol
use Rattle.gv_grammar.specs.Tokens.{Eats}
use Rattle.gv_grammar.specs.Exprs.{IsExpr, AreIndexes, last_index, more_indexes}
use Rattle.gv_grammar.proofs.Lengths.{less, of_expr, of_eats}
use Rattle.gv_cursor.proofs.Results as results
use Rattle.gv_exprs.proofs.Lists.{long_indexes, no_index_expr, no_index_comma, no_more_indexes}
use Rattle.gv_exprs.proofs.reader.Exprs.indexes.Goals as goal

pub loop-indexes-init : goal.loop-indexes-init
loop-indexes-init g c = record { shorter = omega arith; sound = λ xs rest d. rw (c.new-indexes.ensures) d; refused = λ f. f }

pub inner_expr-requires-clause-shorter : goal.inner_expr-requires-clause-shorter
inner_expr-requires-clause-shorter g c = let a = c.loop-indexes.invariant.shorter in let b = c.requires.shorter in omega arith

pub returns-in_err-inner_expr : goal.returns-in_err-inner_expr
returns-in_err-inner_expr g c = results.passed_on (IsExpr c.args.self.now.all) (AreIndexes c.args.self.now.all) _ _ _ _ c.from_residual.result (c.from_residual.ensures.1) (λ f. c.loop-indexes.invariant.refused (no_index_expr c.args.self.now.all f)) (c.in_err-inner_expr.ensures)

pub returns-then-eat : goal.returns-then-eat
returns-then-eat g c = rw (c.in_ok-push.ensures.ok) (long_indexes c.args.self.now.all (c.loop-indexes.invariant.sound (c.in_ok-inner_expr.field-0 ∷ []) _ (last_index (c.in_ok-inner_expr.ensures.is) (c.if-eat.ensures))))

pub loop-indexes-smaller : goal.loop-indexes-smaller
loop-indexes-smaller g c =
    let m : Eats symbol.Comma c.inner_expr.new.tokens.rest.now c.expect.new.self.rest.now = rw (← (c.if-eat.ensures.0)) (c.in_ok-expect.ensures) in
    let a = less (of_expr c.args.self.now.all (c.in_ok-inner_expr.ensures.is)) in let b = less (of_eats m) in omega arith

pub loop-indexes-preserved : goal.loop-indexes-preserved
loop-indexes-preserved g c =
    let m : Eats symbol.Comma c.inner_expr.new.tokens.rest.now c.expect.new.self.rest.now = rw (← (c.if-eat.ensures.0)) (c.in_ok-expect.ensures) in
    let a = less (of_expr c.args.self.now.all (c.in_ok-inner_expr.ensures.is)) in let b = less (of_eats m) in let s = c.loop-indexes.invariant.shorter in
    record {
      shorter = omega arith;
      sound = λ xs rest i. rw (c.in_ok-push.ensures.ok, append_assoc) (c.loop-indexes.invariant.sound (c.in_ok-inner_expr.field-0 ∷ xs) rest (more_indexes (c.in_ok-inner_expr.ensures.is) m i));
      refused = λ n. c.loop-indexes.invariant.refused (no_more_indexes c.args.self.now.all (c.in_ok-inner_expr.ensures) m n);
    }

pub returns-in_err-expect : goal.returns-in_err-expect
returns-in_err-expect g c =
    results.unexpected_on (AreIndexes c.args.self.now.all) (Eats symbol.Comma) _ _ _ _ _ c.from_residual-in_err-expect.result (c.from_residual-in_err-expect.ensures.1)
    (λ f. c.loop-indexes.invariant.refused (no_index_comma c.args.self.now.all (c.in_ok-inner_expr.ensures) (c.if-eat.ensures.1) (rw (← (c.if-eat.ensures.0)) f))) (c.in_err-expect.ensures)
