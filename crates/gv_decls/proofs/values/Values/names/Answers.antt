use Rattle.std.proofs.Common.{[], ◌∷◌, arith, append_assoc}
use Rattle.gv_spelling.specs.declared.kinds.Symbol.TheVariants as symbol
use Rattle.gv_grammar.specs.Tokens.{Eats}
use Rattle.gv_grammar.specs.Stmts.{AreNames}
use Rattle.gv_grammar.proofs.Lengths.{less, of_eats}
use Rattle.gv_decls.specs.Phrases.{IsName}
use Rattle.gv_decls.proofs.Declarations.{of_name, last_name, one_more_name, no_names_name, no_names_comma, no_more_names}
use Rattle.gv_cursor.proofs.Results.{passed_on_exactly, unexpected_on_exactly}
use Rattle.gv_decls.proofs.values.Values.names.Goals as goal

pub loop-names-init : goal.loop-names-init
loop-names-init g c = record { sound = λ xs rest d. rw (c.new-names.ensures) d; refused = λ f. f }

pub returns-in_err-ident : goal.returns-in_err-ident
returns-in_err-ident g c = passed_on_exactly IsName (AreNames c.args.self.now.tokens.now) _ _ _ _ c.from_residual.result (c.from_residual.ensures.1) (λ f. c.loop-names.invariant.refused (no_names_name c.args.self.now.tokens.now f)) (c.in_err-ident.ensures)

pub returns-then-eat : goal.returns-then-eat
returns-then-eat g c = rw (c.in_ok-push.ensures.ok) (c.loop-names.invariant.sound (c.in_ok-ident.field-0 ∷ []) _ (last_name c.args.self.now.tokens.now (c.in_ok-ident.ensures) (c.if-eat.ensures)))

pub loop-names-smaller : goal.loop-names-smaller
loop-names-smaller g c =
    let m : Eats symbol.Comma c.ident.new.cursor.rest.now c.expect.new.self.rest.now = rw (← (c.if-eat.ensures.0)) (c.in_ok-expect.ensures) in
    let a = less (of_name (c.in_ok-ident.ensures)) in let b = less (of_eats m) in omega arith

pub loop-names-preserved : goal.loop-names-preserved
loop-names-preserved g c =
    let m : Eats symbol.Comma c.ident.new.cursor.rest.now c.expect.new.self.rest.now = rw (← (c.if-eat.ensures.0)) (c.in_ok-expect.ensures) in
    record {
      sound = λ xs rest i. rw (c.in_ok-push.ensures.ok, append_assoc) (c.loop-names.invariant.sound (c.in_ok-ident.field-0 ∷ xs) rest (one_more_name c.args.self.now.tokens.now (c.in_ok-ident.ensures) m i));
      refused = λ n. c.loop-names.invariant.refused (no_more_names c.args.self.now.tokens.now (c.in_ok-ident.ensures) m n);
    }

pub returns-in_err-expect : goal.returns-in_err-expect
returns-in_err-expect g c =
    unexpected_on_exactly (AreNames c.args.self.now.tokens.now) (Eats symbol.Comma) _ _ _ _ _ c.from_residual-in_err-expect.result (c.from_residual-in_err-expect.ensures.1)
    (λ f. c.loop-names.invariant.refused (no_names_comma c.args.self.now.tokens.now (c.in_ok-ident.ensures) (c.if-eat.ensures.1) (rw (← (c.if-eat.ensures.0)) f))) (c.in_err-expect.ensures)
