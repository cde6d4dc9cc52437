use Rattle.std.proofs.Common.{[], ◌∷◌, arith, append_assoc}
use Rattle.gv_grammar.specs.Scripts.{IsDotted}
use Rattle.gv_grammar.proofs.Lengths.{less, of_eats}
use Rattle.gv_cursor.proofs.Results.{passed_on_exactly}
use Rattle.gv_decls.specs.Phrases.{IsName}
use Rattle.gv_stmts.proofs.Leads.{of_name, last_name, more_names, no_dotted_name, no_more_names}
use Rattle.gv_stmts.proofs.classes.dotted.Goals as goal

pub loop-names-init : goal.loop-names-init
loop-names-init c = record { sound = λ xs rest d. rw (c.new-names.ensures) d; refused = λ f. f }

pub returns-in_err-ident : goal.returns-in_err-ident
returns-in_err-ident c = passed_on_exactly IsName IsDotted _ _ _ _ c.from_residual.result (c.from_residual.ensures.1) (λ f. c.loop-names.invariant.refused (no_dotted_name f)) (c.in_err-ident.ensures)

pub returns-then-not-eat : goal.returns-then-not-eat
returns-then-not-eat c = rw (c.in_ok-push.ensures.ok, c.if-not-eat.ensures.0) (c.loop-names.invariant.sound (c.in_ok-ident.field-0 ∷ []) _ (last_name (c.in_ok-ident.ensures) (c.if-not-eat.ensures.1)))

pub loop-names-smaller : goal.loop-names-smaller
loop-names-smaller c = let a = less (of_name (c.in_ok-ident.ensures)) in let b = less (of_eats (c.if-not-eat.ensures)) in omega arith

pub loop-names-preserved : goal.loop-names-preserved
loop-names-preserved c = record {
  sound = λ xs rest d. rw (c.in_ok-push.ensures.ok, append_assoc) (c.loop-names.invariant.sound (c.in_ok-ident.field-0 ∷ xs) rest (more_names (c.in_ok-ident.ensures) (c.if-not-eat.ensures) d));
  refused = λ f. c.loop-names.invariant.refused (no_more_names (c.in_ok-ident.ensures) (c.if-not-eat.ensures) f);
}
