use Rattle.gv_spelling.specs.declared.kinds.Symbol.TheVariants as symbol
use Rattle.gv_grammar.specs.Stmts.{AreParams, IsBlock}
use Rattle.gv_grammar.specs.Scripts.{routine}
use Rattle.gv_cursor.proofs.Results.{passed_on_exactly}
use Rattle.gv_stmts.proofs.Routines.{Routine, no_routine_params, no_routine_body}
use Rattle.gv_stmts.proofs.classes.routine.Goals as goal

pub returns-in_err-params : goal.returns-in_err-params
returns-in_err-params c = passed_on_exactly (AreParams c.args.tokens.now symbol.RightParen) (Routine c.args.tokens.now) _ _ _ _ c.from_residual-in_err-params.result (c.from_residual-in_err-params.ensures.1)
    (no_routine_params c.args.tokens.now (c.in_ok-expect.ensures)) (c.in_err-params.ensures)

pub returns-in_err-body : goal.returns-in_err-body
returns-in_err-body c = passed_on_exactly (IsBlock c.args.tokens.now) (Routine c.args.tokens.now) _ _ _ _ c.from_residual-in_err-body.result (c.from_residual-in_err-body.ensures.1)
    (no_routine_body c.args.tokens.now (c.in_ok-expect.ensures) (c.in_ok-params.ensures) c.may_line.ensures) (c.in_err-body.ensures)

pub returns : goal.returns
returns c = routine (c.in_ok-expect.ensures) (c.in_ok-params.ensures) c.may_line.ensures (c.in_ok-body.ensures)
