use Rattle.gv_grammar.specs.Scripts.{IsAnswer}
use Rattle.gv_cursor.proofs.Results.{passed_on_exactly}
use Rattle.gv_decls.specs.Phrases.{IsName}
use Rattle.gv_stmts.specs.Members.{GoesMethod}
use Rattle.gv_stmts.proofs.Routines.{Routine, method_goes, unanswered, unnamed_method, empty_method}
use Rattle.gv_stmts.proofs.classes.method.Goals as goal

pub returns-in_err-answer : goal.returns-in_err-answer
returns-in_err-answer c = passed_on_exactly (IsAnswer c.args.tokens.now) (GoesMethod c.args.tokens.now c.args.annotations c.args.modifiers) _ _ _ _ c.from_residual.result (c.from_residual.ensures.1)
    (unanswered c.args.tokens.now c.args.annotations c.args.modifiers) (c.in_err-answer.ensures c.args.tokens.now)

pub returns-in_err-ident : goal.returns-in_err-ident
returns-in_err-ident c = passed_on_exactly IsName (GoesMethod c.args.tokens.now c.args.annotations c.args.modifiers) _ _ _ _ c.from_residual-in_err-ident.result (c.from_residual-in_err-ident.ensures.1)
    (unnamed_method c.args.tokens.now c.args.annotations c.args.modifiers (c.in_ok-answer.ensures c.args.tokens.now)) (c.in_err-ident.ensures)

pub returns-in_err-params : goal.returns-in_err-params
returns-in_err-params c = passed_on_exactly (Routine c.args.tokens.now) (GoesMethod c.args.tokens.now c.args.annotations c.args.modifiers) _ _ _ _ c.from_residual-in_err-params.result (c.from_residual-in_err-params.ensures.1)
    (empty_method c.args.tokens.now c.args.annotations c.args.modifiers (c.in_ok-answer.ensures c.args.tokens.now) (c.in_ok-ident.ensures)) (c.in_err-params.ensures)

pub returns : goal.returns
returns c = method_goes c.args.tokens.now c.args.annotations c.args.modifiers (c.in_ok-answer.ensures c.args.tokens.now) (c.in_ok-ident.ensures) (c.in_ok-params.ensures)
