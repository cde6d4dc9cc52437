use Rattle.gv_grammar.specs.Stmts.{IsVarType}
use Rattle.gv_grammar.specs.Scripts.{IsAnswer, a_void, an_answer}
use Rattle.gv_cursor.proofs.Results.{passed_on_exactly}
use Rattle.gv_stmts.proofs.Leads.{no_answer}
use Rattle.gv_stmts.proofs.classes.answer.Goals as goal

pub returns-then-eat_keyword : goal.returns-then-eat_keyword
returns-then-eat_keyword c = λ tokens. a_void (c.if-eat_keyword.ensures)

pub returns-in_err-var_type : goal.returns-in_err-var_type
returns-in_err-var_type c = λ tokens. passed_on_exactly (IsVarType tokens) (IsAnswer tokens) _ _ _ _ c.from_residual.result (c.from_residual.ensures.1) (no_answer tokens (c.if-eat_keyword.ensures.0) (c.if-eat_keyword.ensures.1)) (c.in_err-var_type.ensures tokens)

pub returns : goal.returns
returns c = λ tokens. rw (← (c.if-eat_keyword.ensures.0)) (an_answer (c.in_ok-var_type.ensures tokens))
