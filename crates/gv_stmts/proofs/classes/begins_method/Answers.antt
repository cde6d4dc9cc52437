use Rattle.gv_stmts.proofs.Leads.{no_method_answer, no_method_name, paren_begins}
use Rattle.gv_stmts.proofs.classes.begins_method.Goals as goal

pub returns-then-not-begins_answer : goal.returns-then-not-begins_answer
returns-then-not-begins_answer c = no_method_answer (c.if-not-begins_answer.ensures)

pub returns-then-is_none : goal.returns-then-is_none
returns-then-is_none c = no_method_name (c.if-is_none.ensures) c.name_of.ensures c.kind.ensures c.advance.ensures

pub returns : goal.returns
returns c = paren_begins c.is_left_paren.result (c.if-not-begins_answer.ensures) (c.if-is_none.ensures) c.name_of.ensures c.kind.ensures c.advance.ensures c.kind_behind.ensures c.is_left_paren.ensures
