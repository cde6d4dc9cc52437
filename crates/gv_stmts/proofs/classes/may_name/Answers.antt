use Rattle.gv_grammar.specs.Scripts.{MayName}
use Rattle.gv_cursor.proofs.Results.{passed_on_exactly}
use Rattle.gv_stmts.specs.Members.{IsTypeName}
use Rattle.gv_stmts.proofs.Leads.{class_named, not_named, unnamed}
use Rattle.gv_stmts.proofs.classes.may_name.Goals as goal

pub returns-then-not-eat_keyword : goal.returns-then-not-eat_keyword
returns-then-not-eat_keyword c = unnamed (c.if-not-eat_keyword.ensures.0) (c.if-not-eat_keyword.ensures.1)

pub returns-in_err-type_name : goal.returns-in_err-type_name
returns-in_err-type_name c = passed_on_exactly IsTypeName (MayName c.args.keyword) _ _ _ _ c.from_residual.result (c.from_residual.ensures.1) (not_named (c.if-not-eat_keyword.ensures)) (c.in_err-type_name.ensures)

pub returns : goal.returns
returns c = class_named (c.if-not-eat_keyword.ensures) (c.in_ok-type_name.ensures)
