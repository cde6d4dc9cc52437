use Rattle.gv_grammar.proofs.Stmts.{stmt_once, body_once, decl_once, value_once, full_value_once}
use Rattle.gv_grammar.proofs.laws.one_stmt.Goals as goal

pub returns-clause-stmts : goal.returns-clause-stmts
returns-clause-stmts c = λ tokens x y ts us vs d e h i. stmt_once tokens d e h i

pub returns-clause-bodies : goal.returns-clause-bodies
returns-clause-bodies c = λ tokens x y ts us vs d e h i. body_once tokens d e h i

pub returns-clause-decls : goal.returns-clause-decls
returns-clause-decls c = λ tokens x y ts us vs d e h i. decl_once tokens d e h i

pub returns-clause-values : goal.returns-clause-values
returns-clause-values c = λ tokens x y ts us vs d e h i. value_once tokens d e h i

pub returns-clause-fulls : goal.returns-clause-fulls
returns-clause-fulls c = λ tokens x y ts us vs d e h i. full_value_once tokens d e h i
