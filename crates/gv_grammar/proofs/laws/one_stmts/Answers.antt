use Rattle.gv_grammar.proofs.Stmts.{stmts_once, block_once, body_of_once, params_once, by_arrow, by_paren, reads_once}
use Rattle.gv_grammar.proofs.laws.one_stmts.Goals as goal

pub returns-clause-stmts : goal.returns-clause-stmts
returns-clause-stmts c = λ tokens x y ts us vs d e. stmts_once tokens d e

pub returns-clause-blocks : goal.returns-clause-blocks
returns-clause-blocks c = λ tokens x y ts us vs d e. block_once tokens d e

pub returns-clause-closures : goal.returns-clause-closures
returns-clause-closures c = λ tokens x y ts us vs d e. body_of_once tokens d e

pub returns-clause-params : goal.returns-clause-params
returns-clause-params c = λ tokens x y ts us vs d e. params_once tokens by_paren d e

pub returns-clause-arrows : goal.returns-clause-arrows
returns-clause-arrows c = λ tokens x y ts us vs d e. params_once tokens by_arrow d e

pub returns-clause-readings : goal.returns-clause-readings
returns-clause-readings c = λ tokens x y z d e. reads_once tokens d e
