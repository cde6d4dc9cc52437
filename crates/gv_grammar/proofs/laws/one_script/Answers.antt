use Rattle.gv_grammar.proofs.Scripts.{script_once, top_once, class_once, method_once, members_once}
use Rattle.gv_grammar.proofs.laws.one_script.Goals as goal

pub returns-clause-scripts : goal.returns-clause-scripts
returns-clause-scripts c = λ x y ts d e. script_once d e

pub returns-clause-tops : goal.returns-clause-tops
returns-clause-tops c = λ tokens x y ts us vs d e h i. top_once tokens d e h i

pub returns-clause-classes : goal.returns-clause-classes
returns-clause-classes c = λ tokens x y ts us vs d e. class_once tokens d e

pub returns-clause-methods : goal.returns-clause-methods
returns-clause-methods c = λ tokens x y ts us vs d e. method_once tokens d e

pub returns-clause-members : goal.returns-clause-members
returns-clause-members c = λ tokens class x y ts us vs d e. members_once tokens d e
