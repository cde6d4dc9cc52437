use Rattle.gv_grammar.proofs.Meets.{meet_primary, meet_gstring, meet_key, meet_indexes, meet_arguments, meet_elements, meet_entries}
use Rattle.gv_grammar.proofs.Closures.{closures_once}
use Rattle.gv_grammar.proofs.laws.one_reading.Goals as goal

pub returns-clause-primaries : goal.returns-clause-primaries
returns-clause-primaries c = λ all x y ts us vs d d2. meet_primary all d d2

pub returns-clause-strings : goal.returns-clause-strings
returns-clause-strings c = λ all x y ts us vs d d2. meet_gstring all d d2

pub returns-clause-indexes : goal.returns-clause-indexes
returns-clause-indexes c = λ all x y ts us vs d d2. meet_indexes all d d2

pub returns-clause-arguments : goal.returns-clause-arguments
returns-clause-arguments c = λ all x y ts us vs d d2. meet_arguments all d d2

pub returns-clause-elements : goal.returns-clause-elements
returns-clause-elements c = λ all x y ts us vs d d2. meet_elements all d d2

pub returns-clause-entries : goal.returns-clause-entries
returns-clause-entries c = λ all x y ts us vs d d2. meet_entries all d d2

pub returns-clause-keys : goal.returns-clause-keys
returns-clause-keys c = λ all x y ts us vs d d2. meet_key all d d2

pub returns-clause-closures : goal.returns-clause-closures
returns-clause-closures c = λ all x y ts us vs d d2. closures_once all d d2
