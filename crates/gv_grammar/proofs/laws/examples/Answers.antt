use Rattle.gv_grammar.proofs.Derivations.{sum_reads, call_reads, map_reads, assignment_reads, string_reads}
use Rattle.gv_grammar.proofs.laws.examples.Goals as goal

pub returns-clause-sum : goal.returns-clause-sum
returns-clause-sum c = sum_reads

pub returns-clause-call : goal.returns-clause-call
returns-clause-call c = call_reads

pub returns-clause-map : goal.returns-clause-map
returns-clause-map c = map_reads

pub returns-clause-assignment : goal.returns-clause-assignment
returns-clause-assignment c = assignment_reads

pub returns-clause-string : goal.returns-clause-string
returns-clause-string c = string_reads
