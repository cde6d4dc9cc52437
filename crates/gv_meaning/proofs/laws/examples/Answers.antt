use Rattle.gv_meaning.proofs.Scripts.{loops, stops, breaks, calls, lacks}
use Rattle.gv_meaning.proofs.laws.examples.Goals as goal

pub returns-clause-looping : goal.returns-clause-looping
returns-clause-looping c = loops

pub returns-clause-stopping : goal.returns-clause-stopping
returns-clause-stopping c = stops

pub returns-clause-breaking : goal.returns-clause-breaking
returns-clause-breaking c = breaks

pub returns-clause-calling : goal.returns-clause-calling
returns-clause-calling c = calls

pub returns-clause-lacking : goal.returns-clause-lacking
returns-clause-lacking c = lacks
