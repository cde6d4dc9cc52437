use Rattle.gv_words.proofs.Kept.{result_within, result_limits}
use Rattle.gv_words.proofs.words.read_words.Goals as goal

pub returns-clause-within : goal.returns-clause-within
returns-clause-within c = result_within c.args.words.now c.in_ok-read.field-0 c.finish.result c.finish.ensures c.in_ok-read.ensures

pub returns-clause-limits : goal.returns-clause-limits
returns-clause-limits c = result_limits c.args.words.now c.in_ok-read.field-0 c.finish.result c.finish.ensures c.in_ok-read.ensures
