use Rattle.gv_decls.proofs.Filled.{reads_tree}
use Rattle.gv_decls.proofs.values.Values.read.Goals as goal

pub returns-clause-reads : goal.returns-clause-reads
returns-clause-reads g c = reads_tree c.args.self.now.tokens.now c.args.unread c.fill.result (c.fill.ensures)
