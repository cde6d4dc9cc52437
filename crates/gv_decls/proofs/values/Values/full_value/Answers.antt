use Rattle.std.proofs.Common.{length}
use Rattle.gv_grammar.specs.Commands.{IsFull}
use Rattle.gv_grammar.specs.Stmts.{IsFullValue}
use Rattle.gv_grammar.proofs.Places.{grown, full_within}
use Rattle.gv_cursor.specs.Reading.{Stopped}
use Rattle.gv_cursor.proofs.Results.{passed_on_exactly}
use Rattle.gv_decls.proofs.Filled.{no_full_here, full_value_read}
use Rattle.gv_decls.proofs.values.Values.full_value.Goals as goal

pub returns-in_err-unread : goal.returns-in_err-unread
returns-in_err-unread g c = passed_on_exactly (Stopped (IsFull (length c.args.self.now.tokens.now))) (Stopped (IsFullValue c.args.self.now.tokens.now)) _ _ _ _ c.from_residual.result (c.from_residual.ensures.1) (λ f. no_full_here c.args.self.now.tokens.now f) (c.in_err-unread.ensures)

pub read-requires-clause-within : goal.read-requires-clause-within
read-requires-clause-within g c = grown (full_within (length c.args.self.now.tokens.now) (c.in_ok-unread.ensures.is)) (c.requires.within)

pub returns : goal.returns
returns g c = full_value_read c.args.self.now.tokens.now (c.in_ok-unread.ensures) (c.read.ensures.same) c.read.result (c.read.ensures.reads)
