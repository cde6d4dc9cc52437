use Rattle.std.proofs.Common.{arith}
use Rattle.gv_grammar.specs.Stmts.{AreCatches}
use Rattle.gv_grammar.proofs.Lengths.{less}
use Rattle.gv_cursor.proofs.Results.{passed_on_exactly}
use Rattle.gv_blocks.specs.Phrases.{IsCatch}
use Rattle.gv_blocks.proofs.TryStmts.{of_catch, catches_begin, catches_more, catches_end, no_more_catches}
use Rattle.gv_blocks.proofs.reader.Blocks.catches.Goals as goal

pub loop-catches-init : goal.loop-catches-init
loop-catches-init g c = rw c.new-catches.ensures (catches_begin c.args.self.now.values.tokens.now)

pub catch-requires-clause-shorter : goal.catch-requires-clause-shorter
catch-requires-clause-shorter g c = let a = c.loop-catches.invariant.shorter in let b = c.requires.shorter in omega arith

pub returns-in_err-catch : goal.returns-in_err-catch
returns-in_err-catch g c = passed_on_exactly (IsCatch c.args.self.now.values.tokens.now) (AreCatches c.args.self.now.values.tokens.now) _ _ _ _ c.from_residual.result (c.from_residual.ensures.1)
    (λ f. no_more_catches c.args.self.now.values.tokens.now (c.loop-catches.invariant) (c.loop-catches-test.ensures) f) (c.in_err-catch.ensures)

pub loop-catches-smaller : goal.loop-catches-smaller
loop-catches-smaller g c = less (of_catch c.args.self.now.values.tokens.now (c.in_ok-catch.ensures))

pub loop-catches-preserved : goal.loop-catches-preserved
loop-catches-preserved g c = rw c.in_ok-push.ensures.ok (catches_more c.args.self.now.values.tokens.now (c.loop-catches.invariant) (c.in_ok-catch.ensures))

pub returns : goal.returns
returns g c = catches_end c.args.self.now.values.tokens.now (c.loop-catches.invariant) (c.loop-catches-test.ensures)
