use Rattle.std.proofs.Common.{ap, length, arith}
use Rattle.gv_grammar.specs.Stmts.{AreCases}
use Rattle.gv_grammar.proofs.Lengths.{less}
use Rattle.gv_cursor.proofs.Results.{passed_on_exactly}
use Rattle.gv_blocks.specs.Phrases.{IsCase}
use Rattle.gv_grammar.proofs.StmtLengths.{of_separates}
use Rattle.gv_blocks.proofs.SwitchStmts.{of_case, parted_none, parted_more, cases_begin, cases_more, cases_end, no_more_cases}
use Rattle.gv_blocks.proofs.reader.Blocks.cases.Goals as goal

pub loop-init : goal.loop-init
loop-init g c = parted_none c.args.self.now.values.tokens.now

pub loop-smaller : goal.loop-smaller
loop-smaller g c = less (of_separates (c.loop-test.ensures))

pub loop-preserved : goal.loop-preserved
loop-preserved g c = parted_more c.args.self.now.values.tokens.now (c.loop.invariant) (c.loop-test.ensures)

pub loop-cases-init : goal.loop-cases-init
loop-cases-init g c = rw (c.new-cases.ensures, c.loop-test.ensures.0) (cases_begin c.args.self.now.values.tokens.now (c.loop.invariant) (c.loop-test.ensures.1))

pub case-requires-clause-shorter : goal.case-requires-clause-shorter
case-requires-clause-shorter g c = let a = c.loop-cases.invariant.shorter in let b = c.requires.shorter in let d = ap length (c.loop-cases-test.ensures.0) in omega arith

pub returns-in_err-case : goal.returns-in_err-case
returns-in_err-case g c = passed_on_exactly (IsCase c.args.self.now.values.tokens.now) (AreCases c.args.self.now.values.tokens.now) _ _ _ _ c.from_residual.result (c.from_residual.ensures.1)
    (λ f. no_more_cases c.args.self.now.values.tokens.now (c.loop-cases.invariant) (c.loop-cases-test.ensures.0) (c.loop-cases-test.ensures.1) f) (c.in_err-case.ensures)

pub loop-cases-smaller : goal.loop-cases-smaller
loop-cases-smaller g c = let i : IsCase c.args.self.now.values.tokens.now c.in_ok-case.field-0 c.loop-cases.cursor.rest.now c.case.new.cursor.rest.now = rw (← (c.loop-cases-test.ensures.0)) (c.in_ok-case.ensures) in less (of_case c.args.self.now.values.tokens.now i)

pub loop-cases-preserved : goal.loop-cases-preserved
loop-cases-preserved g c = let i : IsCase c.args.self.now.values.tokens.now c.in_ok-case.field-0 c.loop-cases.cursor.rest.now c.case.new.cursor.rest.now = rw (← (c.loop-cases-test.ensures.0)) (c.in_ok-case.ensures) in rw c.in_ok-push.ensures.ok (cases_more c.args.self.now.values.tokens.now (c.loop-cases.invariant) i)

pub returns : goal.returns
returns g c = cases_end c.args.self.now.values.tokens.now (c.loop-cases.invariant) (c.loop-cases-test.ensures)
