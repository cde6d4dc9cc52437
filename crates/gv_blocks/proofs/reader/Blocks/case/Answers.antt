use Rattle.gv_spelling.specs.declared.kinds.Keyword.TheVariants as keyword
use Rattle.gv_spelling.specs.declared.kinds.Symbol.TheVariants as symbol
use Rattle.std.proofs.Common.{arith}
use Rattle.gv_grammar.specs.Tokens.{Eats, EatsKeyword}
use Rattle.gv_grammar.specs.Stmts.{IsValue, AreStmts}
use Rattle.gv_grammar.proofs.Lengths.{less, of_keyword, of_eats}
use Rattle.gv_cursor.specs.Reading.{Stopped}
use Rattle.gv_cursor.proofs.Results.{passed_on_exactly, unexpected_on_exactly}
use Rattle.gv_blocks.specs.Phrases.{IsCase, with_value, without}
use Rattle.gv_grammar.proofs.StmtLengths.{of_value}
use Rattle.gv_blocks.proofs.SwitchStmts.{no_default_colon, no_default_stmts, no_case_word, no_case_value, no_case_colon, no_case_stmts}
use Rattle.gv_blocks.proofs.reader.Blocks.case.Goals as goal

pub returns-in_err-expect : goal.returns-in_err-expect
returns-in_err-expect g c = unexpected_on_exactly (IsCase c.args.self.now.values.tokens.now) (Eats symbol.Colon) _ _ _ _ _ c.from_residual.result (c.from_residual.ensures.1)
    (λ f. no_default_colon c.args.self.now.values.tokens.now (c.if-eat_keyword.ensures) f) (c.in_err-expect.ensures)

pub inner_stmts-requires-clause-shorter : goal.inner_stmts-requires-clause-shorter
inner_stmts-requires-clause-shorter g c = let a = less (of_keyword (c.if-eat_keyword.ensures)) in let b = less (of_eats (c.in_ok-expect.ensures)) in let d = c.requires.shorter in omega arith

pub returns-in_err-body : goal.returns-in_err-body
returns-in_err-body g c = passed_on_exactly (AreStmts c.args.self.now.values.tokens.now) (IsCase c.args.self.now.values.tokens.now) _ _ _ _ c.from_residual-in_err-body.result (c.from_residual-in_err-body.ensures.1)
    (λ f. no_default_stmts c.args.self.now.values.tokens.now (c.if-eat_keyword.ensures) (c.in_ok-expect.ensures) f) (c.in_err-body.ensures)

pub returns-then-eat_keyword : goal.returns-then-eat_keyword
returns-then-eat_keyword g c = rw c.place-place.ensures (without (c.if-eat_keyword.ensures) (c.in_ok-expect.ensures) (c.in_ok-body.ensures))

pub returns-in_err-expect_keyword : goal.returns-in_err-expect_keyword
returns-in_err-expect_keyword g c = unexpected_on_exactly (IsCase c.args.self.now.values.tokens.now) (EatsKeyword keyword.Case) _ _ _ _ _ c.from_residual-in_err-expect_keyword.result (c.from_residual-in_err-expect_keyword.ensures.1)
    (λ f. no_case_word c.args.self.now.values.tokens.now (c.if-eat_keyword.ensures.1) (rw (← (c.if-eat_keyword.ensures.0)) f)) (c.in_err-expect_keyword.ensures)

pub value-requires-clause-within : goal.value-requires-clause-within
value-requires-clause-within g c = let k : EatsKeyword keyword.Case c.args.cursor.now.rest.now c.expect_keyword.new.self.rest.now = rw (← (c.if-eat_keyword.ensures.0)) (c.in_ok-expect_keyword.ensures) in let a = less (of_keyword k) in let d = c.requires.shorter in omega arith

pub returns-in_err-value : goal.returns-in_err-value
returns-in_err-value g c = let k : EatsKeyword keyword.Case c.args.cursor.now.rest.now c.expect_keyword.new.self.rest.now = rw (← (c.if-eat_keyword.ensures.0)) (c.in_ok-expect_keyword.ensures) in passed_on_exactly (Stopped (IsValue c.args.self.now.values.tokens.now)) (IsCase c.args.self.now.values.tokens.now) _ _ _ _ c.from_residual-in_err-value.result (c.from_residual-in_err-value.ensures.1)
    (λ f. no_case_value c.args.self.now.values.tokens.now k f) (c.in_err-value.ensures)

pub returns-in_err-expect-2 : goal.returns-in_err-expect-2
returns-in_err-expect-2 g c = let k : EatsKeyword keyword.Case c.args.cursor.now.rest.now c.expect_keyword.new.self.rest.now = rw (← (c.if-eat_keyword.ensures.0)) (c.in_ok-expect_keyword.ensures) in unexpected_on_exactly (IsCase c.args.self.now.values.tokens.now) (Eats symbol.Colon) _ _ _ _ _ c.from_residual-in_err-expect-2.result (c.from_residual-in_err-expect-2.ensures.1)
    (λ f. no_case_colon c.args.self.now.values.tokens.now k (c.in_ok-value.ensures) f) (c.in_err-expect-2.ensures)

pub inner_stmts-requires-2-clause-shorter : goal.inner_stmts-requires-2-clause-shorter
inner_stmts-requires-2-clause-shorter g c =
    let k : EatsKeyword keyword.Case c.args.cursor.now.rest.now c.expect_keyword.new.self.rest.now = rw (← (c.if-eat_keyword.ensures.0)) (c.in_ok-expect_keyword.ensures) in
    let a = less (of_keyword k) in let b = less (of_value c.args.self.now.values.tokens.now (c.in_ok-value.ensures.is)) in let d = c.requires.shorter in let e = less (of_eats (c.in_ok-expect-2.ensures)) in omega arith

pub returns-in_err-body-2 : goal.returns-in_err-body-2
returns-in_err-body-2 g c = let k : EatsKeyword keyword.Case c.args.cursor.now.rest.now c.expect_keyword.new.self.rest.now = rw (← (c.if-eat_keyword.ensures.0)) (c.in_ok-expect_keyword.ensures) in passed_on_exactly (AreStmts c.args.self.now.values.tokens.now) (IsCase c.args.self.now.values.tokens.now) _ _ _ _ c.from_residual-in_err-body-2.result (c.from_residual-in_err-body-2.ensures.1)
    (λ f. no_case_stmts c.args.self.now.values.tokens.now k (c.in_ok-value.ensures) (c.in_ok-expect-2.ensures) f) (c.in_err-body-2.ensures)

pub returns : goal.returns
returns g c = let k : EatsKeyword keyword.Case c.args.cursor.now.rest.now c.expect_keyword.new.self.rest.now = rw (← (c.if-eat_keyword.ensures.0)) (c.in_ok-expect_keyword.ensures) in rw (c.place-place.ensures, c.in_ok-new.ensures) (with_value k (c.in_ok-value.ensures.is) (c.in_ok-expect-2.ensures) (c.in_ok-body-2.ensures))
