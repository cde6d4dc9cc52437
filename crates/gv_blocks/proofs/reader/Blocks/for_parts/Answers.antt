use Rattle.gv_spelling.specs.declared.kinds.Keyword.TheVariants as keyword
use Rattle.gv_spelling.specs.declared.kinds.Symbol.TheVariants as symbol
use Rattle.std.proofs.Common.{arith}
use Rattle.gv_grammar.specs.Tokens.{Eats, EatsKeyword}
use Rattle.gv_grammar.specs.Stmts.{IsStmt, IsBody, MayBegin, MayValue}
use Rattle.gv_grammar.proofs.Lengths.{less, of_keyword, of_eats, no_more}
use Rattle.gv_grammar.proofs.Longest.{keyword_here}
use Rattle.gv_cursor.specs.Reading.{Stopped}
use Rattle.gv_cursor.proofs.Results.{passed_on_exactly, unexpected_on_exactly}
use Rattle.gv_grammar.proofs.StmtLengths.{of_begin, of_may_value, of_may_line}
use Rattle.gv_blocks.proofs.ForStmts.{Begun, Tested, Stepped, no_for_open, no_for_begin, no_for_first, no_for_test, no_for_second, no_for_step, no_for_close, no_for_body, for_here}
use Rattle.gv_blocks.proofs.reader.Blocks.for_parts.Goals as goal

pub returns-in_err-expect_keyword : goal.returns-in_err-expect_keyword
returns-in_err-expect_keyword g c = unexpected_on_exactly (Stopped (IsStmt c.args.self.now.values.tokens.now)) (EatsKeyword keyword.For) _ _ _ _ _ c.from_residual.result (c.from_residual.ensures.1)
    (λ f. absurd (f _ (keyword_here _ (c.requires.next.1)))) (c.in_err-expect_keyword.ensures)

pub returns-in_err-expect : goal.returns-in_err-expect
returns-in_err-expect g c = unexpected_on_exactly (Stopped (IsStmt c.args.self.now.values.tokens.now)) (Eats symbol.LeftParen) _ _ _ _ _ c.from_residual-in_err-expect.result (c.from_residual-in_err-expect.ensures.1)
    (λ f. no_for_open c.args.self.now.values.tokens.now (c.in_ok-expect_keyword.ensures) f) (c.in_err-expect.ensures)

pub returns-in_err-first : goal.returns-in_err-first
returns-in_err-first g c =
    let r : Begun c.args.self.now.values.tokens.now c.args.cursor.now.rest.now c.expect.new.self.rest.now = record { us = c.expect_keyword.new.self.rest.now; no_head = c.requires.head; word = c.in_ok-expect_keyword.ensures; opened = c.in_ok-expect.ensures } in
    passed_on_exactly (Stopped (MayBegin c.args.self.now.values.tokens.now)) (Stopped (IsStmt c.args.self.now.values.tokens.now)) _ _ _ _ c.from_residual-in_err-first.result (c.from_residual-in_err-first.ensures.1)
    (λ f. no_for_begin c.args.self.now.values.tokens.now r f) (c.in_err-first.ensures)

pub returns-in_err-expect-2 : goal.returns-in_err-expect-2
returns-in_err-expect-2 g c =
    let r : Begun c.args.self.now.values.tokens.now c.args.cursor.now.rest.now c.expect.new.self.rest.now = record { us = c.expect_keyword.new.self.rest.now; no_head = c.requires.head; word = c.in_ok-expect_keyword.ensures; opened = c.in_ok-expect.ensures } in
    unexpected_on_exactly (Stopped (IsStmt c.args.self.now.values.tokens.now)) (Eats symbol.Semicolon) _ _ _ _ _ c.from_residual-in_err-expect-2.result (c.from_residual-in_err-expect-2.ensures.1)
    (λ f. no_for_first c.args.self.now.values.tokens.now r (c.in_ok-first.ensures) f) (c.in_err-expect-2.ensures)

pub may_value-requires-clause-within : goal.may_value-requires-clause-within
may_value-requires-clause-within g c =
    let a = less (of_keyword (c.in_ok-expect_keyword.ensures)) in let b = less (of_eats (c.in_ok-expect.ensures)) in let d = c.requires.within in
    let e = no_more (of_begin c.args.self.now.values.tokens.now (c.in_ok-first.ensures.is)) in let h = less (of_eats (c.in_ok-expect-2.ensures)) in omega arith

pub returns-in_err-test : goal.returns-in_err-test
returns-in_err-test g c =
    let r : Begun c.args.self.now.values.tokens.now c.args.cursor.now.rest.now c.expect.new.self.rest.now = record { us = c.expect_keyword.new.self.rest.now; no_head = c.requires.head; word = c.in_ok-expect_keyword.ensures; opened = c.in_ok-expect.ensures } in
    let t : Tested c.args.self.now.values.tokens.now c.in_ok-first.first c.args.cursor.now.rest.now c.expect.new.self.rest.now c.may_begin.new.cursor.rest.now c.expect-2.new.self.rest.now = record { begun = r; begin = c.in_ok-first.ensures; first = c.in_ok-expect-2.ensures } in
    passed_on_exactly (Stopped (MayValue c.args.self.now.values.tokens.now)) (Stopped (IsStmt c.args.self.now.values.tokens.now)) _ _ _ _ c.from_residual-in_err-test.result (c.from_residual-in_err-test.ensures.1)
    (λ f. no_for_test c.args.self.now.values.tokens.now t f) (c.in_err-test.ensures)

pub returns-in_err-expect-3 : goal.returns-in_err-expect-3
returns-in_err-expect-3 g c =
    let r : Begun c.args.self.now.values.tokens.now c.args.cursor.now.rest.now c.expect.new.self.rest.now = record { us = c.expect_keyword.new.self.rest.now; no_head = c.requires.head; word = c.in_ok-expect_keyword.ensures; opened = c.in_ok-expect.ensures } in
    let t : Tested c.args.self.now.values.tokens.now c.in_ok-first.first c.args.cursor.now.rest.now c.expect.new.self.rest.now c.may_begin.new.cursor.rest.now c.expect-2.new.self.rest.now = record { begun = r; begin = c.in_ok-first.ensures; first = c.in_ok-expect-2.ensures } in
    unexpected_on_exactly (Stopped (IsStmt c.args.self.now.values.tokens.now)) (Eats symbol.Semicolon) _ _ _ _ _ c.from_residual-in_err-expect-3.result (c.from_residual-in_err-expect-3.ensures.1)
    (λ f. no_for_second c.args.self.now.values.tokens.now t (c.in_ok-test.ensures) f) (c.in_err-expect-3.ensures)

pub may_value-requires-2-clause-within : goal.may_value-requires-2-clause-within
may_value-requires-2-clause-within g c =
    let a = less (of_keyword (c.in_ok-expect_keyword.ensures)) in let b = less (of_eats (c.in_ok-expect.ensures)) in let d = c.requires.within in
    let e = no_more (of_begin c.args.self.now.values.tokens.now (c.in_ok-first.ensures.is)) in let h = less (of_eats (c.in_ok-expect-2.ensures)) in
    let i = no_more (of_may_value c.args.self.now.values.tokens.now (c.in_ok-test.ensures.is)) in let j = less (of_eats (c.in_ok-expect-3.ensures)) in omega arith

pub returns-in_err-step : goal.returns-in_err-step
returns-in_err-step g c =
    let r : Begun c.args.self.now.values.tokens.now c.args.cursor.now.rest.now c.expect.new.self.rest.now = record { us = c.expect_keyword.new.self.rest.now; no_head = c.requires.head; word = c.in_ok-expect_keyword.ensures; opened = c.in_ok-expect.ensures } in
    let t : Tested c.args.self.now.values.tokens.now c.in_ok-first.first c.args.cursor.now.rest.now c.expect.new.self.rest.now c.may_begin.new.cursor.rest.now c.expect-2.new.self.rest.now = record { begun = r; begin = c.in_ok-first.ensures; first = c.in_ok-expect-2.ensures } in
    let s : Stepped c.args.self.now.values.tokens.now c.in_ok-first.first c.in_ok-test.test c.args.cursor.now.rest.now c.expect.new.self.rest.now c.may_begin.new.cursor.rest.now c.expect-2.new.self.rest.now c.may_value.new.cursor.rest.now c.expect-3.new.self.rest.now = record { tested = t; test = c.in_ok-test.ensures; second = c.in_ok-expect-3.ensures } in
    passed_on_exactly (Stopped (MayValue c.args.self.now.values.tokens.now)) (Stopped (IsStmt c.args.self.now.values.tokens.now)) _ _ _ _ c.from_residual-in_err-step.result (c.from_residual-in_err-step.ensures.1)
    (λ f. no_for_step c.args.self.now.values.tokens.now s f) (c.in_err-step.ensures)

pub returns-in_err-expect-4 : goal.returns-in_err-expect-4
returns-in_err-expect-4 g c =
    let r : Begun c.args.self.now.values.tokens.now c.args.cursor.now.rest.now c.expect.new.self.rest.now = record { us = c.expect_keyword.new.self.rest.now; no_head = c.requires.head; word = c.in_ok-expect_keyword.ensures; opened = c.in_ok-expect.ensures } in
    let t : Tested c.args.self.now.values.tokens.now c.in_ok-first.first c.args.cursor.now.rest.now c.expect.new.self.rest.now c.may_begin.new.cursor.rest.now c.expect-2.new.self.rest.now = record { begun = r; begin = c.in_ok-first.ensures; first = c.in_ok-expect-2.ensures } in
    let s : Stepped c.args.self.now.values.tokens.now c.in_ok-first.first c.in_ok-test.test c.args.cursor.now.rest.now c.expect.new.self.rest.now c.may_begin.new.cursor.rest.now c.expect-2.new.self.rest.now c.may_value.new.cursor.rest.now c.expect-3.new.self.rest.now = record { tested = t; test = c.in_ok-test.ensures; second = c.in_ok-expect-3.ensures } in
    unexpected_on_exactly (Stopped (IsStmt c.args.self.now.values.tokens.now)) (Eats symbol.RightParen) _ _ _ _ _ c.from_residual-in_err-expect-4.result (c.from_residual-in_err-expect-4.ensures.1)
    (λ f. no_for_close c.args.self.now.values.tokens.now s (c.in_ok-step.ensures) f) (c.in_err-expect-4.ensures)

pub body_stmt-requires-clause-shorter : goal.body_stmt-requires-clause-shorter
body_stmt-requires-clause-shorter g c =
    let a = less (of_keyword (c.in_ok-expect_keyword.ensures)) in let b = less (of_eats (c.in_ok-expect.ensures)) in let d = c.requires.within in
    let e = no_more (of_begin c.args.self.now.values.tokens.now (c.in_ok-first.ensures.is)) in let h = less (of_eats (c.in_ok-expect-2.ensures)) in
    let i = no_more (of_may_value c.args.self.now.values.tokens.now (c.in_ok-test.ensures.is)) in let j = less (of_eats (c.in_ok-expect-3.ensures)) in
    let k = no_more (of_may_value c.args.self.now.values.tokens.now (c.in_ok-step.ensures.is)) in let l = less (of_eats (c.in_ok-expect-4.ensures)) in let m = no_more (of_may_line (c.may_line.ensures)) in omega arith

pub returns-in_err-body_stmt : goal.returns-in_err-body_stmt
returns-in_err-body_stmt g c =
    let r : Begun c.args.self.now.values.tokens.now c.args.cursor.now.rest.now c.expect.new.self.rest.now = record { us = c.expect_keyword.new.self.rest.now; no_head = c.requires.head; word = c.in_ok-expect_keyword.ensures; opened = c.in_ok-expect.ensures } in
    let t : Tested c.args.self.now.values.tokens.now c.in_ok-first.first c.args.cursor.now.rest.now c.expect.new.self.rest.now c.may_begin.new.cursor.rest.now c.expect-2.new.self.rest.now = record { begun = r; begin = c.in_ok-first.ensures; first = c.in_ok-expect-2.ensures } in
    let s : Stepped c.args.self.now.values.tokens.now c.in_ok-first.first c.in_ok-test.test c.args.cursor.now.rest.now c.expect.new.self.rest.now c.may_begin.new.cursor.rest.now c.expect-2.new.self.rest.now c.may_value.new.cursor.rest.now c.expect-3.new.self.rest.now = record { tested = t; test = c.in_ok-test.ensures; second = c.in_ok-expect-3.ensures } in
    passed_on_exactly (Stopped (IsBody c.args.self.now.values.tokens.now)) (Stopped (IsStmt c.args.self.now.values.tokens.now)) _ _ _ _ c.from_residual-in_err-body_stmt.result (c.from_residual-in_err-body_stmt.ensures.1)
    (λ f. no_for_body c.args.self.now.values.tokens.now s (c.in_ok-step.ensures) (c.in_ok-expect-4.ensures) (c.may_line.ensures) f) (c.in_err-body_stmt.ensures)

pub returns : goal.returns
returns g c =
    let r : Begun c.args.self.now.values.tokens.now c.args.cursor.now.rest.now c.expect.new.self.rest.now = record { us = c.expect_keyword.new.self.rest.now; no_head = c.requires.head; word = c.in_ok-expect_keyword.ensures; opened = c.in_ok-expect.ensures } in
    let t : Tested c.args.self.now.values.tokens.now c.in_ok-first.first c.args.cursor.now.rest.now c.expect.new.self.rest.now c.may_begin.new.cursor.rest.now c.expect-2.new.self.rest.now = record { begun = r; begin = c.in_ok-first.ensures; first = c.in_ok-expect-2.ensures } in
    let s : Stepped c.args.self.now.values.tokens.now c.in_ok-first.first c.in_ok-test.test c.args.cursor.now.rest.now c.expect.new.self.rest.now c.may_begin.new.cursor.rest.now c.expect-2.new.self.rest.now c.may_value.new.cursor.rest.now c.expect-3.new.self.rest.now = record { tested = t; test = c.in_ok-test.ensures; second = c.in_ok-expect-3.ensures } in
    rw (c.place-place.ensures, c.in_ok-body.ensures) (for_here c.args.self.now.values.tokens.now s (c.in_ok-step.ensures) (c.in_ok-expect-4.ensures) (c.may_line.ensures) (c.in_ok-body_stmt.ensures))
