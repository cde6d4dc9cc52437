use Rattle.gv_spelling.specs.declared.kinds.Keyword.TheVariants as keyword
use Rattle.std.proofs.Common.{◌<◌, ◌≤◌, ◌∙◌, subst, arith, List}
use Rattle.gv_lex.specs.declared.token.Token.{Token}
use Rattle.gv_grammar.specs.Tokens.{EatsKeyword, kind_of, reach}
use Rattle.gv_grammar.specs.Stmts.{IsStmt, IsBlock, AreCatches}
use Rattle.gv_grammar.proofs.Lengths.{less, of_keyword, no_more}
use Rattle.gv_grammar.proofs.Longest.{keyword_here}
use Rattle.gv_cursor.specs.Reading.{Stopped}
use Rattle.gv_cursor.proofs.Results.{passed_on_exactly, unexpected_on_exactly, refused_on}
use Rattle.gv_grammar.proofs.StmtLengths.{of_block, of_catches}
use Rattle.gv_blocks.proofs.Bodies.{refused_here}
use Rattle.gv_blocks.proofs.TryStmts.{is_so, not_so, no_try_block, no_try_catches, no_try_last, last_goes_on, no_catch_at_all, catches_go_on, try_here, try_finally_here}
use Rattle.gv_blocks.proofs.reader.Blocks.try_stmt.Goals as goal

pub returns-in_err-expect_keyword : goal.returns-in_err-expect_keyword
returns-in_err-expect_keyword g c = unexpected_on_exactly (Stopped (IsStmt c.args.self.now.values.tokens.now)) (EatsKeyword keyword.Try) _ _ _ _ _ c.from_residual.result (c.from_residual.ensures.1)
    (λ f. absurd (f _ (keyword_here _ (c.requires.next.1)))) (c.in_err-expect_keyword.ensures)

pub returns-in_err-tried : goal.returns-in_err-tried
returns-in_err-tried g c = passed_on_exactly (IsBlock c.args.self.now.values.tokens.now) (Stopped (IsStmt c.args.self.now.values.tokens.now)) _ _ _ _ c.from_residual-in_err-tried.result (c.from_residual-in_err-tried.ensures.1)
    (λ f. no_try_block c.args.self.now.values.tokens.now (c.in_ok-expect_keyword.ensures) f) (c.in_err-tried.ensures)

pub catches-requires-clause-shorter : goal.catches-requires-clause-shorter
catches-requires-clause-shorter g c = let a = less (of_keyword (c.in_ok-expect_keyword.ensures)) in let b = less (of_block c.args.self.now.values.tokens.now (c.in_ok-tried.ensures)) in let d = c.requires.within in omega arith

pub returns-in_err-catches : goal.returns-in_err-catches
returns-in_err-catches g c = passed_on_exactly (AreCatches c.args.self.now.values.tokens.now) (Stopped (IsStmt c.args.self.now.values.tokens.now)) _ _ _ _ c.from_residual-in_err-catches.result (c.from_residual-in_err-catches.ensures.1)
    (λ f. no_try_catches c.args.self.now.values.tokens.now (c.in_ok-expect_keyword.ensures) (c.in_ok-tried.ensures) f) (c.in_err-catches.ensures)

pub block-requires-then-eat_keyword-clause-within : goal.block-requires-then-eat_keyword-clause-within
block-requires-then-eat_keyword-clause-within g c =
    let a = less (of_keyword (c.in_ok-expect_keyword.ensures)) in let b = less (of_block c.args.self.now.values.tokens.now (c.in_ok-tried.ensures)) in let d = c.requires.within in
    let e = no_more (of_catches c.args.self.now.values.tokens.now (c.in_ok-catches.ensures)) in let h = less (of_keyword (c.if-eat_keyword.ensures)) in omega arith

pub returns-in_err-last : goal.returns-in_err-last
returns-in_err-last g c = passed_on_exactly (IsBlock c.args.self.now.values.tokens.now) (Stopped (IsStmt c.args.self.now.values.tokens.now)) _ _ _ _ c.from_residual-in_err-last.result (c.from_residual-in_err-last.ensures.1)
    (λ f. no_try_last c.args.self.now.values.tokens.now (c.in_ok-expect_keyword.ensures) (c.in_ok-tried.ensures) (c.in_ok-catches.ensures) (c.if-eat_keyword.ensures) f) (c.in_err-last.ensures)

pub returns-in_err-expect_stop : goal.returns-in_err-expect_stop
returns-in_err-expect_stop g c = refused_on (Stopped (IsStmt c.args.self.now.values.tokens.now)) _ _ _ c.from_residual-in_err-expect_stop.result (c.from_residual-in_err-expect_stop.ensures.1) (c.in_err-expect_stop.ensures.stops.0)
    (last_goes_on c.args.self.now.values.tokens.now (c.in_ok-expect_keyword.ensures) (c.in_ok-tried.ensures) (c.in_ok-catches.ensures) (c.if-eat_keyword.ensures) (c.in_ok-last.ensures) (c.in_err-expect_stop.ensures.stops.1))

pub returns-then-eat_keyword : goal.returns-then-eat_keyword
returns-then-eat_keyword g c = rw c.place-place.ensures (try_finally_here c.args.self.now.values.tokens.now (c.in_ok-expect_keyword.ensures) (c.in_ok-tried.ensures) (c.in_ok-catches.ensures) (c.if-eat_keyword.ensures) (c.in_ok-last.ensures) (c.in_ok-expect_stop.ensures.same) (c.in_ok-expect_stop.ensures.stops))

pub returns-then-is_empty : goal.returns-then-is_empty
returns-then-is_empty g c = refused_here (Stopped (IsStmt c.args.self.now.values.tokens.now)) _ (c.refuse.ensures.0) (no_catch_at_all c.args.self.now.values.tokens.now (c.in_ok-expect_keyword.ensures) (c.in_ok-tried.ensures) (c.in_ok-catches.ensures) (c.if-eat_keyword.ensures.1) (is_so (c.if-is_empty.ensures)))

pub returns-in_err-expect_stop-2 : goal.returns-in_err-expect_stop-2
returns-in_err-expect_stop-2 g c = refused_on (Stopped (IsStmt c.args.self.now.values.tokens.now)) _ _ _ c.from_residual-in_err-expect_stop-2.result (c.from_residual-in_err-expect_stop-2.ensures.1) (c.in_err-expect_stop-2.ensures.stops.0)
    (catches_go_on c.args.self.now.values.tokens.now (c.in_ok-expect_keyword.ensures) (c.in_ok-tried.ensures) (c.in_ok-catches.ensures) (c.if-eat_keyword.ensures.1) (subst (λ (zs : List Token). reach (kind_of zs) ≤ 12) (c.if-eat_keyword.ensures.0) (c.in_err-expect_stop-2.ensures.stops.1)))

pub returns : goal.returns
returns g c = rw c.place-place.ensures (try_here c.args.self.now.values.tokens.now (c.in_ok-expect_keyword.ensures) (c.in_ok-tried.ensures) (c.in_ok-catches.ensures) (c.if-eat_keyword.ensures.1) (not_so (c.if-is_empty.ensures)) (c.in_ok-expect_stop-2.ensures.same ∙ c.if-eat_keyword.ensures.0)
    (subst (λ (zs : List Token). 12 < reach (kind_of zs)) (c.if-eat_keyword.ensures.0) (c.in_ok-expect_stop-2.ensures.stops)))
