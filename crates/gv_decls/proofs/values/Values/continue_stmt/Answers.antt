use Rattle.gv_spelling.specs.declared.kinds.Keyword.TheVariants as keyword
use Rattle.gv_grammar.specs.Tokens.{EatsKeyword}
use Rattle.gv_grammar.specs.Stmts.{IsStmt, a_continue}
use Rattle.gv_grammar.proofs.Longest.{keyword_here}
use Rattle.gv_cursor.specs.Reading.{Stopped}
use Rattle.gv_decls.proofs.PlainStmts.{continue_goes_on}
use Rattle.gv_cursor.proofs.Results.{refused_on, unexpected_on_exactly}
use Rattle.gv_decls.proofs.values.Values.continue_stmt.Goals as goal

pub returns-in_err-expect_keyword : goal.returns-in_err-expect_keyword
returns-in_err-expect_keyword g c = unexpected_on_exactly (Stopped (IsStmt c.args.self.now.tokens.now)) (EatsKeyword keyword.Continue) _ _ _ _ _ c.from_residual.result (c.from_residual.ensures.1) (λ f. absurd (f _ (keyword_here _ (c.requires.next.1)))) (c.in_err-expect_keyword.ensures)

pub returns-in_err-expect_stop : goal.returns-in_err-expect_stop
returns-in_err-expect_stop g c = refused_on (Stopped (IsStmt c.args.self.now.tokens.now)) _ _ _ c.from_residual-in_err-expect_stop.result (c.from_residual-in_err-expect_stop.ensures.1) (c.in_err-expect_stop.ensures.stops.0) (continue_goes_on c.args.self.now.tokens.now (c.in_ok-expect_keyword.ensures) (c.in_err-expect_stop.ensures.stops.1))

pub returns : goal.returns
returns g c = record { is = rw (c.place-place.ensures, c.in_ok-expect_stop.ensures.same) (a_continue (c.in_ok-expect_keyword.ensures)); stops = rw (c.in_ok-expect_stop.ensures.same) (c.in_ok-expect_stop.ensures.stops) }
