use Rattle.std.proofs.Common.{length, ◌∙◌}
use Rattle.gv_grammar.specs.Exprs.{IsExpr}
use Rattle.gv_grammar.specs.Stmts.{IsValue}
use Rattle.gv_grammar.proofs.Places.{grown, expr_within}
use Rattle.gv_cursor.specs.Reading.{Stopped}
use Rattle.gv_cursor.proofs.Results.{passed_on_exactly, refused_on}
use Rattle.gv_decls.proofs.Filled.{no_value_here, no_value_stops, value_read}
use Rattle.gv_decls.proofs.values.Values.value.Goals as goal

pub returns-in_err-unread : goal.returns-in_err-unread
returns-in_err-unread g c = passed_on_exactly (IsExpr (length c.args.self.now.tokens.now)) (Stopped (IsValue c.args.self.now.tokens.now)) _ _ _ _ c.from_residual.result (c.from_residual.ensures.1) (λ f. no_value_here c.args.self.now.tokens.now f) (c.in_err-unread.ensures)

pub returns-in_err-expect_stop : goal.returns-in_err-expect_stop
returns-in_err-expect_stop g c = refused_on (Stopped (IsValue c.args.self.now.tokens.now)) _ _ _ c.from_residual-in_err-expect_stop.result (c.from_residual-in_err-expect_stop.ensures.1) (c.in_err-expect_stop.ensures.stops.0)
    (no_value_stops c.args.self.now.tokens.now (c.in_ok-unread.ensures) (c.in_err-expect_stop.ensures.stops.1))

pub read-requires-clause-within : goal.read-requires-clause-within
read-requires-clause-within g c = grown (expr_within (length c.args.self.now.tokens.now) (c.in_ok-unread.ensures.is)) (c.requires.within)

pub returns : goal.returns
returns g c = value_read c.args.self.now.tokens.now (c.in_ok-unread.ensures.is) (c.in_ok-expect_stop.ensures.stops) (c.read.ensures.same ∙ c.in_ok-expect_stop.ensures.same) c.read.result (c.read.ensures.reads)
