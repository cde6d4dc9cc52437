use Rattle.gv_grammar.specs.Stmts.{MayInitial, IsValue, no_initial}
use Rattle.gv_cursor.specs.Reading.{Stopped}
use Rattle.gv_decls.proofs.Declarations.{not_there, initial_here, no_value_behind, initial_goes_on}
use Rattle.gv_cursor.proofs.Results.{passed_on_exactly, refused_on}
use Rattle.gv_decls.proofs.values.Values.may_initial.Goals as goal

pub returns-in_err-value : goal.returns-in_err-value
returns-in_err-value g c = passed_on_exactly (Stopped (IsValue c.args.self.now.tokens.now)) (Stopped (MayInitial c.args.self.now.tokens.now)) _ _ _ _ c.from_residual.result (c.from_residual.ensures.1) (λ f. no_value_behind c.args.self.now.tokens.now (c.if-eat.ensures) f) (c.in_err-value.ensures)

pub returns-then-eat : goal.returns-then-eat
returns-then-eat g c = record { is = rw (c.in_ok-new.ensures) (initial_here c.args.self.now.tokens.now (c.if-eat.ensures) (c.in_ok-value.ensures.is)); stops = c.in_ok-value.ensures.stops }

pub returns-in_err-expect_stop : goal.returns-in_err-expect_stop
returns-in_err-expect_stop g c = refused_on (Stopped (MayInitial c.args.self.now.tokens.now)) _ _ _ c.from_residual-in_err-expect_stop.result (c.from_residual-in_err-expect_stop.ensures.1) (c.in_err-expect_stop.ensures.stops.0)
    (initial_goes_on c.args.self.now.tokens.now (c.if-eat.ensures.1) (rw (← (c.if-eat.ensures.0)) (c.in_err-expect_stop.ensures.stops.1)))

pub returns : goal.returns
returns g c = record { is = rw (c.in_ok-expect_stop.ensures.same, c.if-eat.ensures.0) (no_initial (not_there (c.if-eat.ensures.1))); stops = rw (c.in_ok-expect_stop.ensures.same) (c.in_ok-expect_stop.ensures.stops) }
