use Rattle.std.proofs.Common.{arith}
use Rattle.gv_grammar.specs.Stmts.{IsVar, IsFullValue}
use Rattle.gv_grammar.proofs.Lengths.{less, of_eats}
use Rattle.gv_cursor.specs.Reading.{Stopped}
use Rattle.gv_decls.specs.Phrases.{IsName}
use Rattle.gv_decls.proofs.Declarations.{of_name, var_here, var_with, no_var_name, no_var_value, var_goes_on}
use Rattle.gv_cursor.proofs.Results.{passed_on_exactly, refused_on}
use Rattle.gv_decls.proofs.values.Values.var.Goals as goal

pub returns-in_err-ident : goal.returns-in_err-ident
returns-in_err-ident g c = passed_on_exactly IsName (Stopped (IsVar c.args.self.now.tokens.now)) _ _ _ _ c.from_residual.result (c.from_residual.ensures.1) (λ f. no_var_name c.args.self.now.tokens.now f) (c.in_err-ident.ensures)

pub full_value-requires-clause-within : goal.full_value-requires-clause-within
full_value-requires-clause-within g c = let a = less (of_name (c.in_ok-ident.ensures)) in let b = less (of_eats (c.if-eat.ensures)) in let d = c.requires.within in omega arith

pub returns-in_err-full_value : goal.returns-in_err-full_value
returns-in_err-full_value g c = passed_on_exactly (Stopped (IsFullValue c.args.self.now.tokens.now)) (Stopped (IsVar c.args.self.now.tokens.now)) _ _ _ _ c.from_residual-in_err-full_value.result (c.from_residual-in_err-full_value.ensures.1) (λ f. no_var_value c.args.self.now.tokens.now (c.in_ok-ident.ensures) (c.if-eat.ensures) f) (c.in_err-full_value.ensures)

pub returns-then-eat : goal.returns-then-eat
returns-then-eat g c = record { is = rw (c.in_ok-new.ensures) (var_with c.args.self.now.tokens.now (c.in_ok-ident.ensures) (c.if-eat.ensures) (c.in_ok-full_value.ensures.is)); stops = c.in_ok-full_value.ensures.stops }

pub returns-in_err-expect_stop : goal.returns-in_err-expect_stop
returns-in_err-expect_stop g c = refused_on (Stopped (IsVar c.args.self.now.tokens.now)) _ _ _ c.from_residual-in_err-expect_stop.result (c.from_residual-in_err-expect_stop.ensures.1) (c.in_err-expect_stop.ensures.stops.0)
    (var_goes_on c.args.self.now.tokens.now (c.in_ok-ident.ensures) (c.if-eat.ensures.1) (rw (← (c.if-eat.ensures.0)) (c.in_err-expect_stop.ensures.stops.1)))

pub returns : goal.returns
returns g c = record { is = rw (c.in_ok-expect_stop.ensures.same, c.if-eat.ensures.0) (var_here c.args.self.now.tokens.now (c.in_ok-ident.ensures) (c.if-eat.ensures.1)); stops = rw (c.in_ok-expect_stop.ensures.same) (c.in_ok-expect_stop.ensures.stops) }
