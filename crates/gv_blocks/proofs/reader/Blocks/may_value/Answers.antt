use Rattle.std.proofs.Common.{◌≡◌, true, false}
use Rattle.gv_grammar.specs.Tokens.{kind_of, begins_expr}
use Rattle.gv_grammar.specs.Stmts.{IsValue, MayValue}
use Rattle.gv_cursor.specs.Reading.{Stopped}
use Rattle.gv_cursor.proofs.Results.{passed_on_exactly, refused_on}
use Rattle.gv_blocks.proofs.ForStmts.{one_value, none_valued, no_one_value, none_goes_on}
use Rattle.gv_blocks.proofs.reader.Blocks.may_value.Goals as goal

pub returns-in_err-value : goal.returns-in_err-value
returns-in_err-value g c = let p : begins_expr (kind_of c.args.cursor.now.rest.now) ≡ true = cc in passed_on_exactly (Stopped (IsValue c.args.self.now.values.tokens.now)) (Stopped (MayValue c.args.self.now.values.tokens.now)) _ _ _ _ c.from_residual.result (c.from_residual.ensures.1)
    (λ f. no_one_value c.args.self.now.values.tokens.now p f) (c.in_err-value.ensures)

pub returns-then-begins_expr : goal.returns-then-begins_expr
returns-then-begins_expr g c = let p : begins_expr (kind_of c.args.cursor.now.rest.now) ≡ true = cc in rw (c.in_ok-new.ensures) (one_value c.args.self.now.values.tokens.now (c.in_ok-value.ensures))

pub returns-in_err-expect_stop : goal.returns-in_err-expect_stop
returns-in_err-expect_stop g c = let p : begins_expr (kind_of c.args.cursor.now.rest.now) ≡ false = cc in refused_on (Stopped (MayValue c.args.self.now.values.tokens.now)) _ _ _ c.from_residual-in_err-expect_stop.result (c.from_residual-in_err-expect_stop.ensures.1) (c.in_err-expect_stop.ensures.stops.0)
    (none_goes_on c.args.self.now.values.tokens.now p (c.in_err-expect_stop.ensures.stops.1))

pub returns : goal.returns
returns g c = let p : begins_expr (kind_of c.args.cursor.now.rest.now) ≡ false = cc in none_valued c.args.self.now.values.tokens.now p (c.in_ok-expect_stop.ensures.stops) (c.in_ok-expect_stop.ensures.same)
