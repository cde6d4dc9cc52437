use Rattle.std.proofs.Common.{◌≡◌, true, false, arith}
use Rattle.gv_spelling.specs.declared.kinds.Keyword.TheVariants as keyword
use Rattle.gv_grammar.specs.Tokens.{EatsKeyword, kind_of, begins_expr}
use Rattle.gv_grammar.specs.Stmts.{IsFullValue, IsStmt, return_value, return_alone}
use Rattle.gv_grammar.proofs.Lengths.{less, of_keyword}
use Rattle.gv_grammar.proofs.Longest.{keyword_here}
use Rattle.gv_cursor.specs.Reading.{Stopped}
use Rattle.gv_decls.proofs.PlainStmts.{no_return_value, return_goes_on}
use Rattle.gv_cursor.proofs.Results.{passed_on_exactly, refused_on, unexpected_on_exactly}
use Rattle.gv_decls.proofs.values.Values.return_stmt.Goals as goal

pub returns-in_err-expect_keyword : goal.returns-in_err-expect_keyword
returns-in_err-expect_keyword g c = unexpected_on_exactly (Stopped (IsStmt c.args.self.now.tokens.now)) (EatsKeyword keyword.Return) _ _ _ _ _ c.from_residual.result (c.from_residual.ensures.1) (λ f. absurd (f _ (keyword_here _ (c.requires.next.1)))) (c.in_err-expect_keyword.ensures)

pub full_value-requires-clause-within : goal.full_value-requires-clause-within
full_value-requires-clause-within g c = let a = less (of_keyword (c.in_ok-expect_keyword.ensures)) in let b = c.requires.within in omega arith

pub returns-in_err-value : goal.returns-in_err-value
returns-in_err-value g c =
    let b : begins_expr (kind_of c.expect_keyword.new.self.rest.now) ≡ true = cc in
    passed_on_exactly (Stopped (IsFullValue c.args.self.now.tokens.now)) (Stopped (IsStmt c.args.self.now.tokens.now)) _ _ _ _ c.from_residual-in_err-value.result (c.from_residual-in_err-value.ensures.1) (λ f. no_return_value c.args.self.now.tokens.now (c.in_ok-expect_keyword.ensures) b f) (c.in_err-value.ensures)

pub returns-then-begins_expr : goal.returns-then-begins_expr
returns-then-begins_expr g c = record { is = rw (c.place-place.ensures, c.in_ok-new.ensures) (return_value (c.in_ok-expect_keyword.ensures) (c.in_ok-value.ensures.is)); stops = c.in_ok-value.ensures.stops }

pub returns-in_err-expect_stop : goal.returns-in_err-expect_stop
returns-in_err-expect_stop g c =
    let b : begins_expr (kind_of c.expect_keyword.new.self.rest.now) ≡ false = cc in
    refused_on (Stopped (IsStmt c.args.self.now.tokens.now)) _ _ _ c.from_residual-in_err-expect_stop.result (c.from_residual-in_err-expect_stop.ensures.1) (c.in_err-expect_stop.ensures.stops.0) (return_goes_on c.args.self.now.tokens.now (c.in_ok-expect_keyword.ensures) b (c.in_err-expect_stop.ensures.stops.1))

pub returns : goal.returns
returns g c =
    let b : begins_expr (kind_of c.expect_keyword.new.self.rest.now) ≡ false = cc in
    record { is = rw (c.place-place.ensures, c.in_ok-expect_stop.ensures.same) (return_alone (c.in_ok-expect_keyword.ensures) b); stops = rw (c.in_ok-expect_stop.ensures.same) (c.in_ok-expect_stop.ensures.stops) }
