use Rattle.gv_grammar.specs.Exprs.{IsUnary}
use Rattle.gv_cursor.specs.Reading.{Before}
use Rattle.gv_exprs.specs.Elements.{ends_element, IsElement}
use Rattle.gv_exprs.proofs.Element as element
use Rattle.gv_cursor.proofs.Results as results
use Rattle.gv_cursor.proofs.Results.{refused_on}
use Rattle.gv_exprs.proofs.reader.Exprs.spread_map.Goals as goal

pub returns-in_err-value : goal.returns-in_err-value
returns-in_err-value g c =
    results.passed_on_exactly (IsUnary c.args.self.now.all) (Before ends_element (IsElement c.args.self.now.all)) _ _ _ _ c.from_residual.result (c.from_residual.ensures.1)
    (λ f. element.no_spread_map c.args.self.now.all _ c.requires.next (rw (← c.advance.ensures) f)) (c.in_err-value.ensures)

pub returns-in_err-expect_end_of_element : goal.returns-in_err-expect_end_of_element
returns-in_err-expect_end_of_element g c =
    refused_on (Before ends_element (IsElement c.args.self.now.all)) _ _ _ c.from_residual-in_err-expect_end_of_element.result (c.from_residual-in_err-expect_end_of_element.ensures.1) (c.in_err-expect_end_of_element.ensures.ended.0)
    (element.no_spread_map_end c.args.self.now.all {x = c.in_ok-value.value} _ c.inner_unary.new.tokens.rest.now c.requires.next (rw (← c.advance.ensures) (c.in_ok-value.ensures)) (c.in_err-expect_end_of_element.ensures.ended.1))

pub returns : goal.returns
returns g c =
    rw (c.place-place.ensures, c.in_ok-expect_end_of_element.ensures.same)
    (element.spread_map_here c.args.self.now.all _ _ c.requires.next (rw (← c.advance.ensures) (c.in_ok-value.ensures.is)) (c.in_ok-expect_end_of_element.ensures.ended))
