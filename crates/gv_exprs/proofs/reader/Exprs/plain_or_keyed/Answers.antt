use Rattle.std.proofs.Common.{length, ap, subst, arith, length-drop}
use Rattle.gv_grammar.specs.Exprs.{IsExpr}
use Rattle.gv_grammar.proofs.Lengths.{less, of_expr}
use Rattle.gv_cursor.specs.Reading.{Before}
use Rattle.gv_exprs.specs.Elements.{ends_element, IsElement}
use Rattle.gv_exprs.proofs.Element as element
use Rattle.gv_cursor.proofs.Results as results
use Rattle.gv_cursor.proofs.Results.{refused_on}
use Rattle.gv_exprs.proofs.reader.Exprs.plain_or_keyed.Goals as goal

pub returns-in_err-first : goal.returns-in_err-first
returns-in_err-first g c =
    results.passed_on_exactly (IsExpr c.args.self.now.all) (Before ends_element (IsElement c.args.self.now.all)) _ _ _ _ c.from_residual.result (c.from_residual.ensures.1)
    (λ f. element.no_first c.args.self.now.all c.args.tokens.now.rest.now c.requires.no_spread c.requires.no_spread_map c.requires.no_key f) (c.in_err-first.ensures)

pub returns-in_err-expect_end_of_element : goal.returns-in_err-expect_end_of_element
returns-in_err-expect_end_of_element g c =
    refused_on (Before ends_element (IsElement c.args.self.now.all)) _ _ _ c.from_residual-in_err-expect_end_of_element.result (c.from_residual-in_err-expect_end_of_element.ensures.1) (c.in_err-expect_end_of_element.ensures.ended.0)
    (element.no_end c.args.self.now.all c.args.tokens.now.rest.now c.requires.no_spread c.requires.no_spread_map c.requires.no_key c.inner_expr.new.tokens.rest.now (c.in_ok-first.ensures)
    (c.if-not-sees.ensures) (c.in_err-expect_end_of_element.ensures.ended.1))

pub returns-then-not-sees : goal.returns-then-not-sees
returns-then-not-sees g c =
    rw c.in_ok-expect_end_of_element.ensures.same (element.plain_here c.args.self.now.all _ _ (c.in_ok-first.ensures.is) (c.in_ok-expect_end_of_element.ensures.ended))

pub inner_expr-requires-in-GString-clause-shorter : goal.inner_expr-requires-in-GString-clause-shorter
inner_expr-requires-in-GString-clause-shorter g c =
    let a = less (of_expr c.args.self.now.all (c.in_ok-first.ensures.is)) in
    let b = ap length c.advance.ensures in
    let d = length-drop 1 c.inner_expr.new.tokens.rest.now in
    let s = c.requires.shorter in
    omega arith

pub returns-in_err-value-in-GString : goal.returns-in_err-value-in-GString
returns-in_err-value-in-GString g c =
    results.passed_on_exactly (IsExpr c.args.self.now.all) (Before ends_element (IsElement c.args.self.now.all)) _ _ _ _ c.from_residual-in_err-value-in-GString.result (c.from_residual-in_err-value-in-GString.ensures.1)
    (λ f. element.no_value c.args.self.now.all c.args.tokens.now.rest.now c.requires.no_spread c.requires.no_spread_map c.requires.no_key c.inner_expr.new.tokens.rest.now (c.in_ok-first.ensures)
    (c.if-not-sees.ensures) (rw (← c.advance.ensures) f)) (c.in_err-value-in-GString.ensures)

pub returns-in_err-expect_end_of_element-in-GString : goal.returns-in_err-expect_end_of_element-in-GString
returns-in_err-expect_end_of_element-in-GString g c =
    refused_on (Before ends_element (IsElement c.args.self.now.all)) _ _ _ c.from_residual-in_err-expect_end_of_element-in-GString.result (c.from_residual-in_err-expect_end_of_element-in-GString.ensures.1)
    (c.in_err-expect_end_of_element-in-GString.ensures.ended.0)
    (element.no_value_end c.args.self.now.all c.args.tokens.now.rest.now c.requires.no_spread c.requires.no_spread_map c.requires.no_key c.inner_expr.new.tokens.rest.now (c.in_ok-first.ensures)
    (c.if-not-sees.ensures) {v = c.in_ok-value-in-GString.value} c.inner_expr-in-GString.new.tokens.rest.now (rw (← c.advance.ensures) (c.in_ok-value-in-GString.ensures))
    (c.in_err-expect_end_of_element-in-GString.ensures.ended.1))

pub returns-in-GString : goal.returns-in-GString
returns-in-GString g c =
    rw c.in_ok-expect_end_of_element-in-GString.ensures.same
    (element.string_here c.args.self.now.all {p = c.in-GString.place} {g = c.in-GString.text} {v = c.in_ok-value-in-GString.value} c.args.tokens.now.rest.now c.inner_expr.new.tokens.rest.now
    c.inner_expr-in-GString.new.tokens.rest.now
    (subst (λ e. IsExpr c.args.self.now.all e c.args.tokens.now.rest.now c.inner_expr.new.tokens.rest.now) c.in-GString.is (c.in_ok-first.ensures.is))
    (c.if-not-sees.ensures) (rw (← c.advance.ensures) (c.in_ok-value-in-GString.ensures.is)) (c.in_ok-expect_end_of_element-in-GString.ensures.ended))

pub inner_expr-requires-in-Paren-clause-shorter : goal.inner_expr-requires-in-Paren-clause-shorter
inner_expr-requires-in-Paren-clause-shorter g c =
    let a = less (of_expr c.args.self.now.all (c.in_ok-first.ensures.is)) in
    let b = ap length c.advance-in-Paren.ensures in
    let d = length-drop 1 c.inner_expr.new.tokens.rest.now in
    let s = c.requires.shorter in
    omega arith

pub returns-in_err-value-in-Paren : goal.returns-in_err-value-in-Paren
returns-in_err-value-in-Paren g c =
    results.passed_on_exactly (IsExpr c.args.self.now.all) (Before ends_element (IsElement c.args.self.now.all)) _ _ _ _ c.from_residual-in_err-value-in-Paren.result (c.from_residual-in_err-value-in-Paren.ensures.1)
    (λ f. element.no_value c.args.self.now.all c.args.tokens.now.rest.now c.requires.no_spread c.requires.no_spread_map c.requires.no_key c.inner_expr.new.tokens.rest.now (c.in_ok-first.ensures)
    (c.if-not-sees.ensures) (rw (← c.advance-in-Paren.ensures) f)) (c.in_err-value-in-Paren.ensures)

pub returns-in_err-expect_end_of_element-in-Paren : goal.returns-in_err-expect_end_of_element-in-Paren
returns-in_err-expect_end_of_element-in-Paren g c =
    refused_on (Before ends_element (IsElement c.args.self.now.all)) _ _ _ c.from_residual-in_err-expect_end_of_element-in-Paren.result (c.from_residual-in_err-expect_end_of_element-in-Paren.ensures.1)
    (c.in_err-expect_end_of_element-in-Paren.ensures.ended.0)
    (element.no_value_end c.args.self.now.all c.args.tokens.now.rest.now c.requires.no_spread c.requires.no_spread_map c.requires.no_key c.inner_expr.new.tokens.rest.now (c.in_ok-first.ensures)
    (c.if-not-sees.ensures) {v = c.in_ok-value-in-Paren.value} c.inner_expr-in-Paren.new.tokens.rest.now (rw (← c.advance-in-Paren.ensures) (c.in_ok-value-in-Paren.ensures))
    (c.in_err-expect_end_of_element-in-Paren.ensures.ended.1))

pub returns-in-Paren : goal.returns-in-Paren
returns-in-Paren g c =
    rw c.in_ok-expect_end_of_element-in-Paren.ensures.same
    (element.parens_here c.args.self.now.all {p = c.in-Paren.place} {x = c.into_inner.result} {v = c.in_ok-value-in-Paren.value} c.args.tokens.now.rest.now c.inner_expr.new.tokens.rest.now
    c.inner_expr-in-Paren.new.tokens.rest.now
    (subst (λ e. IsExpr c.args.self.now.all e c.args.tokens.now.rest.now c.inner_expr.new.tokens.rest.now) (rw c.into_inner.ensures c.in-Paren.is) (c.in_ok-first.ensures.is))
    (c.if-not-sees.ensures) (rw (← c.advance-in-Paren.ensures) (c.in_ok-value-in-Paren.ensures.is)) (c.in_ok-expect_end_of_element-in-Paren.ensures.ended))

pub returns : goal.returns
returns g c =
    rw (c.refuse.ensures.0)
    (element.no_own_key c.args.self.now.all c.args.tokens.now.rest.now c.requires.no_spread c.requires.no_spread_map c.requires.no_key c.inner_expr.new.tokens.rest.now (c.in_ok-first.ensures)
    (c.if-not-sees.ensures) c.in_default.not-GString c.in_default.not-Paren)
