use Rattle.std.proofs.Common.{refl, subst}
use Rattle.gv_grammar.specs.Exprs.{IsArg}
use Rattle.gv_cursor.specs.Reading.{Before}
use Rattle.gv_exprs.specs.declared.elements.Element.{Element}
use Rattle.gv_exprs.specs.declared.elements.Element.TheVariants as element
use Rattle.gv_exprs.specs.Elements.{ends_element, IsElement}
use Rattle.gv_cursor.proofs.Results as results
use Rattle.gv_exprs.proofs.Lists.{element_arg, no_element_arg, no_computed_arg}
use Rattle.gv_exprs.proofs.reader.Exprs.arg.Goals as goal

pub returns-in_err-value : goal.returns-in_err-value
returns-in_err-value g c = results.passed_on_exactly (Before ends_element (IsElement c.args.self.now.all)) (Before ends_element (IsArg c.args.self.now.all)) _ _ _ _ c.from_residual.result (c.from_residual.ensures.1) (λ f. no_element_arg c.args.self.now.all f) (c.in_err-value.ensures)

pub returns-in-Plain : goal.returns-in-Plain
returns-in-Plain g c =
    let d : Before ends_element (IsElement c.args.self.now.all) (element.Plain c.in-Plain.value) c.args.tokens.now.rest.now c.element.new.tokens.rest.now = subst (λ (w : Element). Before ends_element (IsElement c.args.self.now.all) w c.args.tokens.now.rest.now c.element.new.tokens.rest.now) c.in-Plain.is (c.in_ok-value.ensures) in
    rw (c.in_ok-new-in-Plain.ensures) (element_arg c.args.self.now.all d refl)

pub returns-in-Keyed : goal.returns-in-Keyed
returns-in-Keyed g c =
    let d : Before ends_element (IsElement c.args.self.now.all) (element.Keyed c.in-Keyed.key c.in-Keyed.value) c.args.tokens.now.rest.now c.element.new.tokens.rest.now = subst (λ (w : Element). Before ends_element (IsElement c.args.self.now.all) w c.args.tokens.now.rest.now c.element.new.tokens.rest.now) c.in-Keyed.is (c.in_ok-value.ensures) in
    rw (c.in_ok-new-in-Keyed.ensures) (element_arg c.args.self.now.all d refl)

pub returns-in-Spread : goal.returns-in-Spread
returns-in-Spread g c =
    let d : Before ends_element (IsElement c.args.self.now.all) (element.Spread c.in-Spread.place c.in-Spread.value) c.args.tokens.now.rest.now c.element.new.tokens.rest.now = subst (λ (w : Element). Before ends_element (IsElement c.args.self.now.all) w c.args.tokens.now.rest.now c.element.new.tokens.rest.now) c.in-Spread.is (c.in_ok-value.ensures) in
    rw (c.in_ok-new-in-Spread.ensures) (element_arg c.args.self.now.all d refl)

pub returns-in-SpreadMap : goal.returns-in-SpreadMap
returns-in-SpreadMap g c =
    let d : Before ends_element (IsElement c.args.self.now.all) (element.SpreadMap c.in-SpreadMap.place c.in-SpreadMap.value) c.args.tokens.now.rest.now c.element.new.tokens.rest.now = subst (λ (w : Element). Before ends_element (IsElement c.args.self.now.all) w c.args.tokens.now.rest.now c.element.new.tokens.rest.now) c.in-SpreadMap.is (c.in_ok-value.ensures) in
    rw (c.in_ok-new-in-SpreadMap.ensures) (element_arg c.args.self.now.all d refl)

pub returns : goal.returns
returns g c =
    let d : Before ends_element (IsElement c.args.self.now.all) (element.Computed c.in-Computed.field-0 c.in-Computed.field-1 c.in-Computed.field-2) c.args.tokens.now.rest.now c.element.new.tokens.rest.now = subst (λ (w : Element). Before ends_element (IsElement c.args.self.now.all) w c.args.tokens.now.rest.now c.element.new.tokens.rest.now) c.in-Computed.is (c.in_ok-value.ensures) in
    rw (c.refuse.ensures.0) (no_computed_arg c.args.self.now.all d)
