use Rattle.std.proofs.Common.{◌≡◌, sym, ◌∙◌}
use Rattle.gv_grammar.specs.Exprs.{IsItem}
use Rattle.gv_cursor.specs.Reading.{Before}
use Rattle.gv_exprs.specs.declared.elements.ItemOrEntry.TheVariants as sort
use Rattle.gv_exprs.specs.Elements.{ends_element, sorted, IsElement}
use Rattle.gv_cursor.proofs.Results as results
use Rattle.gv_exprs.proofs.Lists.{element_item, no_element_item, entry_no_item}
use Rattle.gv_exprs.proofs.reader.Exprs.item.Goals as goal

pub returns-in_err-element : goal.returns-in_err-element
returns-in_err-element g c = results.passed_on_exactly (Before ends_element (IsElement c.args.self.now.all)) (Before ends_element (IsItem c.args.self.now.all)) _ _ _ _ c.from_residual.result (c.from_residual.ensures.1) (λ f. no_element_item c.args.self.now.all f) (c.in_err-element.ensures)

pub returns-in-Item : goal.returns-in-Item
returns-in-Item g c =
    let h : sorted c.in_ok-element.field-0 ≡ sort.Item c.in-Item.item = sym (c.in_ok-item.ensures) ∙ c.in-Item.is in
    record { is = element_item c.args.self.now.all (c.in_ok-element.ensures.is) h; ended = c.in_ok-element.ensures.ended }

pub returns : goal.returns
returns g c =
    let h : sorted c.in_ok-element.field-0 ≡ sort.Entry c.in-Entry.field-0 = sym (c.in_ok-item.ensures) ∙ c.in-Entry.is in
    rw (c.refuse.ensures.0) (entry_no_item c.args.self.now.all (c.in_ok-element.ensures) h)
