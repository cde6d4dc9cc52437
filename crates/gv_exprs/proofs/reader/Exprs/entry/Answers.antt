use Rattle.std.proofs.Common.{◌≡◌, sym, ◌∙◌}
use Rattle.gv_grammar.specs.Exprs.{IsEntry}
use Rattle.gv_cursor.specs.Reading.{Before}
use Rattle.gv_exprs.specs.declared.elements.ItemOrEntry.TheVariants as sort
use Rattle.gv_exprs.specs.Elements.{ends_element, sorted, IsElement}
use Rattle.gv_cursor.proofs.Results as results
use Rattle.gv_exprs.proofs.Lists.{element_entry, no_element_entry, item_no_entry}
use Rattle.gv_exprs.proofs.reader.Exprs.entry.Goals as goal

pub returns-in_err-element : goal.returns-in_err-element
returns-in_err-element g c = results.passed_on_exactly (Before ends_element (IsElement c.args.self.now.all)) (Before ends_element (IsEntry c.args.self.now.all)) _ _ _ _ c.from_residual.result (c.from_residual.ensures.1) (λ f. no_element_entry c.args.self.now.all f) (c.in_err-element.ensures)

pub returns-in-Entry : goal.returns-in-Entry
returns-in-Entry g c =
    let h : sorted c.in_ok-element.field-0 ≡ sort.Entry c.in-Entry.entry = sym (c.in_ok-entry.ensures) ∙ c.in-Entry.is in
    record { is = element_entry c.args.self.now.all (c.in_ok-element.ensures.is) h; ended = c.in_ok-element.ensures.ended }

pub returns : goal.returns
returns g c =
    let h : sorted c.in_ok-element.field-0 ≡ sort.Item c.in-Item.field-0 = sym (c.in_ok-entry.ensures) ∙ c.in-Item.is in
    rw (c.refuse.ensures.0) (item_no_entry c.args.self.now.all (c.in_ok-element.ensures) h)
