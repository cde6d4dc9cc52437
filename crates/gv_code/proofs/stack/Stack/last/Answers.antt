use Rattle.std.proofs.Common.{◌-◌, ap, ◌∙◌, sym, reverse}
use Rattle.gv_code.proofs.Cut.{last_of}
use Rattle.gv_code.proofs.stack.Stack.last.Goals as goal

pub returns : goal.returns
returns g c =
    let below = c.saturating_sub-below.ensures ∙ ap (λ m. m - c.args.count) (c.len.ensures ∙ sym c.deref.ensures.len) in
    last_of _ _ _ _ below (ap reverse c.deref.ensures.value ∙ c.self.view_is)
