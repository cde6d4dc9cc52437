use Rattle.std.proofs.Common.{reverse, ap, ◌∙◌, drop, length, ◌-◌}
use Rattle.gv_code.proofs.Cut.{cut_reverse}
use Rattle.gv_code.proofs.stack.Stack.cut.Goals as goal

pub returns : goal.returns
returns g c = ap reverse c.truncate.ensures.items ∙ cut_reverse c.args.kept c.self.inside.items.items ∙ ap (λ s. drop (length s - c.args.kept) s) c.self.view_is
