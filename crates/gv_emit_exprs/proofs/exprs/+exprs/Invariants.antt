use Rattle.std.proofs.Common.{◌≡◌, ◌++◌, drop}
use Rattle.gv_emit_exprs.specs.Lists.{list_items}
use Rattle.gv_emit_exprs.proofs.exprs.+exprs.Given as goal

abbrev pub invariant-items_of_all-loop-expr : goal.invariant-items_of_all-loop-expr
invariant-items_of_all-loop-expr l = l.items.items ++ list_items l.height l.shape (drop l.expr-index l.all) ≡ list_items l.height l.below l.all
