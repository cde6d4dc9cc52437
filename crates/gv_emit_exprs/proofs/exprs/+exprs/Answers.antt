use Rattle.std.proofs.Common.{◌∙◌, sym}
use Rattle.gv_emit_exprs.proofs.Forms.{code_equal, code_ordered, of_assign, of_call, of_one, of_two}
use Rattle.gv_emit_exprs.proofs.exprs.+exprs.Goals as goal

pub items_of-returns-in_ok-value-in-Assign : goal.items_of-returns-in_ok-value-in-Assign
items_of-returns-in_ok-value-in-Assign t c = rw (of_assign _ _ _ _ _ _ _ c.in-Assign.is c.get.ensures c.in_ok-value-in-Assign.ensures) c.store.ensures

pub items_of-returns-in_ok-values-in-Call : goal.items_of-returns-in_ok-values-in-Call
items_of-returns-in_ok-values-in-Call t c = rw (of_call _ _ _ _ _ _ _ _ c.in-Call.is c.as_slice.ensures c.len.ensures c.in_ok-values-in-Call.ensures) c.invoke.ensures

pub items_of-returns-in_ok-value-in-Ordered : goal.items_of-returns-in_ok-value-in-Ordered
items_of-returns-in_ok-value-in-Ordered t c = rw (of_one _ _ _ _ _ _ _ _ (sym c.in-Ordered.is) (code_ordered _ _ _ _) c.get-in-Ordered.ensures c.in_ok-value-in-Ordered.ensures) c.on_value.ensures

pub items_of-returns-in_ok-second-in-Equal : goal.items_of-returns-in_ok-second-in-Equal
items_of-returns-in_ok-second-in-Equal t c = rw (of_two _ _ _ _ _ _ _ _ _ _ _ _ (sym c.in-Equal.is) (code_equal _ _ _ _) c.get-in-Equal.ensures (c.as_slice-in-Equal.ensures ∙ c.in_ok-shape-in-Equal.ensures) c.get-in-Equal-2.ensures c.in_ok-first-in-Equal.ensures c.in_ok-second-in-Equal.ensures) c.on_both.ensures
