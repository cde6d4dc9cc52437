use Rattle.std.proofs.Common.{◌+◌, ◌*◌, length, map}
use Rattle.gv_grammar.specs.Closures.{filled, unread_places, filled_arg, filled_entry, filled_item, filled_part, arg_places, entry_places, item_places, part_places}
use Rattle.gv_fill.proofs.Nodes.{Taken}
use Rattle.gv_fill.proofs.Weights.{total, weight, item_weight, entry_weight, arg_weight, key_weight, label_weight, gstring_weight, part_weight}
use Rattle.gv_fill.proofs.fill.Filler.+fill.Given as goal

abbrev pub decreases-fill : goal.decreases-fill
decreases-fill g l = 2 * weight l.x

abbrev pub decreases-item : goal.decreases-item
decreases-item g l = 2 * item_weight l.x

abbrev pub decreases-entry : goal.decreases-entry
decreases-entry g l = 2 * entry_weight l.x

abbrev pub decreases-arg : goal.decreases-arg
decreases-arg g l = 2 * arg_weight l.x

abbrev pub decreases-key : goal.decreases-key
decreases-key g l = 2 * key_weight l.x

abbrev pub decreases-label : goal.decreases-label
decreases-label g l = 2 * label_weight l.x

abbrev pub decreases-gstring : goal.decreases-gstring
decreases-gstring g l = 2 * gstring_weight l.x

abbrev pub decreases-part : goal.decreases-part
decreases-part g l = 2 * part_weight l.x

abbrev pub decreases-boxed : goal.decreases-boxed
decreases-boxed g l = 2 * weight l.x + 1

abbrev pub decreases-exprs : goal.decreases-exprs
decreases-exprs g l = 2 * total (map weight l.x) + 1

abbrev pub invariant-exprs-loop-one : goal.invariant-exprs-loop-one
invariant-exprs-loop-one g l = Taken l.self.tokens.now unread_places filled l.fn.x l.left l.last_first

abbrev pub decreases-exprs-loop-one : goal.decreases-exprs-loop-one
decreases-exprs-loop-one g l = length l.left

abbrev pub decreases-items : goal.decreases-items
decreases-items g l = 2 * total (map item_weight l.x) + 1

abbrev pub invariant-items-loop-one : goal.invariant-items-loop-one
invariant-items-loop-one g l = Taken l.self.tokens.now item_places filled_item l.fn.x l.left l.last_first

abbrev pub decreases-items-loop-one : goal.decreases-items-loop-one
decreases-items-loop-one g l = length l.left

abbrev pub decreases-entries : goal.decreases-entries
decreases-entries g l = 2 * total (map entry_weight l.x) + 1

abbrev pub invariant-entries-loop-one : goal.invariant-entries-loop-one
invariant-entries-loop-one g l = Taken l.self.tokens.now entry_places filled_entry l.fn.x l.left l.last_first

abbrev pub decreases-entries-loop-one : goal.decreases-entries-loop-one
decreases-entries-loop-one g l = length l.left

abbrev pub decreases-args : goal.decreases-args
decreases-args g l = 2 * total (map arg_weight l.x) + 1

abbrev pub invariant-args-loop-one : goal.invariant-args-loop-one
invariant-args-loop-one g l = Taken l.self.tokens.now arg_places filled_arg l.fn.x l.left l.last_first

abbrev pub decreases-args-loop-one : goal.decreases-args-loop-one
decreases-args-loop-one g l = length l.left

abbrev pub decreases-parts : goal.decreases-parts
decreases-parts g l = 2 * total (map part_weight l.x) + 1

abbrev pub invariant-parts-loop-one : goal.invariant-parts-loop-one
invariant-parts-loop-one g l = Taken l.self.tokens.now part_places filled_part l.fn.x l.left l.last_first

abbrev pub decreases-parts-loop-one : goal.decreases-parts-loop-one
decreases-parts-loop-one g l = length l.left
