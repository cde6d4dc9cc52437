use Rattle.std.specs.Prelude.{ℤ}
use Rattle.std.proofs.lemmas.Int.{to_z-of_z}
use mir.Val.{SFits}
use Rattle.gv_fill.specs.Filled.{FilledBy}
use Rattle.std.proofs.Common.{◌≡◌, suc, ◌+◌, ◌≤◌, List, ◌++◌, length, map, refl, sym, ap, subst, ◌∙◌, w32, w64, arith, rules, Some, None}
use Rattle.gv_tree.specs.declared.expr.Arg.{Arg}
use Rattle.gv_tree.specs.declared.expr.Arg.TheVariants as arg
use Rattle.gv_tree.specs.declared.expr.Closure.{Closure}
use Rattle.gv_tree.specs.declared.expr.Entry.{Entry}
use Rattle.gv_tree.specs.declared.expr.Entry.TheVariants as entry
use Rattle.gv_tree.specs.declared.expr.Expr.{Expr}
use Rattle.gv_tree.specs.declared.expr.Expr.TheVariants as expr
use Rattle.gv_tree.specs.declared.expr.GString.{GString, roll-GString, out-GString}
use Rattle.gv_tree.specs.declared.expr.Item.{Item}
use Rattle.gv_tree.specs.declared.expr.Item.TheVariants as item
use Rattle.gv_tree.specs.declared.expr.Key.{Key}
use Rattle.gv_tree.specs.declared.expr.Key.TheVariants as key
use Rattle.gv_tree.specs.declared.expr.Label.{Label}
use Rattle.gv_tree.specs.declared.expr.Label.TheVariants as label
use Rattle.gv_tree.specs.declared.expr.Part.{Part, roll-Part}
use Rattle.gv_grammar.specs.Closures.{Within, all_found, filled, unread_places, filled_arg, filled_entry, filled_item, filled_key, filled_label, filled_gstring, filled_part, filled_closure, arg_places, entry_places, item_places, key_places, label_places, gstring_places, part_places, closure_places}
use Rattle.gv_fill.proofs.Nodes.{same_places, left_of, right_of, among, lies, regrouped, of_none, of_one, of_two, of_three, passed_on, same_value, one_more, all_taken, of_item}
use Rattle.gv_fill.proofs.Weights.{total, weight, item_weight, entry_weight, arg_weight, key_weight, label_weight, gstring_weight, part_weight, a_gstring_weight, paren_weight, list_weight, map_weight, new_weight, unary_weight, binary_weight, typed_weight, choice_none_weight, choice_some_weight, assign_weight, member_weight, field_weight, index_weight, call_weight, item_plain_weight, item_spread_weight, entry_keyed_weight, entry_computed_weight, entry_spread_weight, arg_plain_weight, arg_keyed_weight, arg_spread_weight, arg_spreadmap_weight, key_label_weight, label_gstring_weight, string_weight, value_weight, item_in_total}
use Rattle.gv_fill.proofs.Layers.{atom_places, atom_filled, a_gstring_places, a_gstring_filled, paren_places, paren_filled, list_places, list_filled, map_places, map_filled, a_closure_places, a_closure_filled, new_places, new_filled, unary_places, unary_filled, binary_places, binary_filled, typed_places, typed_filled, choice_none_places, choice_none_filled, choice_some_places, choice_some_filled, assign_places, assign_filled, member_places, member_filled, field_places, field_filled, index_places, index_filled, call_places, call_filled, item_plain_places, item_plain_filled, item_spread_places, item_spread_filled, entry_keyed_places, entry_keyed_filled, entry_computed_places, entry_computed_filled, entry_spread_places, entry_spread_filled, arg_plain_places, arg_plain_filled, arg_keyed_places, arg_keyed_filled, arg_spread_places, arg_spread_filled, arg_spreadmap_places, arg_spreadmap_filled, key_label_places, key_label_filled, key_int_places, key_int_filled, key_long_places, key_long_filled, label_name_places, label_name_filled, label_text_places, label_text_filled, label_gstring_places, label_gstring_filled, string_places, string_filled, value_places, value_filled}
use Rattle.gv_fill.proofs.fill.Filler.+fill.Goals as goal

pub arg-boxed-requires : goal.arg-boxed-requires
arg-boxed-requires g t c =
    let w : Within (length c.args.self.now.tokens.now) c.args.self.now.below (unread_places c.in-Plain.a) = lies (same_places (arg_plain_places c.in-Plain.a c.in-Plain.is)) c.requires.within in
    let e : arg_weight c.args.x ≡ suc (weight c.in-Plain.a) = arg_plain_weight c.in-Plain.a c.in-Plain.is in
    λ κs i. (omega arith, (search rules, (c.requires.bodies, w)))

pub arg-returns-in_err-boxed-in-Plain : goal.arg-returns-in_err-boxed-in-Plain
arg-returns-in_err-boxed-in-Plain g t c = passed_on c.args.self.now.tokens.now (unread_places c.in-Plain.a) (arg_places c.args.x) (λ read. filled read c.in-Plain.a) (λ read. filled_arg read c.args.x) _ c.from_residual.result c.from_residual.ensures.1 (same_places (arg_plain_places c.in-Plain.a c.in-Plain.is)) c.in_err-boxed-in-Plain.ensures

pub arg-returns-in_ok-boxed-in-Plain : goal.arg-returns-in_ok-boxed-in-Plain
arg-returns-in_ok-boxed-in-Plain g t c = of_one c.args.self.now.tokens.now (λ (w0 : Expr). arg.Plain w0) (arg_plain_places c.in-Plain.a c.in-Plain.is) (arg_plain_filled c.in-Plain.a c.in-Plain.is) c.in_ok-boxed-in-Plain.ensures

pub arg-key-requires : goal.arg-key-requires
arg-key-requires g t c =
    let w : Within (length c.args.self.now.tokens.now) c.args.self.now.below (key_places c.in-Keyed.key) = lies (left_of (unread_places c.in-Keyed.a) (arg_keyed_places c.in-Keyed.key c.in-Keyed.a c.in-Keyed.is)) c.requires.within in
    let e : arg_weight c.args.x ≡ suc (key_weight c.in-Keyed.key + weight c.in-Keyed.a) = arg_keyed_weight c.in-Keyed.key c.in-Keyed.a c.in-Keyed.is in
    λ κs i. (omega arith, (search rules, (c.requires.bodies, w)))

pub arg-returns-in_err-key-in-Keyed : goal.arg-returns-in_err-key-in-Keyed
arg-returns-in_err-key-in-Keyed g t c = passed_on c.args.self.now.tokens.now (key_places c.in-Keyed.key) (arg_places c.args.x) (λ read. filled_key read c.in-Keyed.key) (λ read. filled_arg read c.args.x) _ c.from_residual-in_err-key-in-Keyed.result c.from_residual-in_err-key-in-Keyed.ensures.1 (left_of (unread_places c.in-Keyed.a) (arg_keyed_places c.in-Keyed.key c.in-Keyed.a c.in-Keyed.is)) c.in_err-key-in-Keyed.ensures

pub arg-boxed-requires-in-Keyed : goal.arg-boxed-requires-in-Keyed
arg-boxed-requires-in-Keyed g t c =
    let w : Within (length c.args.self.now.tokens.now) c.args.self.now.below (unread_places c.in-Keyed.a) = lies (right_of (key_places c.in-Keyed.key) (arg_keyed_places c.in-Keyed.key c.in-Keyed.a c.in-Keyed.is)) c.requires.within in
    let e : arg_weight c.args.x ≡ suc (key_weight c.in-Keyed.key + weight c.in-Keyed.a) = arg_keyed_weight c.in-Keyed.key c.in-Keyed.a c.in-Keyed.is in
    λ κs i. (omega arith, (search rules, (c.requires.bodies, w)))

pub arg-returns-in_err-boxed-in-Keyed : goal.arg-returns-in_err-boxed-in-Keyed
arg-returns-in_err-boxed-in-Keyed g t c = passed_on c.args.self.now.tokens.now (unread_places c.in-Keyed.a) (arg_places c.args.x) (λ read. filled read c.in-Keyed.a) (λ read. filled_arg read c.args.x) _ c.from_residual-in_err-boxed-in-Keyed.result c.from_residual-in_err-boxed-in-Keyed.ensures.1 (right_of (key_places c.in-Keyed.key) (arg_keyed_places c.in-Keyed.key c.in-Keyed.a c.in-Keyed.is)) c.in_err-boxed-in-Keyed.ensures

pub arg-returns-in_ok-boxed-in-Keyed : goal.arg-returns-in_ok-boxed-in-Keyed
arg-returns-in_ok-boxed-in-Keyed g t c = of_two c.args.self.now.tokens.now (λ (w0 : Key) (w1 : Expr). arg.Keyed w0 w1) (arg_keyed_places c.in-Keyed.key c.in-Keyed.a c.in-Keyed.is) (arg_keyed_filled c.in-Keyed.key c.in-Keyed.a c.in-Keyed.is) c.in_ok-key-in-Keyed.ensures c.in_ok-boxed-in-Keyed.ensures

pub arg-boxed-requires-in-Spread : goal.arg-boxed-requires-in-Spread
arg-boxed-requires-in-Spread g t c =
    let w : Within (length c.args.self.now.tokens.now) c.args.self.now.below (unread_places c.in-Spread.a) = lies (same_places (arg_spread_places c.in-Spread.a c.in-Spread.is)) c.requires.within in
    let e : arg_weight c.args.x ≡ suc (weight c.in-Spread.a) = arg_spread_weight c.in-Spread.a c.in-Spread.is in
    λ κs i. (omega arith, (search rules, (c.requires.bodies, w)))

pub arg-returns-in_err-boxed-in-Spread : goal.arg-returns-in_err-boxed-in-Spread
arg-returns-in_err-boxed-in-Spread g t c = passed_on c.args.self.now.tokens.now (unread_places c.in-Spread.a) (arg_places c.args.x) (λ read. filled read c.in-Spread.a) (λ read. filled_arg read c.args.x) _ c.from_residual-in_err-boxed-in-Spread.result c.from_residual-in_err-boxed-in-Spread.ensures.1 (same_places (arg_spread_places c.in-Spread.a c.in-Spread.is)) c.in_err-boxed-in-Spread.ensures

pub arg-returns-in_ok-boxed-in-Spread : goal.arg-returns-in_ok-boxed-in-Spread
arg-returns-in_ok-boxed-in-Spread g t c = of_one c.args.self.now.tokens.now (λ (w0 : Expr). arg.Spread c.in-Spread.place w0) (arg_spread_places c.in-Spread.a c.in-Spread.is) (arg_spread_filled c.in-Spread.a c.in-Spread.is) c.in_ok-boxed-in-Spread.ensures

pub arg-boxed-requires-in-SpreadMap : goal.arg-boxed-requires-in-SpreadMap
arg-boxed-requires-in-SpreadMap g t c =
    let w : Within (length c.args.self.now.tokens.now) c.args.self.now.below (unread_places c.in-SpreadMap.a) = lies (same_places (arg_spreadmap_places c.in-SpreadMap.a c.in-SpreadMap.is)) c.requires.within in
    let e : arg_weight c.args.x ≡ suc (weight c.in-SpreadMap.a) = arg_spreadmap_weight c.in-SpreadMap.a c.in-SpreadMap.is in
    λ κs i. (omega arith, (search rules, (c.requires.bodies, w)))

pub arg-returns-in_err-boxed-in-SpreadMap : goal.arg-returns-in_err-boxed-in-SpreadMap
arg-returns-in_err-boxed-in-SpreadMap g t c = passed_on c.args.self.now.tokens.now (unread_places c.in-SpreadMap.a) (arg_places c.args.x) (λ read. filled read c.in-SpreadMap.a) (λ read. filled_arg read c.args.x) _ c.from_residual-in_err-boxed-in-SpreadMap.result c.from_residual-in_err-boxed-in-SpreadMap.ensures.1 (same_places (arg_spreadmap_places c.in-SpreadMap.a c.in-SpreadMap.is)) c.in_err-boxed-in-SpreadMap.ensures

pub arg-returns-in_ok-boxed-in-SpreadMap : goal.arg-returns-in_ok-boxed-in-SpreadMap
arg-returns-in_ok-boxed-in-SpreadMap g t c = of_one c.args.self.now.tokens.now (λ (w0 : Expr). arg.SpreadMap c.in-SpreadMap.place w0) (arg_spreadmap_places c.in-SpreadMap.a c.in-SpreadMap.is) (arg_spreadmap_filled c.in-SpreadMap.a c.in-SpreadMap.is) c.in_ok-boxed-in-SpreadMap.ensures

pub args-arg-requires : goal.args-arg-requires
args-arg-requires g t c =
    let w : Within (length c.args.self.now.tokens.now) c.args.self.now.below (arg_places c.in-Some.one) = lies (of_item c.args.self.now.tokens.now arg_places filled_arg c.pop.new.self c.in-Some.one c.loop-one.invariant c.in-Some.ensures) c.requires.within in
    let e : arg_weight c.in-Some.one ≤ total (map arg_weight c.args.x) = item_in_total arg_weight c.pop.new.self c.loop-one.invariant.taken c.in-Some.one (regrouped c.args.self.now.tokens.now arg_places filled_arg c.pop.new.self c.loop-one.invariant.taken c.in-Some.one c.loop-one.invariant.parts c.in-Some.ensures) in
    λ κs i. (omega arith, (search rules, (c.requires.bodies, w)))

pub args-returns-in_err-arg : goal.args-returns-in_err-arg
args-returns-in_err-arg g t c = passed_on c.args.self.now.tokens.now (arg_places c.in-Some.one) (all_found (map arg_places c.args.x)) (λ read. filled_arg read c.in-Some.one) (λ read. map (filled_arg read) c.args.x) _ c.from_residual.result c.from_residual.ensures.1 (of_item c.args.self.now.tokens.now arg_places filled_arg c.pop.new.self c.in-Some.one c.loop-one.invariant c.in-Some.ensures) c.in_err-arg.ensures

pub args-loop-one-preserved : goal.args-loop-one-preserved
args-loop-one-preserved g t c = rw c.in_ok-push.ensures.ok (one_more c.args.self.now.tokens.now arg_places filled_arg c.pop.new.self c.in-Some.one c.loop-one.invariant c.in-Some.ensures c.in_ok-arg.ensures)

pub args-returns : goal.args-returns
args-returns g t c = all_taken c.args.self.now.tokens.now arg_places filled_arg c.loop-one.invariant c.in_default.ensures.0 c.in_ok-turned.ensures

pub boxed-returns : goal.boxed-returns
boxed-returns g t c = same_value c.args.self.now.tokens.now unread_places filled c.into_inner.ensures c.in_ok-new.ensures c.in_ok-fill.ensures

pub entries-entry-requires : goal.entries-entry-requires
entries-entry-requires g t c =
    let w : Within (length c.args.self.now.tokens.now) c.args.self.now.below (entry_places c.in-Some.one) = lies (of_item c.args.self.now.tokens.now entry_places filled_entry c.pop.new.self c.in-Some.one c.loop-one.invariant c.in-Some.ensures) c.requires.within in
    let e : entry_weight c.in-Some.one ≤ total (map entry_weight c.args.x) = item_in_total entry_weight c.pop.new.self c.loop-one.invariant.taken c.in-Some.one (regrouped c.args.self.now.tokens.now entry_places filled_entry c.pop.new.self c.loop-one.invariant.taken c.in-Some.one c.loop-one.invariant.parts c.in-Some.ensures) in
    λ κs i. (omega arith, (search rules, (c.requires.bodies, w)))

pub entries-returns-in_err-entry : goal.entries-returns-in_err-entry
entries-returns-in_err-entry g t c = passed_on c.args.self.now.tokens.now (entry_places c.in-Some.one) (all_found (map entry_places c.args.x)) (λ read. filled_entry read c.in-Some.one) (λ read. map (filled_entry read) c.args.x) _ c.from_residual.result c.from_residual.ensures.1 (of_item c.args.self.now.tokens.now entry_places filled_entry c.pop.new.self c.in-Some.one c.loop-one.invariant c.in-Some.ensures) c.in_err-entry.ensures

pub entries-loop-one-preserved : goal.entries-loop-one-preserved
entries-loop-one-preserved g t c = rw c.in_ok-push.ensures.ok (one_more c.args.self.now.tokens.now entry_places filled_entry c.pop.new.self c.in-Some.one c.loop-one.invariant c.in-Some.ensures c.in_ok-entry.ensures)

pub entries-returns : goal.entries-returns
entries-returns g t c = all_taken c.args.self.now.tokens.now entry_places filled_entry c.loop-one.invariant c.in_default.ensures.0 c.in_ok-turned.ensures

pub entry-key-requires : goal.entry-key-requires
entry-key-requires g t c =
    let w : Within (length c.args.self.now.tokens.now) c.args.self.now.below (key_places c.in-Keyed.key) = lies (left_of (unread_places c.in-Keyed.a) (entry_keyed_places c.in-Keyed.key c.in-Keyed.a c.in-Keyed.is)) c.requires.within in
    let e : entry_weight c.args.x ≡ suc (key_weight c.in-Keyed.key + weight c.in-Keyed.a) = entry_keyed_weight c.in-Keyed.key c.in-Keyed.a c.in-Keyed.is in
    λ κs i. (omega arith, (search rules, (c.requires.bodies, w)))

pub entry-returns-in_err-key-in-Keyed : goal.entry-returns-in_err-key-in-Keyed
entry-returns-in_err-key-in-Keyed g t c = passed_on c.args.self.now.tokens.now (key_places c.in-Keyed.key) (entry_places c.args.x) (λ read. filled_key read c.in-Keyed.key) (λ read. filled_entry read c.args.x) _ c.from_residual.result c.from_residual.ensures.1 (left_of (unread_places c.in-Keyed.a) (entry_keyed_places c.in-Keyed.key c.in-Keyed.a c.in-Keyed.is)) c.in_err-key-in-Keyed.ensures

pub entry-boxed-requires : goal.entry-boxed-requires
entry-boxed-requires g t c =
    let w : Within (length c.args.self.now.tokens.now) c.args.self.now.below (unread_places c.in-Keyed.a) = lies (right_of (key_places c.in-Keyed.key) (entry_keyed_places c.in-Keyed.key c.in-Keyed.a c.in-Keyed.is)) c.requires.within in
    let e : entry_weight c.args.x ≡ suc (key_weight c.in-Keyed.key + weight c.in-Keyed.a) = entry_keyed_weight c.in-Keyed.key c.in-Keyed.a c.in-Keyed.is in
    λ κs i. (omega arith, (search rules, (c.requires.bodies, w)))

pub entry-returns-in_err-boxed-in-Keyed : goal.entry-returns-in_err-boxed-in-Keyed
entry-returns-in_err-boxed-in-Keyed g t c = passed_on c.args.self.now.tokens.now (unread_places c.in-Keyed.a) (entry_places c.args.x) (λ read. filled read c.in-Keyed.a) (λ read. filled_entry read c.args.x) _ c.from_residual-in_err-boxed-in-Keyed.result c.from_residual-in_err-boxed-in-Keyed.ensures.1 (right_of (key_places c.in-Keyed.key) (entry_keyed_places c.in-Keyed.key c.in-Keyed.a c.in-Keyed.is)) c.in_err-boxed-in-Keyed.ensures

pub entry-returns-in_ok-boxed-in-Keyed : goal.entry-returns-in_ok-boxed-in-Keyed
entry-returns-in_ok-boxed-in-Keyed g t c = of_two c.args.self.now.tokens.now (λ (w0 : Key) (w1 : Expr). entry.Keyed w0 w1) (entry_keyed_places c.in-Keyed.key c.in-Keyed.a c.in-Keyed.is) (entry_keyed_filled c.in-Keyed.key c.in-Keyed.a c.in-Keyed.is) c.in_ok-key-in-Keyed.ensures c.in_ok-boxed-in-Keyed.ensures

pub entry-boxed-requires-in-Computed : goal.entry-boxed-requires-in-Computed
entry-boxed-requires-in-Computed g t c =
    let w : Within (length c.args.self.now.tokens.now) c.args.self.now.below (unread_places c.in-Computed.a) = lies (left_of (unread_places c.in-Computed.b) (entry_computed_places c.in-Computed.a c.in-Computed.b c.in-Computed.is)) c.requires.within in
    let e : entry_weight c.args.x ≡ suc (weight c.in-Computed.a + weight c.in-Computed.b) = entry_computed_weight c.in-Computed.a c.in-Computed.b c.in-Computed.is in
    λ κs i. (omega arith, (search rules, (c.requires.bodies, w)))

pub entry-returns-in_err-boxed-in-Computed : goal.entry-returns-in_err-boxed-in-Computed
entry-returns-in_err-boxed-in-Computed g t c = passed_on c.args.self.now.tokens.now (unread_places c.in-Computed.a) (entry_places c.args.x) (λ read. filled read c.in-Computed.a) (λ read. filled_entry read c.args.x) _ c.from_residual-in_err-boxed-in-Computed.result c.from_residual-in_err-boxed-in-Computed.ensures.1 (left_of (unread_places c.in-Computed.b) (entry_computed_places c.in-Computed.a c.in-Computed.b c.in-Computed.is)) c.in_err-boxed-in-Computed.ensures

pub entry-boxed-requires-in-Computed-2 : goal.entry-boxed-requires-in-Computed-2
entry-boxed-requires-in-Computed-2 g t c =
    let w : Within (length c.args.self.now.tokens.now) c.args.self.now.below (unread_places c.in-Computed.b) = lies (right_of (unread_places c.in-Computed.a) (entry_computed_places c.in-Computed.a c.in-Computed.b c.in-Computed.is)) c.requires.within in
    let e : entry_weight c.args.x ≡ suc (weight c.in-Computed.a + weight c.in-Computed.b) = entry_computed_weight c.in-Computed.a c.in-Computed.b c.in-Computed.is in
    λ κs i. (omega arith, (search rules, (c.requires.bodies, w)))

pub entry-returns-in_err-boxed-in-Computed-2 : goal.entry-returns-in_err-boxed-in-Computed-2
entry-returns-in_err-boxed-in-Computed-2 g t c = passed_on c.args.self.now.tokens.now (unread_places c.in-Computed.b) (entry_places c.args.x) (λ read. filled read c.in-Computed.b) (λ read. filled_entry read c.args.x) _ c.from_residual-in_err-boxed-in-Computed-2.result c.from_residual-in_err-boxed-in-Computed-2.ensures.1 (right_of (unread_places c.in-Computed.a) (entry_computed_places c.in-Computed.a c.in-Computed.b c.in-Computed.is)) c.in_err-boxed-in-Computed-2.ensures

pub entry-returns-in_ok-boxed-in-Computed-2 : goal.entry-returns-in_ok-boxed-in-Computed-2
entry-returns-in_ok-boxed-in-Computed-2 g t c = of_two c.args.self.now.tokens.now (λ (w0 : Expr) (w1 : Expr). entry.Computed c.in-Computed.place w0 w1) (entry_computed_places c.in-Computed.a c.in-Computed.b c.in-Computed.is) (entry_computed_filled c.in-Computed.a c.in-Computed.b c.in-Computed.is) c.in_ok-boxed-in-Computed.ensures c.in_ok-boxed-in-Computed-2.ensures

pub entry-boxed-requires-in-Spread : goal.entry-boxed-requires-in-Spread
entry-boxed-requires-in-Spread g t c =
    let w : Within (length c.args.self.now.tokens.now) c.args.self.now.below (unread_places c.in-Spread.a) = lies (same_places (entry_spread_places c.in-Spread.a c.in-Spread.is)) c.requires.within in
    let e : entry_weight c.args.x ≡ suc (weight c.in-Spread.a) = entry_spread_weight c.in-Spread.a c.in-Spread.is in
    λ κs i. (omega arith, (search rules, (c.requires.bodies, w)))

pub entry-returns-in_err-boxed-in-Spread : goal.entry-returns-in_err-boxed-in-Spread
entry-returns-in_err-boxed-in-Spread g t c = passed_on c.args.self.now.tokens.now (unread_places c.in-Spread.a) (entry_places c.args.x) (λ read. filled read c.in-Spread.a) (λ read. filled_entry read c.args.x) _ c.from_residual-in_err-boxed-in-Spread.result c.from_residual-in_err-boxed-in-Spread.ensures.1 (same_places (entry_spread_places c.in-Spread.a c.in-Spread.is)) c.in_err-boxed-in-Spread.ensures

pub entry-returns-in_ok-boxed-in-Spread : goal.entry-returns-in_ok-boxed-in-Spread
entry-returns-in_ok-boxed-in-Spread g t c = of_one c.args.self.now.tokens.now (λ (w0 : Expr). entry.Spread c.in-Spread.place w0) (entry_spread_places c.in-Spread.a c.in-Spread.is) (entry_spread_filled c.in-Spread.a c.in-Spread.is) c.in_ok-boxed-in-Spread.ensures

pub exprs-fill-requires : goal.exprs-fill-requires
exprs-fill-requires g t c =
    let w : Within (length c.args.self.now.tokens.now) c.args.self.now.below (unread_places c.in-Some.one) = lies (of_item c.args.self.now.tokens.now unread_places filled c.pop.new.self c.in-Some.one c.loop-one.invariant c.in-Some.ensures) c.requires.within in
    let e : weight c.in-Some.one ≤ total (map weight c.args.x) = item_in_total weight c.pop.new.self c.loop-one.invariant.taken c.in-Some.one (regrouped c.args.self.now.tokens.now unread_places filled c.pop.new.self c.loop-one.invariant.taken c.in-Some.one c.loop-one.invariant.parts c.in-Some.ensures) in
    λ κs i. (omega arith, (search rules, (c.requires.bodies, w)))

pub exprs-returns-in_err-fill : goal.exprs-returns-in_err-fill
exprs-returns-in_err-fill g t c = passed_on c.args.self.now.tokens.now (unread_places c.in-Some.one) (all_found (map unread_places c.args.x)) (λ read. filled read c.in-Some.one) (λ read. map (filled read) c.args.x) _ c.from_residual.result c.from_residual.ensures.1 (of_item c.args.self.now.tokens.now unread_places filled c.pop.new.self c.in-Some.one c.loop-one.invariant c.in-Some.ensures) c.in_err-fill.ensures

pub exprs-loop-one-preserved : goal.exprs-loop-one-preserved
exprs-loop-one-preserved g t c = rw c.in_ok-push.ensures.ok (one_more c.args.self.now.tokens.now unread_places filled c.pop.new.self c.in-Some.one c.loop-one.invariant c.in-Some.ensures c.in_ok-fill.ensures)

pub exprs-returns : goal.exprs-returns
exprs-returns g t c = all_taken c.args.self.now.tokens.now unread_places filled c.loop-one.invariant c.in_default.ensures.0 c.in_ok-turned.ensures

pub fill-returns-in-Atom : goal.fill-returns-in-Atom
fill-returns-in-Atom g t c = of_none c.args.self.now.tokens.now (atom_places c.in-Atom.is) (atom_filled c.in-Atom.is)

pub fill-gstring-requires : goal.fill-gstring-requires
fill-gstring-requires g t c =
    let w : Within (length c.args.self.now.tokens.now) c.args.self.now.below (gstring_places c.in-GString.text) = lies (same_places (a_gstring_places c.in-GString.text c.in-GString.is)) c.requires.within in
    let e : weight c.args.x ≡ suc (gstring_weight c.in-GString.text) = a_gstring_weight c.in-GString.text c.in-GString.is in
    λ κs i. (omega arith, (search rules, (c.requires.bodies, w)))

pub fill-returns-in_err-gstring-in-GString : goal.fill-returns-in_err-gstring-in-GString
fill-returns-in_err-gstring-in-GString g t c = passed_on c.args.self.now.tokens.now (gstring_places c.in-GString.text) (unread_places c.args.x) (λ read. filled_gstring read c.in-GString.text) (λ read. filled read c.args.x) _ c.from_residual.result c.from_residual.ensures.1 (same_places (a_gstring_places c.in-GString.text c.in-GString.is)) c.in_err-gstring-in-GString.ensures

pub fill-returns-in_ok-gstring-in-GString : goal.fill-returns-in_ok-gstring-in-GString
fill-returns-in_ok-gstring-in-GString g t c = of_one c.args.self.now.tokens.now (λ (w0 : GString). expr.GString c.in-GString.place w0) (a_gstring_places c.in-GString.text c.in-GString.is) (a_gstring_filled c.in-GString.text c.in-GString.is) c.in_ok-gstring-in-GString.ensures

pub fill-boxed-requires : goal.fill-boxed-requires
fill-boxed-requires g t c =
    let w : Within (length c.args.self.now.tokens.now) c.args.self.now.below (unread_places c.in-Paren.a) = lies (same_places (paren_places c.in-Paren.a c.in-Paren.is)) c.requires.within in
    let e : weight c.args.x ≡ suc (weight c.in-Paren.a) = paren_weight c.in-Paren.a c.in-Paren.is in
    λ κs i. (omega arith, (search rules, (c.requires.bodies, w)))

pub fill-returns-in_err-boxed-in-Paren : goal.fill-returns-in_err-boxed-in-Paren
fill-returns-in_err-boxed-in-Paren g t c = passed_on c.args.self.now.tokens.now (unread_places c.in-Paren.a) (unread_places c.args.x) (λ read. filled read c.in-Paren.a) (λ read. filled read c.args.x) _ c.from_residual-in_err-boxed-in-Paren.result c.from_residual-in_err-boxed-in-Paren.ensures.1 (same_places (paren_places c.in-Paren.a c.in-Paren.is)) c.in_err-boxed-in-Paren.ensures

pub fill-returns-in_ok-boxed-in-Paren : goal.fill-returns-in_ok-boxed-in-Paren
fill-returns-in_ok-boxed-in-Paren g t c = of_one c.args.self.now.tokens.now (λ (w0 : Expr). expr.Paren c.in-Paren.place w0) (paren_places c.in-Paren.a c.in-Paren.is) (paren_filled c.in-Paren.a c.in-Paren.is) c.in_ok-boxed-in-Paren.ensures

pub fill-items-requires : goal.fill-items-requires
fill-items-requires g t c =
    let w : Within (length c.args.self.now.tokens.now) c.args.self.now.below (all_found (map item_places c.in-List.items)) = lies (same_places (list_places c.in-List.items c.in-List.is)) c.requires.within in
    let e : weight c.args.x ≡ suc (total (map item_weight c.in-List.items)) = list_weight c.in-List.items c.in-List.is in
    λ κs i. (omega arith, (search rules, (c.requires.bodies, w)))

pub fill-returns-in_err-items-in-List : goal.fill-returns-in_err-items-in-List
fill-returns-in_err-items-in-List g t c = passed_on c.args.self.now.tokens.now (all_found (map item_places c.in-List.items)) (unread_places c.args.x) (λ read. map (filled_item read) c.in-List.items) (λ read. filled read c.args.x) _ c.from_residual-in_err-items-in-List.result c.from_residual-in_err-items-in-List.ensures.1 (same_places (list_places c.in-List.items c.in-List.is)) c.in_err-items-in-List.ensures

pub fill-returns-in_ok-items-in-List : goal.fill-returns-in_ok-items-in-List
fill-returns-in_ok-items-in-List g t c = of_one c.args.self.now.tokens.now (λ (w0 : List Item). expr.List c.in-List.place w0) (list_places c.in-List.items c.in-List.is) (list_filled c.in-List.items c.in-List.is) c.in_ok-items-in-List.ensures

pub fill-entries-requires : goal.fill-entries-requires
fill-entries-requires g t c =
    let w : Within (length c.args.self.now.tokens.now) c.args.self.now.below (all_found (map entry_places c.in-Map.entries)) = lies (same_places (map_places c.in-Map.entries c.in-Map.is)) c.requires.within in
    let e : weight c.args.x ≡ suc (total (map entry_weight c.in-Map.entries)) = map_weight c.in-Map.entries c.in-Map.is in
    λ κs i. (omega arith, (search rules, (c.requires.bodies, w)))

pub fill-returns-in_err-entries-in-Map : goal.fill-returns-in_err-entries-in-Map
fill-returns-in_err-entries-in-Map g t c = passed_on c.args.self.now.tokens.now (all_found (map entry_places c.in-Map.entries)) (unread_places c.args.x) (λ read. map (filled_entry read) c.in-Map.entries) (λ read. filled read c.args.x) _ c.from_residual-in_err-entries-in-Map.result c.from_residual-in_err-entries-in-Map.ensures.1 (same_places (map_places c.in-Map.entries c.in-Map.is)) c.in_err-entries-in-Map.ensures

pub fill-returns-in_ok-entries-in-Map : goal.fill-returns-in_ok-entries-in-Map
fill-returns-in_ok-entries-in-Map g t c = of_one c.args.self.now.tokens.now (λ (w0 : List Entry). expr.Map c.in-Map.place w0) (map_places c.in-Map.entries c.in-Map.is) (map_filled c.in-Map.entries c.in-Map.is) c.in_ok-entries-in-Map.ensures

pub fill-closure-requires-clause-within : goal.fill-closure-requires-clause-within
fill-closure-requires-clause-within g t c = lies (same_places (a_closure_places c.in-Closure.closure c.in-Closure.is)) c.requires.within

pub fill-returns-in_err-closure-in-Closure : goal.fill-returns-in_err-closure-in-Closure
fill-returns-in_err-closure-in-Closure g t c = passed_on c.args.self.now.tokens.now (closure_places c.in-Closure.closure) (unread_places c.args.x) (λ read. filled_closure read c.in-Closure.closure) (λ read. filled read c.args.x) _ c.from_residual-in_err-closure-in-Closure.result c.from_residual-in_err-closure-in-Closure.ensures.1 (same_places (a_closure_places c.in-Closure.closure c.in-Closure.is)) c.in_err-closure-in-Closure.ensures

pub fill-returns-in_ok-closure-in-Closure : goal.fill-returns-in_ok-closure-in-Closure
fill-returns-in_ok-closure-in-Closure g t c = of_one c.args.self.now.tokens.now (λ (w0 : Closure). expr.Closure c.in-Closure.place w0) (a_closure_places c.in-Closure.closure c.in-Closure.is) (a_closure_filled c.in-Closure.closure c.in-Closure.is) c.in_ok-closure-in-Closure.ensures

pub fill-args-requires : goal.fill-args-requires
fill-args-requires g t c =
    let w : Within (length c.args.self.now.tokens.now) c.args.self.now.below (all_found (map arg_places c.in-New.args)) = lies (same_places (new_places c.in-New.args c.in-New.is)) c.requires.within in
    let e : weight c.args.x ≡ suc (total (map arg_weight c.in-New.args)) = new_weight c.in-New.args c.in-New.is in
    λ κs i. (omega arith, (search rules, (c.requires.bodies, w)))

pub fill-returns-in_err-args-in-New : goal.fill-returns-in_err-args-in-New
fill-returns-in_err-args-in-New g t c = passed_on c.args.self.now.tokens.now (all_found (map arg_places c.in-New.args)) (unread_places c.args.x) (λ read. map (filled_arg read) c.in-New.args) (λ read. filled read c.args.x) _ c.from_residual-in_err-args-in-New.result c.from_residual-in_err-args-in-New.ensures.1 (same_places (new_places c.in-New.args c.in-New.is)) c.in_err-args-in-New.ensures

pub fill-returns-in_ok-args-in-New : goal.fill-returns-in_ok-args-in-New
fill-returns-in_ok-args-in-New g t c = of_one c.args.self.now.tokens.now (λ (w0 : List Arg). expr.New c.in-New.place c.in-New.class w0) (new_places c.in-New.args c.in-New.is) (new_filled c.in-New.args c.in-New.is) c.in_ok-args-in-New.ensures

pub fill-boxed-requires-in-Unary : goal.fill-boxed-requires-in-Unary
fill-boxed-requires-in-Unary g t c =
    let w : Within (length c.args.self.now.tokens.now) c.args.self.now.below (unread_places c.in-Unary.a) = lies (same_places (unary_places c.in-Unary.a c.in-Unary.is)) c.requires.within in
    let e : weight c.args.x ≡ suc (weight c.in-Unary.a) = unary_weight c.in-Unary.a c.in-Unary.is in
    λ κs i. (omega arith, (search rules, (c.requires.bodies, w)))

pub fill-returns-in_err-boxed-in-Unary : goal.fill-returns-in_err-boxed-in-Unary
fill-returns-in_err-boxed-in-Unary g t c = passed_on c.args.self.now.tokens.now (unread_places c.in-Unary.a) (unread_places c.args.x) (λ read. filled read c.in-Unary.a) (λ read. filled read c.args.x) _ c.from_residual-in_err-boxed-in-Unary.result c.from_residual-in_err-boxed-in-Unary.ensures.1 (same_places (unary_places c.in-Unary.a c.in-Unary.is)) c.in_err-boxed-in-Unary.ensures

pub fill-returns-in_ok-boxed-in-Unary : goal.fill-returns-in_ok-boxed-in-Unary
fill-returns-in_ok-boxed-in-Unary g t c = of_one c.args.self.now.tokens.now (λ (w0 : Expr). expr.Unary c.in-Unary.place c.in-Unary.op w0) (unary_places c.in-Unary.a c.in-Unary.is) (unary_filled c.in-Unary.a c.in-Unary.is) c.in_ok-boxed-in-Unary.ensures

pub fill-boxed-requires-in-Binary : goal.fill-boxed-requires-in-Binary
fill-boxed-requires-in-Binary g t c =
    let w : Within (length c.args.self.now.tokens.now) c.args.self.now.below (unread_places c.in-Binary.a) = lies (left_of (unread_places c.in-Binary.b) (binary_places c.in-Binary.a c.in-Binary.b c.in-Binary.is)) c.requires.within in
    let e : weight c.args.x ≡ suc (weight c.in-Binary.a + weight c.in-Binary.b) = binary_weight c.in-Binary.a c.in-Binary.b c.in-Binary.is in
    λ κs i. (omega arith, (search rules, (c.requires.bodies, w)))

pub fill-returns-in_err-boxed-in-Binary : goal.fill-returns-in_err-boxed-in-Binary
fill-returns-in_err-boxed-in-Binary g t c = passed_on c.args.self.now.tokens.now (unread_places c.in-Binary.a) (unread_places c.args.x) (λ read. filled read c.in-Binary.a) (λ read. filled read c.args.x) _ c.from_residual-in_err-boxed-in-Binary.result c.from_residual-in_err-boxed-in-Binary.ensures.1 (left_of (unread_places c.in-Binary.b) (binary_places c.in-Binary.a c.in-Binary.b c.in-Binary.is)) c.in_err-boxed-in-Binary.ensures

pub fill-boxed-requires-in-Binary-2 : goal.fill-boxed-requires-in-Binary-2
fill-boxed-requires-in-Binary-2 g t c =
    let w : Within (length c.args.self.now.tokens.now) c.args.self.now.below (unread_places c.in-Binary.b) = lies (right_of (unread_places c.in-Binary.a) (binary_places c.in-Binary.a c.in-Binary.b c.in-Binary.is)) c.requires.within in
    let e : weight c.args.x ≡ suc (weight c.in-Binary.a + weight c.in-Binary.b) = binary_weight c.in-Binary.a c.in-Binary.b c.in-Binary.is in
    λ κs i. (omega arith, (search rules, (c.requires.bodies, w)))

pub fill-returns-in_err-boxed-in-Binary-2 : goal.fill-returns-in_err-boxed-in-Binary-2
fill-returns-in_err-boxed-in-Binary-2 g t c = passed_on c.args.self.now.tokens.now (unread_places c.in-Binary.b) (unread_places c.args.x) (λ read. filled read c.in-Binary.b) (λ read. filled read c.args.x) _ c.from_residual-in_err-boxed-in-Binary-2.result c.from_residual-in_err-boxed-in-Binary-2.ensures.1 (right_of (unread_places c.in-Binary.a) (binary_places c.in-Binary.a c.in-Binary.b c.in-Binary.is)) c.in_err-boxed-in-Binary-2.ensures

pub fill-returns-in_ok-boxed-in-Binary-2 : goal.fill-returns-in_ok-boxed-in-Binary-2
fill-returns-in_ok-boxed-in-Binary-2 g t c = of_two c.args.self.now.tokens.now (λ (w0 : Expr) (w1 : Expr). expr.Binary c.in-Binary.place c.in-Binary.op w0 w1) (binary_places c.in-Binary.a c.in-Binary.b c.in-Binary.is) (binary_filled c.in-Binary.a c.in-Binary.b c.in-Binary.is) c.in_ok-boxed-in-Binary.ensures c.in_ok-boxed-in-Binary-2.ensures

pub fill-boxed-requires-in-Typed : goal.fill-boxed-requires-in-Typed
fill-boxed-requires-in-Typed g t c =
    let w : Within (length c.args.self.now.tokens.now) c.args.self.now.below (unread_places c.in-Typed.a) = lies (same_places (typed_places c.in-Typed.a c.in-Typed.is)) c.requires.within in
    let e : weight c.args.x ≡ suc (weight c.in-Typed.a) = typed_weight c.in-Typed.a c.in-Typed.is in
    λ κs i. (omega arith, (search rules, (c.requires.bodies, w)))

pub fill-returns-in_err-boxed-in-Typed : goal.fill-returns-in_err-boxed-in-Typed
fill-returns-in_err-boxed-in-Typed g t c = passed_on c.args.self.now.tokens.now (unread_places c.in-Typed.a) (unread_places c.args.x) (λ read. filled read c.in-Typed.a) (λ read. filled read c.args.x) _ c.from_residual-in_err-boxed-in-Typed.result c.from_residual-in_err-boxed-in-Typed.ensures.1 (same_places (typed_places c.in-Typed.a c.in-Typed.is)) c.in_err-boxed-in-Typed.ensures

pub fill-returns-in_ok-boxed-in-Typed : goal.fill-returns-in_ok-boxed-in-Typed
fill-returns-in_ok-boxed-in-Typed g t c = of_one c.args.self.now.tokens.now (λ (w0 : Expr). expr.Typed c.in-Typed.place c.in-Typed.op w0 c.in-Typed.written) (typed_places c.in-Typed.a c.in-Typed.is) (typed_filled c.in-Typed.a c.in-Typed.is) c.in_ok-boxed-in-Typed.ensures

pub fill-boxed-requires-in-None : goal.fill-boxed-requires-in-None
fill-boxed-requires-in-None g t c =
    let w : Within (length c.args.self.now.tokens.now) c.args.self.now.below (unread_places c.in-Choice.a) = lies (left_of (unread_places c.in-Choice.c) (choice_none_places c.in-Choice.a c.in-Choice.c (c.in-Choice.is ∙ ap (λ w. expr.Choice c.in-Choice.place c.in-Choice.a w c.in-Choice.c) c.in-None.is))) c.requires.within in
    let e : weight c.args.x ≡ suc (weight c.in-Choice.a + weight c.in-Choice.c) = choice_none_weight c.in-Choice.a c.in-Choice.c (c.in-Choice.is ∙ ap (λ w. expr.Choice c.in-Choice.place c.in-Choice.a w c.in-Choice.c) c.in-None.is) in
    λ κs i. (omega arith, (search rules, (c.requires.bodies, w)))

pub fill-returns-in_err-boxed-in-None : goal.fill-returns-in_err-boxed-in-None
fill-returns-in_err-boxed-in-None g t c = passed_on c.args.self.now.tokens.now (unread_places c.in-Choice.a) (unread_places c.args.x) (λ read. filled read c.in-Choice.a) (λ read. filled read c.args.x) _ c.from_residual-in_err-boxed-in-None.result c.from_residual-in_err-boxed-in-None.ensures.1 (left_of (unread_places c.in-Choice.c) (choice_none_places c.in-Choice.a c.in-Choice.c (c.in-Choice.is ∙ ap (λ w. expr.Choice c.in-Choice.place c.in-Choice.a w c.in-Choice.c) c.in-None.is))) c.in_err-boxed-in-None.ensures

pub fill-boxed-requires-in-None-2 : goal.fill-boxed-requires-in-None-2
fill-boxed-requires-in-None-2 g t c =
    let w : Within (length c.args.self.now.tokens.now) c.args.self.now.below (unread_places c.in-Choice.c) = lies (right_of (unread_places c.in-Choice.a) (choice_none_places c.in-Choice.a c.in-Choice.c (c.in-Choice.is ∙ ap (λ w. expr.Choice c.in-Choice.place c.in-Choice.a w c.in-Choice.c) c.in-None.is))) c.requires.within in
    let e : weight c.args.x ≡ suc (weight c.in-Choice.a + weight c.in-Choice.c) = choice_none_weight c.in-Choice.a c.in-Choice.c (c.in-Choice.is ∙ ap (λ w. expr.Choice c.in-Choice.place c.in-Choice.a w c.in-Choice.c) c.in-None.is) in
    λ κs i. (omega arith, (search rules, (c.requires.bodies, w)))

pub fill-returns-in_err-boxed-in-None-2 : goal.fill-returns-in_err-boxed-in-None-2
fill-returns-in_err-boxed-in-None-2 g t c = passed_on c.args.self.now.tokens.now (unread_places c.in-Choice.c) (unread_places c.args.x) (λ read. filled read c.in-Choice.c) (λ read. filled read c.args.x) _ c.from_residual-in_err-boxed-in-None-2.result c.from_residual-in_err-boxed-in-None-2.ensures.1 (right_of (unread_places c.in-Choice.a) (choice_none_places c.in-Choice.a c.in-Choice.c (c.in-Choice.is ∙ ap (λ w. expr.Choice c.in-Choice.place c.in-Choice.a w c.in-Choice.c) c.in-None.is))) c.in_err-boxed-in-None-2.ensures

pub fill-returns-in_ok-boxed-in-None-2 : goal.fill-returns-in_ok-boxed-in-None-2
fill-returns-in_ok-boxed-in-None-2 g t c = of_two c.args.self.now.tokens.now (λ (w0 : Expr) (w1 : Expr). expr.Choice c.in-Choice.place w0 None w1) (choice_none_places c.in-Choice.a c.in-Choice.c (c.in-Choice.is ∙ ap (λ w. expr.Choice c.in-Choice.place c.in-Choice.a w c.in-Choice.c) c.in-None.is)) (choice_none_filled c.in-Choice.a c.in-Choice.c (c.in-Choice.is ∙ ap (λ w. expr.Choice c.in-Choice.place c.in-Choice.a w c.in-Choice.c) c.in-None.is)) c.in_ok-boxed-in-None.ensures c.in_ok-boxed-in-None-2.ensures

pub fill-boxed-requires-in-Some : goal.fill-boxed-requires-in-Some
fill-boxed-requires-in-Some g t c =
    let w : Within (length c.args.self.now.tokens.now) c.args.self.now.below (unread_places c.in-Choice.a) = lies (among (left_of (unread_places c.in-Some.b) refl) (left_of (unread_places c.in-Choice.c) (choice_some_places c.in-Choice.a c.in-Some.b c.in-Choice.c (c.in-Choice.is ∙ ap (λ w. expr.Choice c.in-Choice.place c.in-Choice.a w c.in-Choice.c) c.in-Some.is)))) c.requires.within in
    let e : weight c.args.x ≡ suc (weight c.in-Choice.a + weight c.in-Some.b + weight c.in-Choice.c) = choice_some_weight c.in-Choice.a c.in-Some.b c.in-Choice.c (c.in-Choice.is ∙ ap (λ w. expr.Choice c.in-Choice.place c.in-Choice.a w c.in-Choice.c) c.in-Some.is) in
    λ κs i. (omega arith, (search rules, (c.requires.bodies, w)))

pub fill-returns-in_err-boxed-in-Some : goal.fill-returns-in_err-boxed-in-Some
fill-returns-in_err-boxed-in-Some g t c = passed_on c.args.self.now.tokens.now (unread_places c.in-Choice.a) (unread_places c.args.x) (λ read. filled read c.in-Choice.a) (λ read. filled read c.args.x) _ c.from_residual-in_err-boxed-in-Some.result c.from_residual-in_err-boxed-in-Some.ensures.1 (among (left_of (unread_places c.in-Some.b) refl) (left_of (unread_places c.in-Choice.c) (choice_some_places c.in-Choice.a c.in-Some.b c.in-Choice.c (c.in-Choice.is ∙ ap (λ w. expr.Choice c.in-Choice.place c.in-Choice.a w c.in-Choice.c) c.in-Some.is)))) c.in_err-boxed-in-Some.ensures

pub fill-boxed-requires-in-Some-2 : goal.fill-boxed-requires-in-Some-2
fill-boxed-requires-in-Some-2 g t c =
    let w : Within (length c.args.self.now.tokens.now) c.args.self.now.below (unread_places c.in-Some.b) = lies (among (right_of (unread_places c.in-Choice.a) refl) (left_of (unread_places c.in-Choice.c) (choice_some_places c.in-Choice.a c.in-Some.b c.in-Choice.c (c.in-Choice.is ∙ ap (λ w. expr.Choice c.in-Choice.place c.in-Choice.a w c.in-Choice.c) c.in-Some.is)))) c.requires.within in
    let e : weight c.args.x ≡ suc (weight c.in-Choice.a + weight c.in-Some.b + weight c.in-Choice.c) = choice_some_weight c.in-Choice.a c.in-Some.b c.in-Choice.c (c.in-Choice.is ∙ ap (λ w. expr.Choice c.in-Choice.place c.in-Choice.a w c.in-Choice.c) c.in-Some.is) in
    λ κs i. (omega arith, (search rules, (c.requires.bodies, w)))

pub fill-returns-in_err-boxed-in-Some-2 : goal.fill-returns-in_err-boxed-in-Some-2
fill-returns-in_err-boxed-in-Some-2 g t c = passed_on c.args.self.now.tokens.now (unread_places c.in-Some.b) (unread_places c.args.x) (λ read. filled read c.in-Some.b) (λ read. filled read c.args.x) _ c.from_residual-in_err-boxed-in-Some-2.result c.from_residual-in_err-boxed-in-Some-2.ensures.1 (among (right_of (unread_places c.in-Choice.a) refl) (left_of (unread_places c.in-Choice.c) (choice_some_places c.in-Choice.a c.in-Some.b c.in-Choice.c (c.in-Choice.is ∙ ap (λ w. expr.Choice c.in-Choice.place c.in-Choice.a w c.in-Choice.c) c.in-Some.is)))) c.in_err-boxed-in-Some-2.ensures

pub fill-boxed-requires-in-Some-3 : goal.fill-boxed-requires-in-Some-3
fill-boxed-requires-in-Some-3 g t c =
    let w : Within (length c.args.self.now.tokens.now) c.args.self.now.below (unread_places c.in-Choice.c) = lies (right_of ((unread_places c.in-Choice.a) ++ (unread_places c.in-Some.b)) (choice_some_places c.in-Choice.a c.in-Some.b c.in-Choice.c (c.in-Choice.is ∙ ap (λ w. expr.Choice c.in-Choice.place c.in-Choice.a w c.in-Choice.c) c.in-Some.is))) c.requires.within in
    let e : weight c.args.x ≡ suc (weight c.in-Choice.a + weight c.in-Some.b + weight c.in-Choice.c) = choice_some_weight c.in-Choice.a c.in-Some.b c.in-Choice.c (c.in-Choice.is ∙ ap (λ w. expr.Choice c.in-Choice.place c.in-Choice.a w c.in-Choice.c) c.in-Some.is) in
    λ κs i. (omega arith, (search rules, (c.requires.bodies, w)))

pub fill-returns-in_err-boxed-in-Some-3 : goal.fill-returns-in_err-boxed-in-Some-3
fill-returns-in_err-boxed-in-Some-3 g t c = passed_on c.args.self.now.tokens.now (unread_places c.in-Choice.c) (unread_places c.args.x) (λ read. filled read c.in-Choice.c) (λ read. filled read c.args.x) _ c.from_residual-in_err-boxed-in-Some-3.result c.from_residual-in_err-boxed-in-Some-3.ensures.1 (right_of ((unread_places c.in-Choice.a) ++ (unread_places c.in-Some.b)) (choice_some_places c.in-Choice.a c.in-Some.b c.in-Choice.c (c.in-Choice.is ∙ ap (λ w. expr.Choice c.in-Choice.place c.in-Choice.a w c.in-Choice.c) c.in-Some.is))) c.in_err-boxed-in-Some-3.ensures

pub fill-returns-in_ok-boxed-in-Some-3 : goal.fill-returns-in_ok-boxed-in-Some-3
fill-returns-in_ok-boxed-in-Some-3 g t c = of_three c.args.self.now.tokens.now (λ (w0 : Expr) (w1 : Expr) (w2 : Expr). expr.Choice c.in-Choice.place w0 (Some w1) w2) (choice_some_places c.in-Choice.a c.in-Some.b c.in-Choice.c (c.in-Choice.is ∙ ap (λ w. expr.Choice c.in-Choice.place c.in-Choice.a w c.in-Choice.c) c.in-Some.is)) (choice_some_filled c.in-Choice.a c.in-Some.b c.in-Choice.c (c.in-Choice.is ∙ ap (λ w. expr.Choice c.in-Choice.place c.in-Choice.a w c.in-Choice.c) c.in-Some.is)) c.in_ok-boxed-in-Some.ensures c.in_ok-boxed-in-Some-2.ensures c.in_ok-boxed-in-Some-3.ensures

pub fill-boxed-requires-in-Assign : goal.fill-boxed-requires-in-Assign
fill-boxed-requires-in-Assign g t c =
    let w : Within (length c.args.self.now.tokens.now) c.args.self.now.below (unread_places c.in-Assign.a) = lies (left_of (unread_places c.in-Assign.b) (assign_places c.in-Assign.a c.in-Assign.b c.in-Assign.is)) c.requires.within in
    let e : weight c.args.x ≡ suc (weight c.in-Assign.a + weight c.in-Assign.b) = assign_weight c.in-Assign.a c.in-Assign.b c.in-Assign.is in
    λ κs i. (omega arith, (search rules, (c.requires.bodies, w)))

pub fill-returns-in_err-boxed-in-Assign : goal.fill-returns-in_err-boxed-in-Assign
fill-returns-in_err-boxed-in-Assign g t c = passed_on c.args.self.now.tokens.now (unread_places c.in-Assign.a) (unread_places c.args.x) (λ read. filled read c.in-Assign.a) (λ read. filled read c.args.x) _ c.from_residual-in_err-boxed-in-Assign.result c.from_residual-in_err-boxed-in-Assign.ensures.1 (left_of (unread_places c.in-Assign.b) (assign_places c.in-Assign.a c.in-Assign.b c.in-Assign.is)) c.in_err-boxed-in-Assign.ensures

pub fill-boxed-requires-in-Assign-2 : goal.fill-boxed-requires-in-Assign-2
fill-boxed-requires-in-Assign-2 g t c =
    let w : Within (length c.args.self.now.tokens.now) c.args.self.now.below (unread_places c.in-Assign.b) = lies (right_of (unread_places c.in-Assign.a) (assign_places c.in-Assign.a c.in-Assign.b c.in-Assign.is)) c.requires.within in
    let e : weight c.args.x ≡ suc (weight c.in-Assign.a + weight c.in-Assign.b) = assign_weight c.in-Assign.a c.in-Assign.b c.in-Assign.is in
    λ κs i. (omega arith, (search rules, (c.requires.bodies, w)))

pub fill-returns-in_err-boxed-in-Assign-2 : goal.fill-returns-in_err-boxed-in-Assign-2
fill-returns-in_err-boxed-in-Assign-2 g t c = passed_on c.args.self.now.tokens.now (unread_places c.in-Assign.b) (unread_places c.args.x) (λ read. filled read c.in-Assign.b) (λ read. filled read c.args.x) _ c.from_residual-in_err-boxed-in-Assign-2.result c.from_residual-in_err-boxed-in-Assign-2.ensures.1 (right_of (unread_places c.in-Assign.a) (assign_places c.in-Assign.a c.in-Assign.b c.in-Assign.is)) c.in_err-boxed-in-Assign-2.ensures

pub fill-returns-in_ok-boxed-in-Assign-2 : goal.fill-returns-in_ok-boxed-in-Assign-2
fill-returns-in_ok-boxed-in-Assign-2 g t c = of_two c.args.self.now.tokens.now (λ (w0 : Expr) (w1 : Expr). expr.Assign c.in-Assign.place c.in-Assign.op w0 w1) (assign_places c.in-Assign.a c.in-Assign.b c.in-Assign.is) (assign_filled c.in-Assign.a c.in-Assign.b c.in-Assign.is) c.in_ok-boxed-in-Assign.ensures c.in_ok-boxed-in-Assign-2.ensures

pub fill-boxed-requires-in-Member : goal.fill-boxed-requires-in-Member
fill-boxed-requires-in-Member g t c =
    let w : Within (length c.args.self.now.tokens.now) c.args.self.now.below (unread_places c.in-Member.a) = lies (left_of (label_places c.in-Member.label) (member_places c.in-Member.a c.in-Member.label c.in-Member.is)) c.requires.within in
    let e : weight c.args.x ≡ suc (weight c.in-Member.a + label_weight c.in-Member.label) = member_weight c.in-Member.a c.in-Member.label c.in-Member.is in
    λ κs i. (omega arith, (search rules, (c.requires.bodies, w)))

pub fill-returns-in_err-boxed-in-Member : goal.fill-returns-in_err-boxed-in-Member
fill-returns-in_err-boxed-in-Member g t c = passed_on c.args.self.now.tokens.now (unread_places c.in-Member.a) (unread_places c.args.x) (λ read. filled read c.in-Member.a) (λ read. filled read c.args.x) _ c.from_residual-in_err-boxed-in-Member.result c.from_residual-in_err-boxed-in-Member.ensures.1 (left_of (label_places c.in-Member.label) (member_places c.in-Member.a c.in-Member.label c.in-Member.is)) c.in_err-boxed-in-Member.ensures

pub fill-label-requires : goal.fill-label-requires
fill-label-requires g t c =
    let w : Within (length c.args.self.now.tokens.now) c.args.self.now.below (label_places c.in-Member.label) = lies (right_of (unread_places c.in-Member.a) (member_places c.in-Member.a c.in-Member.label c.in-Member.is)) c.requires.within in
    let e : weight c.args.x ≡ suc (weight c.in-Member.a + label_weight c.in-Member.label) = member_weight c.in-Member.a c.in-Member.label c.in-Member.is in
    λ κs i. (omega arith, (search rules, (c.requires.bodies, w)))

pub fill-returns-in_err-label-in-Member : goal.fill-returns-in_err-label-in-Member
fill-returns-in_err-label-in-Member g t c = passed_on c.args.self.now.tokens.now (label_places c.in-Member.label) (unread_places c.args.x) (λ read. filled_label read c.in-Member.label) (λ read. filled read c.args.x) _ c.from_residual-in_err-label-in-Member.result c.from_residual-in_err-label-in-Member.ensures.1 (right_of (unread_places c.in-Member.a) (member_places c.in-Member.a c.in-Member.label c.in-Member.is)) c.in_err-label-in-Member.ensures

pub fill-returns-in_ok-label-in-Member : goal.fill-returns-in_ok-label-in-Member
fill-returns-in_ok-label-in-Member g t c = of_two c.args.self.now.tokens.now (λ (w0 : Expr) (w1 : Label). expr.Member c.in-Member.place c.in-Member.op w0 w1) (member_places c.in-Member.a c.in-Member.label c.in-Member.is) (member_filled c.in-Member.a c.in-Member.label c.in-Member.is) c.in_ok-boxed-in-Member.ensures c.in_ok-label-in-Member.ensures

pub fill-boxed-requires-in-Field : goal.fill-boxed-requires-in-Field
fill-boxed-requires-in-Field g t c =
    let w : Within (length c.args.self.now.tokens.now) c.args.self.now.below (unread_places c.in-Field.a) = lies (same_places (field_places c.in-Field.a c.in-Field.is)) c.requires.within in
    let e : weight c.args.x ≡ suc (weight c.in-Field.a) = field_weight c.in-Field.a c.in-Field.is in
    λ κs i. (omega arith, (search rules, (c.requires.bodies, w)))

pub fill-returns-in_err-boxed-in-Field : goal.fill-returns-in_err-boxed-in-Field
fill-returns-in_err-boxed-in-Field g t c = passed_on c.args.self.now.tokens.now (unread_places c.in-Field.a) (unread_places c.args.x) (λ read. filled read c.in-Field.a) (λ read. filled read c.args.x) _ c.from_residual-in_err-boxed-in-Field.result c.from_residual-in_err-boxed-in-Field.ensures.1 (same_places (field_places c.in-Field.a c.in-Field.is)) c.in_err-boxed-in-Field.ensures

pub fill-returns-in_ok-boxed-in-Field : goal.fill-returns-in_ok-boxed-in-Field
fill-returns-in_ok-boxed-in-Field g t c = of_one c.args.self.now.tokens.now (λ (w0 : Expr). expr.Field c.in-Field.place w0 c.in-Field.name) (field_places c.in-Field.a c.in-Field.is) (field_filled c.in-Field.a c.in-Field.is) c.in_ok-boxed-in-Field.ensures

pub fill-boxed-requires-in-Index : goal.fill-boxed-requires-in-Index
fill-boxed-requires-in-Index g t c =
    let w : Within (length c.args.self.now.tokens.now) c.args.self.now.below (unread_places c.in-Index.a) = lies (left_of (all_found (map unread_places c.in-Index.indexes)) (index_places c.in-Index.a c.in-Index.indexes c.in-Index.is)) c.requires.within in
    let e : weight c.args.x ≡ suc (weight c.in-Index.a + total (map weight c.in-Index.indexes)) = index_weight c.in-Index.a c.in-Index.indexes c.in-Index.is in
    λ κs i. (omega arith, (search rules, (c.requires.bodies, w)))

pub fill-returns-in_err-boxed-in-Index : goal.fill-returns-in_err-boxed-in-Index
fill-returns-in_err-boxed-in-Index g t c = passed_on c.args.self.now.tokens.now (unread_places c.in-Index.a) (unread_places c.args.x) (λ read. filled read c.in-Index.a) (λ read. filled read c.args.x) _ c.from_residual-in_err-boxed-in-Index.result c.from_residual-in_err-boxed-in-Index.ensures.1 (left_of (all_found (map unread_places c.in-Index.indexes)) (index_places c.in-Index.a c.in-Index.indexes c.in-Index.is)) c.in_err-boxed-in-Index.ensures

pub fill-exprs-requires : goal.fill-exprs-requires
fill-exprs-requires g t c =
    let w : Within (length c.args.self.now.tokens.now) c.args.self.now.below (all_found (map unread_places c.in-Index.indexes)) = lies (right_of (unread_places c.in-Index.a) (index_places c.in-Index.a c.in-Index.indexes c.in-Index.is)) c.requires.within in
    let e : weight c.args.x ≡ suc (weight c.in-Index.a + total (map weight c.in-Index.indexes)) = index_weight c.in-Index.a c.in-Index.indexes c.in-Index.is in
    λ κs i. (omega arith, (search rules, (c.requires.bodies, w)))

pub fill-returns-in_err-exprs-in-Index : goal.fill-returns-in_err-exprs-in-Index
fill-returns-in_err-exprs-in-Index g t c = passed_on c.args.self.now.tokens.now (all_found (map unread_places c.in-Index.indexes)) (unread_places c.args.x) (λ read. map (filled read) c.in-Index.indexes) (λ read. filled read c.args.x) _ c.from_residual-in_err-exprs-in-Index.result c.from_residual-in_err-exprs-in-Index.ensures.1 (right_of (unread_places c.in-Index.a) (index_places c.in-Index.a c.in-Index.indexes c.in-Index.is)) c.in_err-exprs-in-Index.ensures

pub fill-returns-in_ok-exprs-in-Index : goal.fill-returns-in_ok-exprs-in-Index
fill-returns-in_ok-exprs-in-Index g t c = of_two c.args.self.now.tokens.now (λ (w0 : Expr) (w1 : List Expr). expr.Index c.in-Index.place w0 w1) (index_places c.in-Index.a c.in-Index.indexes c.in-Index.is) (index_filled c.in-Index.a c.in-Index.indexes c.in-Index.is) c.in_ok-boxed-in-Index.ensures c.in_ok-exprs-in-Index.ensures

pub fill-boxed-requires-in-Call : goal.fill-boxed-requires-in-Call
fill-boxed-requires-in-Call g t c =
    let w : Within (length c.args.self.now.tokens.now) c.args.self.now.below (unread_places c.in-Call.a) = lies (left_of (all_found (map arg_places c.in-Call.args)) (call_places c.in-Call.a c.in-Call.args c.in-Call.is)) c.requires.within in
    let e : weight c.args.x ≡ suc (weight c.in-Call.a + total (map arg_weight c.in-Call.args)) = call_weight c.in-Call.a c.in-Call.args c.in-Call.is in
    λ κs i. (omega arith, (search rules, (c.requires.bodies, w)))

pub fill-returns-in_err-boxed-in-Call : goal.fill-returns-in_err-boxed-in-Call
fill-returns-in_err-boxed-in-Call g t c = passed_on c.args.self.now.tokens.now (unread_places c.in-Call.a) (unread_places c.args.x) (λ read. filled read c.in-Call.a) (λ read. filled read c.args.x) _ c.from_residual-in_err-boxed-in-Call.result c.from_residual-in_err-boxed-in-Call.ensures.1 (left_of (all_found (map arg_places c.in-Call.args)) (call_places c.in-Call.a c.in-Call.args c.in-Call.is)) c.in_err-boxed-in-Call.ensures

pub fill-args-requires-in-Call : goal.fill-args-requires-in-Call
fill-args-requires-in-Call g t c =
    let w : Within (length c.args.self.now.tokens.now) c.args.self.now.below (all_found (map arg_places c.in-Call.args)) = lies (right_of (unread_places c.in-Call.a) (call_places c.in-Call.a c.in-Call.args c.in-Call.is)) c.requires.within in
    let e : weight c.args.x ≡ suc (weight c.in-Call.a + total (map arg_weight c.in-Call.args)) = call_weight c.in-Call.a c.in-Call.args c.in-Call.is in
    λ κs i. (omega arith, (search rules, (c.requires.bodies, w)))

pub fill-returns-in_err-args-in-Call : goal.fill-returns-in_err-args-in-Call
fill-returns-in_err-args-in-Call g t c = passed_on c.args.self.now.tokens.now (all_found (map arg_places c.in-Call.args)) (unread_places c.args.x) (λ read. map (filled_arg read) c.in-Call.args) (λ read. filled read c.args.x) _ c.from_residual-in_err-args-in-Call.result c.from_residual-in_err-args-in-Call.ensures.1 (right_of (unread_places c.in-Call.a) (call_places c.in-Call.a c.in-Call.args c.in-Call.is)) c.in_err-args-in-Call.ensures

pub fill-returns-in_ok-args-in-Call : goal.fill-returns-in_ok-args-in-Call
fill-returns-in_ok-args-in-Call g t c = of_two c.args.self.now.tokens.now (λ (w0 : Expr) (w1 : List Arg). expr.Call c.in-Call.place w0 w1) (call_places c.in-Call.a c.in-Call.args c.in-Call.is) (call_filled c.in-Call.a c.in-Call.args c.in-Call.is) c.in_ok-boxed-in-Call.ensures c.in_ok-args-in-Call.ensures

pub gstring-parts-requires : goal.gstring-parts-requires
gstring-parts-requires g t c =
    let w : Within (length c.args.self.now.tokens.now) c.args.self.now.below (all_found (map part_places (out-GString c.args.x).parts)) = lies (same_places (string_places c.args.x)) c.requires.within in
    let e : gstring_weight c.args.x ≡ suc (total (map part_weight (out-GString c.args.x).parts)) = string_weight c.args.x in
    λ κs i. (omega arith, (search rules, (c.requires.bodies, w)))

pub gstring-returns-in_err-parts : goal.gstring-returns-in_err-parts
gstring-returns-in_err-parts g t c = passed_on c.args.self.now.tokens.now (all_found (map part_places (out-GString c.args.x).parts)) (gstring_places c.args.x) (λ read. map (filled_part read) (out-GString c.args.x).parts) (λ read. filled_gstring read c.args.x) _ c.from_residual.result c.from_residual.ensures.1 (same_places (string_places c.args.x)) c.in_err-parts.ensures

pub gstring-returns : goal.gstring-returns
gstring-returns g t c = of_one c.args.self.now.tokens.now (λ (ps : List Part). roll-GString (record { head = (out-GString c.args.x).head; parts = ps })) (string_places c.args.x) (string_filled c.args.x) c.in_ok-parts.ensures

pub item-boxed-requires : goal.item-boxed-requires
item-boxed-requires g t c =
    let w : Within (length c.args.self.now.tokens.now) c.args.self.now.below (unread_places c.in-Plain.a) = lies (same_places (item_plain_places c.in-Plain.a c.in-Plain.is)) c.requires.within in
    let e : item_weight c.args.x ≡ suc (weight c.in-Plain.a) = item_plain_weight c.in-Plain.a c.in-Plain.is in
    λ κs i. (omega arith, (search rules, (c.requires.bodies, w)))

pub item-returns-in_err-boxed-in-Plain : goal.item-returns-in_err-boxed-in-Plain
item-returns-in_err-boxed-in-Plain g t c = passed_on c.args.self.now.tokens.now (unread_places c.in-Plain.a) (item_places c.args.x) (λ read. filled read c.in-Plain.a) (λ read. filled_item read c.args.x) _ c.from_residual.result c.from_residual.ensures.1 (same_places (item_plain_places c.in-Plain.a c.in-Plain.is)) c.in_err-boxed-in-Plain.ensures

pub item-returns-in_ok-boxed-in-Plain : goal.item-returns-in_ok-boxed-in-Plain
item-returns-in_ok-boxed-in-Plain g t c = of_one c.args.self.now.tokens.now (λ (w0 : Expr). item.Plain w0) (item_plain_places c.in-Plain.a c.in-Plain.is) (item_plain_filled c.in-Plain.a c.in-Plain.is) c.in_ok-boxed-in-Plain.ensures

pub item-boxed-requires-in-Spread : goal.item-boxed-requires-in-Spread
item-boxed-requires-in-Spread g t c =
    let w : Within (length c.args.self.now.tokens.now) c.args.self.now.below (unread_places c.in-Spread.a) = lies (same_places (item_spread_places c.in-Spread.a c.in-Spread.is)) c.requires.within in
    let e : item_weight c.args.x ≡ suc (weight c.in-Spread.a) = item_spread_weight c.in-Spread.a c.in-Spread.is in
    λ κs i. (omega arith, (search rules, (c.requires.bodies, w)))

pub item-returns-in_err-boxed-in-Spread : goal.item-returns-in_err-boxed-in-Spread
item-returns-in_err-boxed-in-Spread g t c = passed_on c.args.self.now.tokens.now (unread_places c.in-Spread.a) (item_places c.args.x) (λ read. filled read c.in-Spread.a) (λ read. filled_item read c.args.x) _ c.from_residual-in_err-boxed-in-Spread.result c.from_residual-in_err-boxed-in-Spread.ensures.1 (same_places (item_spread_places c.in-Spread.a c.in-Spread.is)) c.in_err-boxed-in-Spread.ensures

pub item-returns-in_ok-boxed-in-Spread : goal.item-returns-in_ok-boxed-in-Spread
item-returns-in_ok-boxed-in-Spread g t c = of_one c.args.self.now.tokens.now (λ (w0 : Expr). item.Spread c.in-Spread.place w0) (item_spread_places c.in-Spread.a c.in-Spread.is) (item_spread_filled c.in-Spread.a c.in-Spread.is) c.in_ok-boxed-in-Spread.ensures

pub items-item-requires : goal.items-item-requires
items-item-requires g t c =
    let w : Within (length c.args.self.now.tokens.now) c.args.self.now.below (item_places c.in-Some.one) = lies (of_item c.args.self.now.tokens.now item_places filled_item c.pop.new.self c.in-Some.one c.loop-one.invariant c.in-Some.ensures) c.requires.within in
    let e : item_weight c.in-Some.one ≤ total (map item_weight c.args.x) = item_in_total item_weight c.pop.new.self c.loop-one.invariant.taken c.in-Some.one (regrouped c.args.self.now.tokens.now item_places filled_item c.pop.new.self c.loop-one.invariant.taken c.in-Some.one c.loop-one.invariant.parts c.in-Some.ensures) in
    λ κs i. (omega arith, (search rules, (c.requires.bodies, w)))

pub items-returns-in_err-item : goal.items-returns-in_err-item
items-returns-in_err-item g t c = passed_on c.args.self.now.tokens.now (item_places c.in-Some.one) (all_found (map item_places c.args.x)) (λ read. filled_item read c.in-Some.one) (λ read. map (filled_item read) c.args.x) _ c.from_residual.result c.from_residual.ensures.1 (of_item c.args.self.now.tokens.now item_places filled_item c.pop.new.self c.in-Some.one c.loop-one.invariant c.in-Some.ensures) c.in_err-item.ensures

pub items-loop-one-preserved : goal.items-loop-one-preserved
items-loop-one-preserved g t c = rw c.in_ok-push.ensures.ok (one_more c.args.self.now.tokens.now item_places filled_item c.pop.new.self c.in-Some.one c.loop-one.invariant c.in-Some.ensures c.in_ok-item.ensures)

pub items-returns : goal.items-returns
items-returns g t c = all_taken c.args.self.now.tokens.now item_places filled_item c.loop-one.invariant c.in_default.ensures.0 c.in_ok-turned.ensures

pub key-label-requires : goal.key-label-requires
key-label-requires g t c =
    let w : Within (length c.args.self.now.tokens.now) c.args.self.now.below (label_places c.in-Label.label) = lies (same_places (key_label_places c.in-Label.label c.in-Label.is)) c.requires.within in
    let e : key_weight c.args.x ≡ suc (label_weight c.in-Label.label) = key_label_weight c.in-Label.label c.in-Label.is in
    λ κs i. (omega arith, (search rules, (c.requires.bodies, w)))

pub key-returns-in_err-label-in-Label : goal.key-returns-in_err-label-in-Label
key-returns-in_err-label-in-Label g t c = passed_on c.args.self.now.tokens.now (label_places c.in-Label.label) (key_places c.args.x) (λ read. filled_label read c.in-Label.label) (λ read. filled_key read c.args.x) _ c.from_residual.result c.from_residual.ensures.1 (same_places (key_label_places c.in-Label.label c.in-Label.is)) c.in_err-label-in-Label.ensures

pub key-returns-in_ok-label-in-Label : goal.key-returns-in_ok-label-in-Label
key-returns-in_ok-label-in-Label g t c = of_one c.args.self.now.tokens.now (λ (w0 : Label). key.Label w0) (key_label_places c.in-Label.label c.in-Label.is) (key_label_filled c.in-Label.label c.in-Label.is) c.in_ok-label-in-Label.ensures

pub key-returns-in-Int : goal.key-returns-in-Int
key-returns-in-Int g t c =
    let fits : SFits w32 c.in-Int.value = search rules in
    subst (λ (z : ℤ). FilledBy c.args.self.now.tokens.now (key_places c.args.x) (λ read. filled_key read c.args.x) (key.Int c.in-Int.place z)) (sym (to_z-of_z w32 c.in-Int.value fits)) (of_none c.args.self.now.tokens.now (key_int_places c.in-Int.is) (key_int_filled c.in-Int.is))

pub key-returns-in-Long : goal.key-returns-in-Long
key-returns-in-Long g t c =
    let fits : SFits w64 c.in-Long.value = search rules in
    subst (λ (z : ℤ). FilledBy c.args.self.now.tokens.now (key_places c.args.x) (λ read. filled_key read c.args.x) (key.Long c.in-Long.place z)) (sym (to_z-of_z w64 c.in-Long.value fits)) (of_none c.args.self.now.tokens.now (key_long_places c.in-Long.is) (key_long_filled c.in-Long.is))

pub label-returns-in-Name : goal.label-returns-in-Name
label-returns-in-Name g t c = of_none c.args.self.now.tokens.now (label_name_places c.in-Name.is) (label_name_filled c.in-Name.is)

pub label-returns-in-Text : goal.label-returns-in-Text
label-returns-in-Text g t c = of_none c.args.self.now.tokens.now (label_text_places c.in-Text.is) (label_text_filled c.in-Text.is)

pub label-gstring-requires : goal.label-gstring-requires
label-gstring-requires g t c =
    let w : Within (length c.args.self.now.tokens.now) c.args.self.now.below (gstring_places c.in-GString.text) = lies (same_places (label_gstring_places c.in-GString.text c.in-GString.is)) c.requires.within in
    let e : label_weight c.args.x ≡ suc (gstring_weight c.in-GString.text) = label_gstring_weight c.in-GString.text c.in-GString.is in
    λ κs i. (omega arith, (search rules, (c.requires.bodies, w)))

pub label-returns-in_err-gstring-in-GString : goal.label-returns-in_err-gstring-in-GString
label-returns-in_err-gstring-in-GString g t c = passed_on c.args.self.now.tokens.now (gstring_places c.in-GString.text) (label_places c.args.x) (λ read. filled_gstring read c.in-GString.text) (λ read. filled_label read c.args.x) _ c.from_residual.result c.from_residual.ensures.1 (same_places (label_gstring_places c.in-GString.text c.in-GString.is)) c.in_err-gstring-in-GString.ensures

pub label-returns-in_ok-gstring-in-GString : goal.label-returns-in_ok-gstring-in-GString
label-returns-in_ok-gstring-in-GString g t c = of_one c.args.self.now.tokens.now (λ (w0 : GString). label.GString c.in-GString.place w0) (label_gstring_places c.in-GString.text c.in-GString.is) (label_gstring_filled c.in-GString.text c.in-GString.is) c.in_ok-gstring-in-GString.ensures

pub part-boxed-requires : goal.part-boxed-requires
part-boxed-requires g t c =
    let w : Within (length c.args.self.now.tokens.now) c.args.self.now.below (unread_places c.args.x.value) = lies (same_places (value_places c.args.x)) c.requires.within in
    let e : part_weight c.args.x ≡ suc (weight c.args.x.value) = value_weight c.args.x in
    λ κs i. (omega arith, (search rules, (c.requires.bodies, w)))

pub part-returns-in_err-boxed : goal.part-returns-in_err-boxed
part-returns-in_err-boxed g t c = passed_on c.args.self.now.tokens.now (unread_places c.args.x.value) (part_places c.args.x) (λ read. filled read c.args.x.value) (λ read. filled_part read c.args.x) _ c.from_residual.result c.from_residual.ensures.1 (same_places (value_places c.args.x)) c.in_err-boxed.ensures

pub part-returns : goal.part-returns
part-returns g t c = of_one c.args.self.now.tokens.now (λ (v : Expr). roll-Part (record { is_lazy = c.args.x.is_lazy; value = v; behind = c.args.x.behind })) (value_places c.args.x) (value_filled c.args.x) c.in_ok-boxed.ensures

pub parts-part-requires : goal.parts-part-requires
parts-part-requires g t c =
    let w : Within (length c.args.self.now.tokens.now) c.args.self.now.below (part_places c.in-Some.one) = lies (of_item c.args.self.now.tokens.now part_places filled_part c.pop.new.self c.in-Some.one c.loop-one.invariant c.in-Some.ensures) c.requires.within in
    let e : part_weight c.in-Some.one ≤ total (map part_weight c.args.x) = item_in_total part_weight c.pop.new.self c.loop-one.invariant.taken c.in-Some.one (regrouped c.args.self.now.tokens.now part_places filled_part c.pop.new.self c.loop-one.invariant.taken c.in-Some.one c.loop-one.invariant.parts c.in-Some.ensures) in
    λ κs i. (omega arith, (search rules, (c.requires.bodies, w)))

pub parts-returns-in_err-part : goal.parts-returns-in_err-part
parts-returns-in_err-part g t c = passed_on c.args.self.now.tokens.now (part_places c.in-Some.one) (all_found (map part_places c.args.x)) (λ read. filled_part read c.in-Some.one) (λ read. map (filled_part read) c.args.x) _ c.from_residual.result c.from_residual.ensures.1 (of_item c.args.self.now.tokens.now part_places filled_part c.pop.new.self c.in-Some.one c.loop-one.invariant c.in-Some.ensures) c.in_err-part.ensures

pub parts-loop-one-preserved : goal.parts-loop-one-preserved
parts-loop-one-preserved g t c = rw c.in_ok-push.ensures.ok (one_more c.args.self.now.tokens.now part_places filled_part c.pop.new.self c.in-Some.one c.loop-one.invariant c.in-Some.ensures c.in_ok-part.ensures)

pub parts-returns : goal.parts-returns
parts-returns g t c = all_taken c.args.self.now.tokens.now part_places filled_part c.loop-one.invariant c.in_default.ensures.0 c.in_ok-turned.ensures
