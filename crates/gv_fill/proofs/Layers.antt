-- The unread closures of a node, and the node with them read, by its children.
use Rattle.std.proofs.Common.{◌≡◌, ℕ, List, [], ◌∷◌, ◌++◌, map, Option, Some, None}
use Rattle.std.specs.Prelude.{ℤ}
use Rattle.gv_base.specs.declared.refusal.Place.{Place}
use Rattle.gv_tree.specs.declared.expr.Arg.{Arg, fold-roll-Arg}
use Rattle.gv_tree.specs.declared.expr.Arg.TheVariants as arg
use Rattle.gv_tree.specs.declared.expr.Atom.{Atom}
use Rattle.gv_tree.specs.declared.expr.Closure.{Closure, fold-roll-Closure}
use Rattle.gv_tree.specs.declared.expr.Closure.TheVariants as closure
use Rattle.gv_tree.specs.declared.expr.Entry.{Entry, fold-roll-Entry}
use Rattle.gv_tree.specs.declared.expr.Entry.TheVariants as entry
use Rattle.gv_tree.specs.declared.expr.Expr.{Expr, fold-roll-Expr}
use Rattle.gv_tree.specs.declared.expr.Expr.TheVariants as expr
use Rattle.gv_tree.specs.declared.expr.GString.{GString, roll-GString, out-GString, fold_out-GString}
use Rattle.gv_tree.specs.declared.expr.Item.{Item, fold-roll-Item}
use Rattle.gv_tree.specs.declared.expr.Item.TheVariants as item
use Rattle.gv_tree.specs.declared.expr.Key.{Key, fold-roll-Key}
use Rattle.gv_tree.specs.declared.expr.Key.TheVariants as key
use Rattle.gv_tree.specs.declared.expr.Label.{Label, fold-roll-Label}
use Rattle.gv_tree.specs.declared.expr.Label.TheVariants as label
use Rattle.gv_tree.specs.declared.expr.Part.{Part, roll-Part, fold_out-Part}
use Rattle.gv_tree.specs.declared.expr.Param.{Param}
use Rattle.gv_tree.specs.declared.ops.AssignOp.{AssignOp}
use Rattle.gv_tree.specs.declared.ops.BinaryOp.{BinaryOp}
use Rattle.gv_tree.specs.declared.ops.Ident.{Ident}
use Rattle.gv_tree.specs.declared.ops.MemberOp.{MemberOp}
use Rattle.gv_tree.specs.declared.ops.TypeOp.{TypeOp}
use Rattle.gv_tree.specs.declared.ops.TypeTree.{TypeTree}
use Rattle.gv_tree.specs.declared.ops.UnaryOp.{UnaryOp}
use Rattle.gv_tree.specs.declared.stmt.Stmt.{Stmt}
use Rattle.gv_grammar.specs.Closures.{all_found, filled, unread_places, filled_arg, filled_entry, filled_item, filled_key, filled_label, filled_gstring, filled_part, filled_closure, arg_places, entry_places, item_places, key_places, label_places, gstring_places, part_places, closure_places}

pub atom_places : {x : Expr} {p : Place} {v : Atom} → x ≡ expr.Atom p v → unread_places x ≡ []
unfolding unread_places
atom_places e = rw (e, ← expr.rolls-Atom, fold-roll-Expr)

pub atom_filled : {x : Expr} {p : Place} {v : Atom} → x ≡ expr.Atom p v → (read : ℕ → ℕ → Closure) → filled read x ≡ expr.Atom p v
unfolding filled
atom_filled e read = rw (e, ← expr.rolls-Atom, fold-roll-Expr, expr.rolls-Atom)

pub a_gstring_places : {x : Expr} {p : Place} (g : GString) → x ≡ expr.GString p g → unread_places x ≡ gstring_places g
unfolding unread_places gstring_places
a_gstring_places g e = rw (e, ← expr.rolls-GString, fold-roll-Expr)

pub a_gstring_filled : {x : Expr} {p : Place} (g : GString) → x ≡ expr.GString p g → (read : ℕ → ℕ → Closure) → filled read x ≡ expr.GString p (filled_gstring read g)
unfolding filled filled_gstring
a_gstring_filled g e read = rw (e, ← expr.rolls-GString, fold-roll-Expr, expr.rolls-GString)

pub paren_places : {x : Expr} {p : Place} (a : Expr) → x ≡ expr.Paren p a → unread_places x ≡ unread_places a
unfolding unread_places
paren_places a e = rw (e, ← expr.rolls-Paren, fold-roll-Expr)

pub paren_filled : {x : Expr} {p : Place} (a : Expr) → x ≡ expr.Paren p a → (read : ℕ → ℕ → Closure) → filled read x ≡ expr.Paren p (filled read a)
unfolding filled
paren_filled a e read = rw (e, ← expr.rolls-Paren, fold-roll-Expr, expr.rolls-Paren)

pub list_places : {x : Expr} {p : Place} (items : List Item) → x ≡ expr.List p items → unread_places x ≡ all_found (map item_places items)
unfolding unread_places item_places
list_places items e = rw (e, ← expr.rolls-List, fold-roll-Expr)

pub list_filled : {x : Expr} {p : Place} (items : List Item) → x ≡ expr.List p items → (read : ℕ → ℕ → Closure) → filled read x ≡ expr.List p (map (filled_item read) items)
unfolding filled filled_item
list_filled items e read = rw (e, ← expr.rolls-List, fold-roll-Expr, expr.rolls-List)

pub map_places : {x : Expr} {p : Place} (entries : List Entry) → x ≡ expr.Map p entries → unread_places x ≡ all_found (map entry_places entries)
unfolding unread_places entry_places
map_places entries e = rw (e, ← expr.rolls-Map, fold-roll-Expr)

pub map_filled : {x : Expr} {p : Place} (entries : List Entry) → x ≡ expr.Map p entries → (read : ℕ → ℕ → Closure) → filled read x ≡ expr.Map p (map (filled_entry read) entries)
unfolding filled filled_entry
map_filled entries e read = rw (e, ← expr.rolls-Map, fold-roll-Expr, expr.rolls-Map)

pub a_closure_places : {x : Expr} {p : Place} (c : Closure) → x ≡ expr.Closure p c → unread_places x ≡ closure_places c
unfolding unread_places closure_places
a_closure_places c e = rw (e, ← expr.rolls-Closure, fold-roll-Expr)

pub a_closure_filled : {x : Expr} {p : Place} (c : Closure) → x ≡ expr.Closure p c → (read : ℕ → ℕ → Closure) → filled read x ≡ expr.Closure p (filled_closure read c)
unfolding filled filled_closure
a_closure_filled c e read = rw (e, ← expr.rolls-Closure, fold-roll-Expr, expr.rolls-Closure)

pub new_places : {x : Expr} {p : Place} {i : Ident} (args : List Arg) → x ≡ expr.New p i args → unread_places x ≡ all_found (map arg_places args)
unfolding unread_places arg_places
new_places args e = rw (e, ← expr.rolls-New, fold-roll-Expr)

pub new_filled : {x : Expr} {p : Place} {i : Ident} (args : List Arg) → x ≡ expr.New p i args → (read : ℕ → ℕ → Closure) → filled read x ≡ expr.New p i (map (filled_arg read) args)
unfolding filled filled_arg
new_filled args e read = rw (e, ← expr.rolls-New, fold-roll-Expr, expr.rolls-New)

pub unary_places : {x : Expr} {p : Place} {op : UnaryOp} (a : Expr) → x ≡ expr.Unary p op a → unread_places x ≡ unread_places a
unfolding unread_places
unary_places a e = rw (e, ← expr.rolls-Unary, fold-roll-Expr)

pub unary_filled : {x : Expr} {p : Place} {op : UnaryOp} (a : Expr) → x ≡ expr.Unary p op a → (read : ℕ → ℕ → Closure) → filled read x ≡ expr.Unary p op (filled read a)
unfolding filled
unary_filled a e read = rw (e, ← expr.rolls-Unary, fold-roll-Expr, expr.rolls-Unary)

pub binary_places : {x : Expr} {p : Place} {op : BinaryOp} (a : Expr) (b : Expr) → x ≡ expr.Binary p op a b → unread_places x ≡ unread_places a ++ unread_places b
unfolding unread_places
binary_places a b e = rw (e, ← expr.rolls-Binary, fold-roll-Expr)

pub binary_filled : {x : Expr} {p : Place} {op : BinaryOp} (a : Expr) (b : Expr) → x ≡ expr.Binary p op a b → (read : ℕ → ℕ → Closure) → filled read x ≡ expr.Binary p op (filled read a) (filled read b)
unfolding filled
binary_filled a b e read = rw (e, ← expr.rolls-Binary, fold-roll-Expr, expr.rolls-Binary)

pub typed_places : {x : Expr} {p : Place} {op : TypeOp} {t : TypeTree} (a : Expr) → x ≡ expr.Typed p op a t → unread_places x ≡ unread_places a
unfolding unread_places
typed_places a e = rw (e, ← expr.rolls-Typed, fold-roll-Expr)

pub typed_filled : {x : Expr} {p : Place} {op : TypeOp} {t : TypeTree} (a : Expr) → x ≡ expr.Typed p op a t → (read : ℕ → ℕ → Closure) → filled read x ≡ expr.Typed p op (filled read a) t
unfolding filled
typed_filled a e read = rw (e, ← expr.rolls-Typed, fold-roll-Expr, expr.rolls-Typed)

pub choice_none_places : {x : Expr} {p : Place} (a : Expr) (c : Expr) → x ≡ expr.Choice p a None c → unread_places x ≡ unread_places a ++ unread_places c
unfolding unread_places
choice_none_places a c e = rw (e, ← expr.rolls-Choice, fold-roll-Expr)

pub choice_none_filled : {x : Expr} {p : Place} (a : Expr) (c : Expr) → x ≡ expr.Choice p a None c → (read : ℕ → ℕ → Closure) → filled read x ≡ expr.Choice p (filled read a) None (filled read c)
unfolding filled
choice_none_filled a c e read = rw (e, ← expr.rolls-Choice, fold-roll-Expr, expr.rolls-Choice)

pub choice_some_places : {x : Expr} {p : Place} (a : Expr) (b : Expr) (c : Expr) → x ≡ expr.Choice p a (Some b) c → unread_places x ≡ unread_places a ++ unread_places b ++ unread_places c
unfolding unread_places
choice_some_places a b c e = rw (e, ← expr.rolls-Choice, fold-roll-Expr)

pub choice_some_filled : {x : Expr} {p : Place} (a : Expr) (b : Expr) (c : Expr) → x ≡ expr.Choice p a (Some b) c → (read : ℕ → ℕ → Closure) → filled read x ≡ expr.Choice p (filled read a) (Some (filled read b)) (filled read c)
unfolding filled
choice_some_filled a b c e read = rw (e, ← expr.rolls-Choice, fold-roll-Expr, expr.rolls-Choice)

pub assign_places : {x : Expr} {p : Place} {op : AssignOp} (a : Expr) (b : Expr) → x ≡ expr.Assign p op a b → unread_places x ≡ unread_places a ++ unread_places b
unfolding unread_places
assign_places a b e = rw (e, ← expr.rolls-Assign, fold-roll-Expr)

pub assign_filled : {x : Expr} {p : Place} {op : AssignOp} (a : Expr) (b : Expr) → x ≡ expr.Assign p op a b → (read : ℕ → ℕ → Closure) → filled read x ≡ expr.Assign p op (filled read a) (filled read b)
unfolding filled
assign_filled a b e read = rw (e, ← expr.rolls-Assign, fold-roll-Expr, expr.rolls-Assign)

pub member_places : {x : Expr} {p : Place} {op : MemberOp} (a : Expr) (l : Label) → x ≡ expr.Member p op a l → unread_places x ≡ unread_places a ++ label_places l
unfolding unread_places label_places
member_places a l e = rw (e, ← expr.rolls-Member, fold-roll-Expr)

pub member_filled : {x : Expr} {p : Place} {op : MemberOp} (a : Expr) (l : Label) → x ≡ expr.Member p op a l → (read : ℕ → ℕ → Closure) → filled read x ≡ expr.Member p op (filled read a) (filled_label read l)
unfolding filled filled_label
member_filled a l e read = rw (e, ← expr.rolls-Member, fold-roll-Expr, expr.rolls-Member)

pub field_places : {x : Expr} {p : Place} {i : Ident} (a : Expr) → x ≡ expr.Field p a i → unread_places x ≡ unread_places a
unfolding unread_places
field_places a e = rw (e, ← expr.rolls-Field, fold-roll-Expr)

pub field_filled : {x : Expr} {p : Place} {i : Ident} (a : Expr) → x ≡ expr.Field p a i → (read : ℕ → ℕ → Closure) → filled read x ≡ expr.Field p (filled read a) i
unfolding filled
field_filled a e read = rw (e, ← expr.rolls-Field, fold-roll-Expr, expr.rolls-Field)

pub index_places : {x : Expr} {p : Place} (a : Expr) (es : List Expr) → x ≡ expr.Index p a es → unread_places x ≡ unread_places a ++ all_found (map unread_places es)
unfolding unread_places
index_places a es e = rw (e, ← expr.rolls-Index, fold-roll-Expr)

pub index_filled : {x : Expr} {p : Place} (a : Expr) (es : List Expr) → x ≡ expr.Index p a es → (read : ℕ → ℕ → Closure) → filled read x ≡ expr.Index p (filled read a) (map (filled read) es)
unfolding filled
index_filled a es e read = rw (e, ← expr.rolls-Index, fold-roll-Expr, expr.rolls-Index)

pub call_places : {x : Expr} {p : Place} (a : Expr) (args : List Arg) → x ≡ expr.Call p a args → unread_places x ≡ unread_places a ++ all_found (map arg_places args)
unfolding unread_places arg_places
call_places a args e = rw (e, ← expr.rolls-Call, fold-roll-Expr)

pub call_filled : {x : Expr} {p : Place} (a : Expr) (args : List Arg) → x ≡ expr.Call p a args → (read : ℕ → ℕ → Closure) → filled read x ≡ expr.Call p (filled read a) (map (filled_arg read) args)
unfolding filled filled_arg
call_filled a args e read = rw (e, ← expr.rolls-Call, fold-roll-Expr, expr.rolls-Call)

pub item_plain_places : {x : Item} (a : Expr) → x ≡ item.Plain a → item_places x ≡ unread_places a
unfolding item_places unread_places
item_plain_places a e = rw (e, ← item.rolls-Plain, fold-roll-Item)

pub item_plain_filled : {x : Item} (a : Expr) → x ≡ item.Plain a → (read : ℕ → ℕ → Closure) → filled_item read x ≡ item.Plain (filled read a)
unfolding filled_item filled
item_plain_filled a e read = rw (e, ← item.rolls-Plain, fold-roll-Item, item.rolls-Plain)

pub item_spread_places : {x : Item} {p : Place} (a : Expr) → x ≡ item.Spread p a → item_places x ≡ unread_places a
unfolding item_places unread_places
item_spread_places a e = rw (e, ← item.rolls-Spread, fold-roll-Item)

pub item_spread_filled : {x : Item} {p : Place} (a : Expr) → x ≡ item.Spread p a → (read : ℕ → ℕ → Closure) → filled_item read x ≡ item.Spread p (filled read a)
unfolding filled_item filled
item_spread_filled a e read = rw (e, ← item.rolls-Spread, fold-roll-Item, item.rolls-Spread)

pub entry_keyed_places : {x : Entry} (k : Key) (a : Expr) → x ≡ entry.Keyed k a → entry_places x ≡ key_places k ++ unread_places a
unfolding entry_places key_places unread_places
entry_keyed_places k a e = rw (e, ← entry.rolls-Keyed, fold-roll-Entry)

pub entry_keyed_filled : {x : Entry} (k : Key) (a : Expr) → x ≡ entry.Keyed k a → (read : ℕ → ℕ → Closure) → filled_entry read x ≡ entry.Keyed (filled_key read k) (filled read a)
unfolding filled_entry filled_key filled
entry_keyed_filled k a e read = rw (e, ← entry.rolls-Keyed, fold-roll-Entry, entry.rolls-Keyed)

pub entry_computed_places : {x : Entry} {p : Place} (a : Expr) (b : Expr) → x ≡ entry.Computed p a b → entry_places x ≡ unread_places a ++ unread_places b
unfolding entry_places unread_places
entry_computed_places a b e = rw (e, ← entry.rolls-Computed, fold-roll-Entry)

pub entry_computed_filled : {x : Entry} {p : Place} (a : Expr) (b : Expr) → x ≡ entry.Computed p a b → (read : ℕ → ℕ → Closure) → filled_entry read x ≡ entry.Computed p (filled read a) (filled read b)
unfolding filled_entry filled
entry_computed_filled a b e read = rw (e, ← entry.rolls-Computed, fold-roll-Entry, entry.rolls-Computed)

pub entry_spread_places : {x : Entry} {p : Place} (a : Expr) → x ≡ entry.Spread p a → entry_places x ≡ unread_places a
unfolding entry_places unread_places
entry_spread_places a e = rw (e, ← entry.rolls-Spread, fold-roll-Entry)

pub entry_spread_filled : {x : Entry} {p : Place} (a : Expr) → x ≡ entry.Spread p a → (read : ℕ → ℕ → Closure) → filled_entry read x ≡ entry.Spread p (filled read a)
unfolding filled_entry filled
entry_spread_filled a e read = rw (e, ← entry.rolls-Spread, fold-roll-Entry, entry.rolls-Spread)

pub arg_plain_places : {x : Arg} (a : Expr) → x ≡ arg.Plain a → arg_places x ≡ unread_places a
unfolding arg_places unread_places
arg_plain_places a e = rw (e, ← arg.rolls-Plain, fold-roll-Arg)

pub arg_plain_filled : {x : Arg} (a : Expr) → x ≡ arg.Plain a → (read : ℕ → ℕ → Closure) → filled_arg read x ≡ arg.Plain (filled read a)
unfolding filled_arg filled
arg_plain_filled a e read = rw (e, ← arg.rolls-Plain, fold-roll-Arg, arg.rolls-Plain)

pub arg_keyed_places : {x : Arg} (k : Key) (a : Expr) → x ≡ arg.Keyed k a → arg_places x ≡ key_places k ++ unread_places a
unfolding arg_places key_places unread_places
arg_keyed_places k a e = rw (e, ← arg.rolls-Keyed, fold-roll-Arg)

pub arg_keyed_filled : {x : Arg} (k : Key) (a : Expr) → x ≡ arg.Keyed k a → (read : ℕ → ℕ → Closure) → filled_arg read x ≡ arg.Keyed (filled_key read k) (filled read a)
unfolding filled_arg filled_key filled
arg_keyed_filled k a e read = rw (e, ← arg.rolls-Keyed, fold-roll-Arg, arg.rolls-Keyed)

pub arg_spread_places : {x : Arg} {p : Place} (a : Expr) → x ≡ arg.Spread p a → arg_places x ≡ unread_places a
unfolding arg_places unread_places
arg_spread_places a e = rw (e, ← arg.rolls-Spread, fold-roll-Arg)

pub arg_spread_filled : {x : Arg} {p : Place} (a : Expr) → x ≡ arg.Spread p a → (read : ℕ → ℕ → Closure) → filled_arg read x ≡ arg.Spread p (filled read a)
unfolding filled_arg filled
arg_spread_filled a e read = rw (e, ← arg.rolls-Spread, fold-roll-Arg, arg.rolls-Spread)

pub arg_spreadmap_places : {x : Arg} {p : Place} (a : Expr) → x ≡ arg.SpreadMap p a → arg_places x ≡ unread_places a
unfolding arg_places unread_places
arg_spreadmap_places a e = rw (e, ← arg.rolls-SpreadMap, fold-roll-Arg)

pub arg_spreadmap_filled : {x : Arg} {p : Place} (a : Expr) → x ≡ arg.SpreadMap p a → (read : ℕ → ℕ → Closure) → filled_arg read x ≡ arg.SpreadMap p (filled read a)
unfolding filled_arg filled
arg_spreadmap_filled a e read = rw (e, ← arg.rolls-SpreadMap, fold-roll-Arg, arg.rolls-SpreadMap)

pub key_label_places : {x : Key} (l : Label) → x ≡ key.Label l → key_places x ≡ label_places l
unfolding key_places label_places
key_label_places l e = rw (e, ← key.rolls-Label, fold-roll-Key)

pub key_label_filled : {x : Key} (l : Label) → x ≡ key.Label l → (read : ℕ → ℕ → Closure) → filled_key read x ≡ key.Label (filled_label read l)
unfolding filled_key filled_label
key_label_filled l e read = rw (e, ← key.rolls-Label, fold-roll-Key, key.rolls-Label)

pub key_int_places : {x : Key} {p : Place} {z : ℤ} → x ≡ key.Int p z → key_places x ≡ []
unfolding key_places
key_int_places e = rw (e, ← key.rolls-Int, fold-roll-Key)

pub key_int_filled : {x : Key} {p : Place} {z : ℤ} → x ≡ key.Int p z → (read : ℕ → ℕ → Closure) → filled_key read x ≡ key.Int p z
unfolding filled_key
key_int_filled e read = rw (e, ← key.rolls-Int, fold-roll-Key, key.rolls-Int)

pub key_long_places : {x : Key} {p : Place} {z : ℤ} → x ≡ key.Long p z → key_places x ≡ []
unfolding key_places
key_long_places e = rw (e, ← key.rolls-Long, fold-roll-Key)

pub key_long_filled : {x : Key} {p : Place} {z : ℤ} → x ≡ key.Long p z → (read : ℕ → ℕ → Closure) → filled_key read x ≡ key.Long p z
unfolding filled_key
key_long_filled e read = rw (e, ← key.rolls-Long, fold-roll-Key, key.rolls-Long)

pub label_name_places : {x : Label} {i : Ident} → x ≡ label.Name i → label_places x ≡ []
unfolding label_places
label_name_places e = rw (e, ← label.rolls-Name, fold-roll-Label)

pub label_name_filled : {x : Label} {i : Ident} → x ≡ label.Name i → (read : ℕ → ℕ → Closure) → filled_label read x ≡ label.Name i
unfolding filled_label
label_name_filled e read = rw (e, ← label.rolls-Name, fold-roll-Label, label.rolls-Name)

pub label_text_places : {x : Label} {i : Ident} → x ≡ label.Text i → label_places x ≡ []
unfolding label_places
label_text_places e = rw (e, ← label.rolls-Text, fold-roll-Label)

pub label_text_filled : {x : Label} {i : Ident} → x ≡ label.Text i → (read : ℕ → ℕ → Closure) → filled_label read x ≡ label.Text i
unfolding filled_label
label_text_filled e read = rw (e, ← label.rolls-Text, fold-roll-Label, label.rolls-Text)

pub label_gstring_places : {x : Label} {p : Place} (g : GString) → x ≡ label.GString p g → label_places x ≡ gstring_places g
unfolding label_places gstring_places
label_gstring_places g e = rw (e, ← label.rolls-GString, fold-roll-Label)

pub label_gstring_filled : {x : Label} {p : Place} (g : GString) → x ≡ label.GString p g → (read : ℕ → ℕ → Closure) → filled_label read x ≡ label.GString p (filled_gstring read g)
unfolding filled_label filled_gstring
label_gstring_filled g e read = rw (e, ← label.rolls-GString, fold-roll-Label, label.rolls-GString)

pub closure_unread_places : {x : Closure} {from : ℕ} {to : ℕ} → x ≡ closure.Unread from to → closure_places x ≡ (from, to) ∷ []
unfolding closure_places
closure_unread_places e = rw (e, ← closure.rolls-Unread, fold-roll-Closure)

pub closure_unread_filled : {x : Closure} {from : ℕ} {to : ℕ} → x ≡ closure.Unread from to → (read : ℕ → ℕ → Closure) → filled_closure read x ≡ read from to
unfolding filled_closure
closure_unread_filled e read = rw (e, ← closure.rolls-Unread, fold-roll-Closure)

pub closure_read_places : {x : Closure} (params : Option (List Param)) (body : List Stmt) → x ≡ closure.Read params body → closure_places x ≡ []
unfolding closure_places
closure_read_places params body e = rw (e, ← closure.rolls-Read, fold-roll-Closure)

pub closure_read_filled : {x : Closure} (params : Option (List Param)) (body : List Stmt) → x ≡ closure.Read params body → (read : ℕ → ℕ → Closure) → filled_closure read x ≡ closure.Read None []
unfolding filled_closure
closure_read_filled params body e read = rw (e, ← closure.rolls-Read, fold-roll-Closure)

-- ---- strings and their parts

pub string_places : (g : GString) → gstring_places g ≡ all_found (map part_places (out-GString g).parts)
unfolding gstring_places part_places
string_places g = rw fold_out-GString

pub string_filled : (g : GString) (read : ℕ → ℕ → Closure) → filled_gstring read g ≡ roll-GString (record { head = (out-GString g).head; parts = map (filled_part read) (out-GString g).parts })
unfolding filled_gstring filled_part
string_filled g read = rw fold_out-GString

pub value_places : (p : Part) → part_places p ≡ unread_places p.value
unfolding part_places unread_places
value_places p = rw fold_out-Part

pub value_filled : (p : Part) (read : ℕ → ℕ → Closure) → filled_part read p ≡ roll-Part (record { is_lazy = p.is_lazy; value = filled read p.value; behind = p.behind })
unfolding filled_part filled
value_filled p read = rw fold_out-Part
