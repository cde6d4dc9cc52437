-- How large an expression is: the measure of what walks over one.
use Rattle.std.proofs.Common.{◌≡◌, ℕ, suc, ◌+◌, ◌<◌, ◌≤◌, List, [], ◌∷◌, ◌++◌, map, Option, Some, None, arith}
use Rattle.std.specs.Prelude.{ℤ}
use Rattle.std.proofs.lemmas.List.{map-append}
use Rattle.gv_base.specs.declared.refusal.Place.{Place}
use Rattle.gv_tree.specs.declared.expr.Arg.{Arg, fold-Arg, fold-roll-Arg}
use Rattle.gv_tree.specs.declared.expr.Arg.TheOpen.{Arg-F, Closure-F, Entry-F, Expr-F, Item-F, Key-F, Label-F, Stmt-F, GString-F, Param-F, Part-F, Case-F, Catch-F, Decl-F, Var-F}
use Rattle.gv_tree.specs.declared.expr.Arg.TheVariants as arg
use Rattle.gv_tree.specs.declared.expr.Atom.{Atom}
use Rattle.gv_tree.specs.declared.expr.Closure.{Closure}
use Rattle.gv_tree.specs.declared.expr.Entry.{Entry, fold-Entry, fold-roll-Entry}
use Rattle.gv_tree.specs.declared.expr.Entry.TheVariants as entry
use Rattle.gv_tree.specs.declared.expr.Expr.{Expr, fold-Expr, fold-roll-Expr}
use Rattle.gv_tree.specs.declared.expr.Expr.TheVariants as expr
use Rattle.gv_tree.specs.declared.expr.GString.{GString, out-GString, fold-GString, fold_out-GString}
use Rattle.gv_tree.specs.declared.expr.Item.{Item, fold-Item, fold-roll-Item}
use Rattle.gv_tree.specs.declared.expr.Item.TheVariants as item
use Rattle.gv_tree.specs.declared.expr.Key.{Key, fold-Key, fold-roll-Key}
use Rattle.gv_tree.specs.declared.expr.Key.TheVariants as key
use Rattle.gv_tree.specs.declared.expr.Label.{Label, fold-Label, fold-roll-Label}
use Rattle.gv_tree.specs.declared.expr.Label.TheVariants as label
use Rattle.gv_tree.specs.declared.expr.Part.{Part, fold-Part, fold_out-Part}
use Rattle.gv_tree.specs.declared.ops.AssignOp.{AssignOp}
use Rattle.gv_tree.specs.declared.ops.BinaryOp.{BinaryOp}
use Rattle.gv_tree.specs.declared.ops.Ident.{Ident}
use Rattle.gv_tree.specs.declared.ops.MemberOp.{MemberOp}
use Rattle.gv_tree.specs.declared.ops.TypeOp.{TypeOp}
use Rattle.gv_tree.specs.declared.ops.TypeTree.{TypeTree}
use Rattle.gv_tree.specs.declared.ops.UnaryOp.{UnaryOp}

-- ---- one more than the children together

unfoldable pub total : List ℕ → ℕ
total [] = 0
total (n ∷ ns) = n + total ns

abbrev of_expr : Expr-F ℕ ℕ ℕ ℕ ℕ ℕ ℕ ℕ ℕ ℕ ℕ ℕ ℕ ℕ ℕ → ℕ
of_expr (Expr-F.Atom p v) = suc (0)
of_expr (Expr-F.«Expr::GString» p g) = suc (g)
of_expr (Expr-F.Paren p a) = suc (a)
of_expr (Expr-F.List p items) = suc (total items)
of_expr (Expr-F.Map p entries) = suc (total entries)
of_expr (Expr-F.Closure p c) = suc (c)
of_expr (Expr-F.New p i args) = suc (total args)
of_expr (Expr-F.Unary p op a) = suc (a)
of_expr (Expr-F.Binary p op a b) = suc (a + b)
of_expr (Expr-F.Typed p op a t) = suc (a)
of_expr (Expr-F.Choice p a None c) = suc (a + c)
of_expr (Expr-F.Choice p a (Some b) c) = suc (a + b + c)
of_expr (Expr-F.Assign p op a b) = suc (a + b)
of_expr (Expr-F.Member p op a l) = suc (a + l)
of_expr (Expr-F.Field p a i) = suc (a)
of_expr (Expr-F.Index p a es) = suc (a + total es)
of_expr (Expr-F.Call p a args) = suc (a + total args)

abbrev of_item : Item-F ℕ ℕ ℕ ℕ ℕ ℕ ℕ ℕ ℕ ℕ ℕ ℕ ℕ ℕ ℕ → ℕ
of_item (Item-F.«Item::Plain» a) = suc (a)
of_item (Item-F.«Item::Spread» p a) = suc (a)

abbrev of_entry : Entry-F ℕ ℕ ℕ ℕ ℕ ℕ ℕ ℕ ℕ ℕ ℕ ℕ ℕ ℕ ℕ → ℕ
of_entry (Entry-F.«Entry::Keyed» k a) = suc (k + a)
of_entry (Entry-F.Computed p a b) = suc (a + b)
of_entry (Entry-F.«Entry::Spread» p a) = suc (a)

abbrev of_arg : Arg-F ℕ ℕ ℕ ℕ ℕ ℕ ℕ ℕ ℕ ℕ ℕ ℕ ℕ ℕ ℕ → ℕ
of_arg (Arg-F.«Arg::Plain» a) = suc (a)
of_arg (Arg-F.«Arg::Keyed» k a) = suc (k + a)
of_arg (Arg-F.«Arg::Spread» p a) = suc (a)
of_arg (Arg-F.SpreadMap p a) = suc (a)

abbrev of_key : Key-F ℕ ℕ ℕ ℕ ℕ ℕ ℕ ℕ ℕ ℕ ℕ ℕ ℕ ℕ ℕ → ℕ
of_key (Key-F.Label l) = suc (l)
of_key (Key-F.Int p z) = suc (0)
of_key (Key-F.Long p z) = suc (0)

abbrev of_label : Label-F ℕ ℕ ℕ ℕ ℕ ℕ ℕ ℕ ℕ ℕ ℕ ℕ ℕ ℕ ℕ → ℕ
of_label (Label-F.Name i) = suc (0)
of_label (Label-F.Text i) = suc (0)
of_label (Label-F.«Label::GString» p g) = suc (g)

abbrev of_gstring : GString-F ℕ ℕ ℕ ℕ ℕ ℕ ℕ ℕ ℕ ℕ ℕ ℕ ℕ ℕ ℕ → ℕ
of_gstring g = suc (total g.parts)

abbrev of_part : Part-F ℕ ℕ ℕ ℕ ℕ ℕ ℕ ℕ ℕ ℕ ℕ ℕ ℕ ℕ ℕ → ℕ
of_part p = suc p.value

abbrev none_closure : Closure-F ℕ ℕ ℕ ℕ ℕ ℕ ℕ ℕ ℕ ℕ ℕ ℕ ℕ ℕ ℕ → ℕ
none_closure x = 0

abbrev none_stmt : Stmt-F ℕ ℕ ℕ ℕ ℕ ℕ ℕ ℕ ℕ ℕ ℕ ℕ ℕ ℕ ℕ → ℕ
none_stmt x = 0

abbrev none_param : Param-F ℕ ℕ ℕ ℕ ℕ ℕ ℕ ℕ ℕ ℕ ℕ ℕ ℕ ℕ ℕ → ℕ
none_param x = 0

abbrev none_case : Case-F ℕ ℕ ℕ ℕ ℕ ℕ ℕ ℕ ℕ ℕ ℕ ℕ ℕ ℕ ℕ → ℕ
none_case x = 0

abbrev none_catch : Catch-F ℕ ℕ ℕ ℕ ℕ ℕ ℕ ℕ ℕ ℕ ℕ ℕ ℕ ℕ ℕ → ℕ
none_catch x = 0

abbrev none_decl : Decl-F ℕ ℕ ℕ ℕ ℕ ℕ ℕ ℕ ℕ ℕ ℕ ℕ ℕ ℕ ℕ → ℕ
none_decl x = 0

abbrev none_var : Var-F ℕ ℕ ℕ ℕ ℕ ℕ ℕ ℕ ℕ ℕ ℕ ℕ ℕ ℕ ℕ → ℕ
none_var x = 0

unfoldable pub weight : Expr → ℕ
weight = fold-Expr ℕ ℕ ℕ ℕ ℕ ℕ ℕ ℕ ℕ ℕ ℕ ℕ ℕ ℕ ℕ
    of_arg none_closure of_entry of_expr of_item of_key of_label none_stmt of_gstring none_param of_part none_case none_catch none_decl none_var

unfoldable pub item_weight : Item → ℕ
item_weight = fold-Item ℕ ℕ ℕ ℕ ℕ ℕ ℕ ℕ ℕ ℕ ℕ ℕ ℕ ℕ ℕ
    of_arg none_closure of_entry of_expr of_item of_key of_label none_stmt of_gstring none_param of_part none_case none_catch none_decl none_var

unfoldable pub entry_weight : Entry → ℕ
entry_weight = fold-Entry ℕ ℕ ℕ ℕ ℕ ℕ ℕ ℕ ℕ ℕ ℕ ℕ ℕ ℕ ℕ
    of_arg none_closure of_entry of_expr of_item of_key of_label none_stmt of_gstring none_param of_part none_case none_catch none_decl none_var

unfoldable pub arg_weight : Arg → ℕ
arg_weight = fold-Arg ℕ ℕ ℕ ℕ ℕ ℕ ℕ ℕ ℕ ℕ ℕ ℕ ℕ ℕ ℕ
    of_arg none_closure of_entry of_expr of_item of_key of_label none_stmt of_gstring none_param of_part none_case none_catch none_decl none_var

unfoldable pub key_weight : Key → ℕ
key_weight = fold-Key ℕ ℕ ℕ ℕ ℕ ℕ ℕ ℕ ℕ ℕ ℕ ℕ ℕ ℕ ℕ
    of_arg none_closure of_entry of_expr of_item of_key of_label none_stmt of_gstring none_param of_part none_case none_catch none_decl none_var

unfoldable pub label_weight : Label → ℕ
label_weight = fold-Label ℕ ℕ ℕ ℕ ℕ ℕ ℕ ℕ ℕ ℕ ℕ ℕ ℕ ℕ ℕ
    of_arg none_closure of_entry of_expr of_item of_key of_label none_stmt of_gstring none_param of_part none_case none_catch none_decl none_var

unfoldable pub gstring_weight : GString → ℕ
gstring_weight = fold-GString ℕ ℕ ℕ ℕ ℕ ℕ ℕ ℕ ℕ ℕ ℕ ℕ ℕ ℕ ℕ
    of_arg none_closure of_entry of_expr of_item of_key of_label none_stmt of_gstring none_param of_part none_case none_catch none_decl none_var

unfoldable pub part_weight : Part → ℕ
part_weight = fold-Part ℕ ℕ ℕ ℕ ℕ ℕ ℕ ℕ ℕ ℕ ℕ ℕ ℕ ℕ ℕ
    of_arg none_closure of_entry of_expr of_item of_key of_label none_stmt of_gstring none_param of_part none_case none_catch none_decl none_var

pub a_gstring_weight : {x : Expr} {p : Place} (g : GString) → x ≡ expr.GString p g → weight x ≡ suc (gstring_weight g)
unfolding weight gstring_weight
a_gstring_weight g e = rw (e, ← expr.rolls-GString, fold-roll-Expr)

pub paren_weight : {x : Expr} {p : Place} (a : Expr) → x ≡ expr.Paren p a → weight x ≡ suc (weight a)
unfolding weight
paren_weight a e = rw (e, ← expr.rolls-Paren, fold-roll-Expr)

pub list_weight : {x : Expr} {p : Place} (items : List Item) → x ≡ expr.List p items → weight x ≡ suc (total (map item_weight items))
unfolding weight item_weight
list_weight items e = rw (e, ← expr.rolls-List, fold-roll-Expr)

pub map_weight : {x : Expr} {p : Place} (entries : List Entry) → x ≡ expr.Map p entries → weight x ≡ suc (total (map entry_weight entries))
unfolding weight entry_weight
map_weight entries e = rw (e, ← expr.rolls-Map, fold-roll-Expr)

pub new_weight : {x : Expr} {p : Place} {i : Ident} (args : List Arg) → x ≡ expr.New p i args → weight x ≡ suc (total (map arg_weight args))
unfolding weight arg_weight
new_weight args e = rw (e, ← expr.rolls-New, fold-roll-Expr)

pub unary_weight : {x : Expr} {p : Place} {op : UnaryOp} (a : Expr) → x ≡ expr.Unary p op a → weight x ≡ suc (weight a)
unfolding weight
unary_weight a e = rw (e, ← expr.rolls-Unary, fold-roll-Expr)

pub binary_weight : {x : Expr} {p : Place} {op : BinaryOp} (a : Expr) (b : Expr) → x ≡ expr.Binary p op a b → weight x ≡ suc (weight a + weight b)
unfolding weight
binary_weight a b e = rw (e, ← expr.rolls-Binary, fold-roll-Expr)

pub typed_weight : {x : Expr} {p : Place} {op : TypeOp} {t : TypeTree} (a : Expr) → x ≡ expr.Typed p op a t → weight x ≡ suc (weight a)
unfolding weight
typed_weight a e = rw (e, ← expr.rolls-Typed, fold-roll-Expr)

pub choice_none_weight : {x : Expr} {p : Place} (a : Expr) (c : Expr) → x ≡ expr.Choice p a None c → weight x ≡ suc (weight a + weight c)
unfolding weight
choice_none_weight a c e = rw (e, ← expr.rolls-Choice, fold-roll-Expr)

pub choice_some_weight : {x : Expr} {p : Place} (a : Expr) (b : Expr) (c : Expr) → x ≡ expr.Choice p a (Some b) c → weight x ≡ suc (weight a + weight b + weight c)
unfolding weight
choice_some_weight a b c e = rw (e, ← expr.rolls-Choice, fold-roll-Expr)

pub assign_weight : {x : Expr} {p : Place} {op : AssignOp} (a : Expr) (b : Expr) → x ≡ expr.Assign p op a b → weight x ≡ suc (weight a + weight b)
unfolding weight
assign_weight a b e = rw (e, ← expr.rolls-Assign, fold-roll-Expr)

pub member_weight : {x : Expr} {p : Place} {op : MemberOp} (a : Expr) (l : Label) → x ≡ expr.Member p op a l → weight x ≡ suc (weight a + label_weight l)
unfolding weight label_weight
member_weight a l e = rw (e, ← expr.rolls-Member, fold-roll-Expr)

pub field_weight : {x : Expr} {p : Place} {i : Ident} (a : Expr) → x ≡ expr.Field p a i → weight x ≡ suc (weight a)
unfolding weight
field_weight a e = rw (e, ← expr.rolls-Field, fold-roll-Expr)

pub index_weight : {x : Expr} {p : Place} (a : Expr) (es : List Expr) → x ≡ expr.Index p a es → weight x ≡ suc (weight a + total (map weight es))
unfolding weight
index_weight a es e = rw (e, ← expr.rolls-Index, fold-roll-Expr)

pub call_weight : {x : Expr} {p : Place} (a : Expr) (args : List Arg) → x ≡ expr.Call p a args → weight x ≡ suc (weight a + total (map arg_weight args))
unfolding weight arg_weight
call_weight a args e = rw (e, ← expr.rolls-Call, fold-roll-Expr)

pub item_plain_weight : {x : Item} (a : Expr) → x ≡ item.Plain a → item_weight x ≡ suc (weight a)
unfolding item_weight weight
item_plain_weight a e = rw (e, ← item.rolls-Plain, fold-roll-Item)

pub item_spread_weight : {x : Item} {p : Place} (a : Expr) → x ≡ item.Spread p a → item_weight x ≡ suc (weight a)
unfolding item_weight weight
item_spread_weight a e = rw (e, ← item.rolls-Spread, fold-roll-Item)

pub entry_keyed_weight : {x : Entry} (k : Key) (a : Expr) → x ≡ entry.Keyed k a → entry_weight x ≡ suc (key_weight k + weight a)
unfolding entry_weight key_weight weight
entry_keyed_weight k a e = rw (e, ← entry.rolls-Keyed, fold-roll-Entry)

pub entry_computed_weight : {x : Entry} {p : Place} (a : Expr) (b : Expr) → x ≡ entry.Computed p a b → entry_weight x ≡ suc (weight a + weight b)
unfolding entry_weight weight
entry_computed_weight a b e = rw (e, ← entry.rolls-Computed, fold-roll-Entry)

pub entry_spread_weight : {x : Entry} {p : Place} (a : Expr) → x ≡ entry.Spread p a → entry_weight x ≡ suc (weight a)
unfolding entry_weight weight
entry_spread_weight a e = rw (e, ← entry.rolls-Spread, fold-roll-Entry)

pub arg_plain_weight : {x : Arg} (a : Expr) → x ≡ arg.Plain a → arg_weight x ≡ suc (weight a)
unfolding arg_weight weight
arg_plain_weight a e = rw (e, ← arg.rolls-Plain, fold-roll-Arg)

pub arg_keyed_weight : {x : Arg} (k : Key) (a : Expr) → x ≡ arg.Keyed k a → arg_weight x ≡ suc (key_weight k + weight a)
unfolding arg_weight key_weight weight
arg_keyed_weight k a e = rw (e, ← arg.rolls-Keyed, fold-roll-Arg)

pub arg_spread_weight : {x : Arg} {p : Place} (a : Expr) → x ≡ arg.Spread p a → arg_weight x ≡ suc (weight a)
unfolding arg_weight weight
arg_spread_weight a e = rw (e, ← arg.rolls-Spread, fold-roll-Arg)

pub arg_spreadmap_weight : {x : Arg} {p : Place} (a : Expr) → x ≡ arg.SpreadMap p a → arg_weight x ≡ suc (weight a)
unfolding arg_weight weight
arg_spreadmap_weight a e = rw (e, ← arg.rolls-SpreadMap, fold-roll-Arg)

pub key_label_weight : {x : Key} (l : Label) → x ≡ key.Label l → key_weight x ≡ suc (label_weight l)
unfolding key_weight label_weight
key_label_weight l e = rw (e, ← key.rolls-Label, fold-roll-Key)

pub label_gstring_weight : {x : Label} {p : Place} (g : GString) → x ≡ label.GString p g → label_weight x ≡ suc (gstring_weight g)
unfolding label_weight gstring_weight
label_gstring_weight g e = rw (e, ← label.rolls-GString, fold-roll-Label)

pub string_weight : (g : GString) → gstring_weight g ≡ suc (total (map part_weight (out-GString g).parts))
unfolding gstring_weight part_weight
string_weight g = rw fold_out-GString

pub value_weight : (p : Part) → part_weight p ≡ suc (weight p.value)
unfolding part_weight weight
value_weight p = rw fold_out-Part

-- ---- an item is no larger than all of them

total_over : (ms ns : List ℕ) → total (ms ++ ns) ≡ total ms + total ns
unfolding total
total_over [] ns = omega arith
total_over (m ∷ ms) ns = let e = total_over ms ns in omega arith

pub item_in_total : {A : Type 0} (of : A → ℕ) {all : List A} (rest taken : List A) (x : A) → all ≡ rest ++ (x ∷ taken) → of x ≤ total (map of all)
unfolding total
item_in_total of rest taken x e =
    let a = total_over (map of rest) (map of (x ∷ taken)) in
    rw (e, map-append of rest (x ∷ taken)) (omega arith)
