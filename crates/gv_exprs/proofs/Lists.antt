-- Comma lists: what follows an element that stands before its end.
use Rattle.std.proofs.Common.{◌≡◌, ℕ, true, List, [], ◌∷◌, ◌++◌, refl, sym, ap, subst, arith, append_assoc, ◌∙◌, Option, Some, None, Result, Ok, Err}
use Rattle.std.proofs.lemmas.List.{append-nil}
use Rattle.gv_base.specs.declared.refusal.Place.{Place}
use Rattle.gv_spelling.specs.declared.kinds.Symbol.TheVariants as symbol
use Rattle.gv_lex.specs.declared.token.Token.{Token}
use Rattle.gv_lex.specs.declared.token.TokenKind.TheVariants as kind
use Rattle.gv_tree.specs.declared.expr.Arg.{Arg}
use Rattle.gv_tree.specs.declared.expr.Arg.TheVariants as arg
use Rattle.gv_tree.specs.declared.expr.Entry.{Entry}
use Rattle.gv_tree.specs.declared.expr.Entry.TheVariants as entry
use Rattle.gv_tree.specs.declared.expr.Expr.{Expr}
use Rattle.gv_tree.specs.declared.expr.Expr.TheVariants as expr
use Rattle.gv_tree.specs.declared.expr.Item.{Item}
use Rattle.gv_tree.specs.declared.expr.Item.TheVariants as item
use Rattle.gv_grammar.specs.Tokens.{Eats, eats, kind_of, place_of}
use Rattle.gv_grammar.specs.Phrases.{Longest, Nothing, Takes}
use Rattle.gv_grammar.specs.Meeting.{Same}
use Rattle.gv_grammar.specs.Exprs.{IsExpr, AreIndexes, last_index, more_indexes, AreArguments, no_argument, arguments, AreArgs, last_arg, more_args, IsArg, plain_arg, keyed_arg, spread_arg, spread_map_arg, no_element, elements, AreItems, last_item, item_comma, more_items, IsItem, plain_item, spread_item, AreEntries, last_entry, entry_comma, more_entries, IsEntry, keyed_entry, computed_entry, spread_entry, IsPrimary, a_list, empty_map, a_map}
use Rattle.gv_grammar.proofs.Lengths.{then, of_eats, of_expr, of_unary, of_key}
use Rattle.gv_grammar.proofs.Single.{along, along2, kind_eaten, same_rest, eaten_same, apart}
use Rattle.gv_grammar.proofs.Firsts.{spread_class, item_below, entry_below}
use Rattle.gv_grammar.proofs.Tails.{at_comma, at_bracket}
use Rattle.gv_grammar.proofs.Meets.{meet_indexes, meet_arguments, meet_primary}
use Rattle.gv_grammar.proofs.Longest.{only, ended_there}
use Rattle.gv_grammar.proofs.LongerPaths.{no_empty_map}
use Rattle.gv_cursor.specs.declared.error.ReadError.{ReadError}
use Rattle.gv_cursor.specs.declared.error.ReadError.TheVariants.{Refused, OutOfMemory}
use Rattle.gv_cursor.specs.Reading.{Reads, Before}
use Rattle.gv_exprs.specs.declared.elements.Element.{Element}
use Rattle.gv_exprs.specs.declared.elements.Element.TheVariants as element
use Rattle.gv_exprs.specs.declared.elements.ItemOrEntry.TheVariants as sort
use Rattle.gv_exprs.specs.Elements.{ends_element, sorted, IsElement, plain_element, keyed_element, computed_element, spread_element, spread_map_element, FollowsItem, items_end, items_end_comma, then_item, FollowsEntry, entries_end, entries_end_comma, then_entry, IsListOrMap, a_list_of, an_empty_map, a_map_of}
use Rattle.gv_exprs.proofs.Element.{meet_element}

pub ends_comma : {ts rest : List Token} → Eats symbol.Comma ts rest → ends_element (kind_of ts) ≡ true
ends_comma p = ap ends_element (kind_eaten p)

pub ends_paren : {ts rest : List Token} → Eats symbol.RightParen ts rest → ends_element (kind_of ts) ≡ true
ends_paren p = ap ends_element (kind_eaten p)

pub ends_bracket : {ts rest : List Token} → Eats symbol.RightBracket ts rest → ends_element (kind_of ts) ≡ true
ends_bracket p = ap ends_element (kind_eaten p)

module _ (all : ℕ) where
  -- ---- elements as arguments, items and entries

  item_element : {i : Item} {ts us : List Token} → IsItem all i ts us → (e : Element) × IsElement all e ts us × (sorted e ≡ sort.Item i)
  item_element (plain_item d) = (_, plain_element d, refl)
  item_element (spread_item p d) = (_, spread_element p d, refl)

  entry_element : {n : Entry} {ts us : List Token} → IsEntry all n ts us → (e : Element) × IsElement all e ts us × (sorted e ≡ sort.Entry n)
  entry_element (keyed_entry k c d) = (_, keyed_element k c d, refl)
  entry_element (computed_entry p d q c f) = (_, computed_element p d q c f, refl)
  entry_element (spread_entry p d) = (_, spread_map_element p d, refl)

  pub element_item : {e : Element} {i : Item} {ts us : List Token} → IsElement all e ts us → sorted e ≡ sort.Item i → IsItem all i ts us
  element_item {i = i} {ts = ts} {us = us} (plain_element {x = x} d) h = let e : item.Plain x ≡ i = cc in subst (λ w. IsItem all w ts us) e (plain_item d)
  element_item {i = i} {ts = ts} {us = us} (spread_element {x = x} p d) h = let e : item.Spread (place_of ts) x ≡ i = cc in subst (λ w. IsItem all w ts us) e (spread_item p d)
  element_item (keyed_element k c d) h = cc
  element_item (computed_element p d q c f) h = cc
  element_item (spread_map_element p d) h = cc

  pub element_entry : {e : Element} {n : Entry} {ts us : List Token} → IsElement all e ts us → sorted e ≡ sort.Entry n → IsEntry all n ts us
  element_entry (plain_element d) h = cc
  element_entry (spread_element p d) h = cc
  element_entry {n = n} {ts = ts} {us = us} (keyed_element {k = k} {x = x} l c d) h = let e : entry.Keyed k x ≡ n = cc in subst (λ w. IsEntry all w ts us) e (keyed_entry l c d)
  element_entry {n = n} {ts = ts} {us = us} (computed_element {x = x} {y = y} p d q c f) h =
      let e : entry.Computed (place_of ts) x y ≡ n = cc in subst (λ w. IsEntry all w ts us) e (computed_entry p d q c f)
  element_entry {n = n} {ts = ts} {us = us} (spread_map_element {x = x} p d) h = let e : entry.Spread (place_of ts) x ≡ n = cc in subst (λ w. IsEntry all w ts us) e (spread_entry p d)

  pub of_element : {e : Element} {ts us : List Token} → IsElement all e ts us → Takes 1 ts us
  of_element (plain_element d) = of_expr all d
  of_element (keyed_element k c d) = then (of_key all k) (then (of_eats c) (of_expr all d))
  of_element (computed_element p d q c f) = then (of_eats p) (then (of_expr all d) (then (of_eats q) (then (of_eats c) (of_expr all f))))
  of_element (spread_element p d) = then (of_eats p) (of_unary all d)
  of_element (spread_map_element p d) = then (of_eats p) (of_unary all d)

  meet_item : {i j : Item} {ts us vs : List Token} → IsItem all i ts us → ends_element (kind_of us) ≡ true → IsItem all j ts vs → ends_element (kind_of vs) ≡ true → Same i us j vs
  meet_item {i = i} {j = j} d h d2 h2 =
      let a = item_element d in
      let b = item_element d2 in
      let c = meet_element all a.1 b.1 h h2 in
      let e : sort.Item i ≡ sort.Item j = sym a.2 ∙ ap sorted c.tree ∙ b.2 in record { tree = cc; rest = c.rest }

  meet_entry : {n m : Entry} {ts us vs : List Token} → IsEntry all n ts us → ends_element (kind_of us) ≡ true → IsEntry all m ts vs → ends_element (kind_of vs) ≡ true → Same n us m vs
  meet_entry {n = n} {m = m} d h d2 h2 =
      let a = entry_element d in
      let b = entry_element d2 in
      let c = meet_element all a.1 b.1 h h2 in
      let e : sort.Entry n ≡ sort.Entry m = sym a.2 ∙ ap sorted c.tree ∙ b.2 in record { tree = cc; rest = c.rest }

  pub no_element_item : {ts : List Token} → Nothing (Before ends_element (IsElement all)) ts → Nothing (Before ends_element (IsItem all)) ts
  no_element_item f y after d = let a = item_element d.is in f a.0 after (record { is = a.1; ended = d.ended })

  pub no_element_entry : {ts : List Token} → Nothing (Before ends_element (IsElement all)) ts → Nothing (Before ends_element (IsEntry all)) ts
  no_element_entry f y after d = let a = entry_element d.is in f a.0 after (record { is = a.1; ended = d.ended })

  pub entry_no_item : {e : Element} {n : Entry} {ts us : List Token} → Before ends_element (IsElement all) e ts us → sorted e ≡ sort.Entry n → Nothing (Before ends_element (IsItem all)) ts
  entry_no_item {n = n} d h y after d2 =
      let a = item_element d2.is in
      let c = meet_element all d.is a.1 d.ended d2.ended in
      let e : sort.Entry n ≡ sort.Item y = sym h ∙ ap sorted c.tree ∙ a.2 in cc

  pub item_no_entry : {e : Element} {i : Item} {ts us : List Token} → Before ends_element (IsElement all) e ts us → sorted e ≡ sort.Item i → Nothing (Before ends_element (IsEntry all)) ts
  item_no_entry {i = i} d h y after d2 =
      let a = entry_element d2.is in
      let c = meet_element all d.is a.1 d.ended d2.ended in
      let e : sort.Item i ≡ sort.Entry y = sym h ∙ ap sorted c.tree ∙ a.2 in cc

  -- ---- arguments

  abbrev arg_of : Element → Option Arg
  arg_of (element.Plain x) = Some (arg.Plain x)
  arg_of (element.Keyed k x) = Some (arg.Keyed k x)
  arg_of (element.Computed p x y) = None
  arg_of (element.Spread p x) = Some (arg.Spread p x)
  arg_of (element.SpreadMap p x) = Some (arg.SpreadMap p x)

  arg_element : {a : Arg} {ts us : List Token} → IsArg all a ts us → (e : Element) × IsElement all e ts us × (arg_of e ≡ Some a)
  arg_element (plain_arg d) = (_, plain_element d, refl)
  arg_element (keyed_arg k c d) = (_, keyed_element k c d, refl)
  arg_element (spread_arg p d) = (_, spread_element p d, refl)
  arg_element (spread_map_arg p d) = (_, spread_map_element p d, refl)

  pub element_arg : {e : Element} {a : Arg} {ts us : List Token} → Before ends_element (IsElement all) e ts us → arg_of e ≡ Some a → Before ends_element (IsArg all) a ts us
  element_arg {a = a} {ts = ts} {us = us} d h = record { is = go d.is h; ended = d.ended }
    where
      go : {e : Element} → IsElement all e ts us → arg_of e ≡ Some a → IsArg all a ts us
      go (plain_element {x = x} d) h = let e : arg.Plain x ≡ a = cc in subst (λ w. IsArg all w ts us) e (plain_arg d)
      go (keyed_element {k = k} {x = x} l c d) h = let e : arg.Keyed k x ≡ a = cc in subst (λ w. IsArg all w ts us) e (keyed_arg l c d)
      go (computed_element p d q c f) h = cc
      go (spread_element {x = x} p d) h = let e : arg.Spread (place_of ts) x ≡ a = cc in subst (λ w. IsArg all w ts us) e (spread_arg p d)
      go (spread_map_element {x = x} p d) h = let e : arg.SpreadMap (place_of ts) x ≡ a = cc in subst (λ w. IsArg all w ts us) e (spread_map_arg p d)

  meet_arg : {x y : Arg} {ts us vs : List Token} → Before ends_element (IsArg all) x ts us → Before ends_element (IsArg all) y ts vs → Same x us y vs
  meet_arg {x = x} {y = y} d d2 =
      let a = arg_element d.is in
      let b = arg_element d2.is in
      let c = meet_element all a.1 b.1 d.ended d2.ended in
      let e : Some x ≡ Some y = sym a.2 ∙ ap arg_of c.tree ∙ b.2 in record { tree = cc; rest = c.rest }

  pub no_element_arg : {ts : List Token} → Nothing (Before ends_element (IsElement all)) ts → Nothing (Before ends_element (IsArg all)) ts
  no_element_arg f y after d = let a = arg_element d.is in f a.0 after (record { is = a.1; ended = d.ended })

  pub no_computed_arg : {p : Place} {x y : Expr} {ts us : List Token} → Before ends_element (IsElement all) (element.Computed p x y) ts us → Nothing (Before ends_element (IsArg all)) ts
  no_computed_arg d y after d2 =
      let a = arg_element d2.is in
      let c = meet_element all d.is a.1 d.ended d2.ended in
      let e : None ≡ Some y = ap arg_of c.tree ∙ a.2 in cc

  pub long_arguments : {args : List Arg} {ts rest : List Token} → AreArguments all args ts rest → Longest (AreArguments all) args ts rest
  long_arguments d = only d (λ y after f. meet_arguments all d f)

  pub no_arguments : {ts : List Token} → ((us : List Token) → Eats symbol.RightParen ts us → ⊥) → Nothing (AreArgs all) ts → Nothing (AreArguments all) ts
  no_arguments f g y after (no_argument p) = f _ p
  no_arguments f g y after (arguments d) = g _ _ d

  pub no_arg : {ts : List Token} → Nothing (Before ends_element (IsArg all)) ts → Nothing (AreArgs all) ts
  no_arg f y after (last_arg d c) = f _ _ (record { is = d; ended = ends_paren c })
  no_arg f y after (more_args d m g) = f _ _ (record { is = d; ended = ends_comma m })

  pub no_arg_comma : {a : Arg} {ts us : List Token} → Before ends_element (IsArg all) a ts us → ((vs : List Token) → Eats symbol.RightParen us vs → ⊥) → ((vs : List Token) → Eats symbol.Comma us vs → ⊥) → Nothing (AreArgs all) ts
  no_arg_comma d f g y after (last_arg d2 c) = let a = meet_arg d (record { is = d2; ended = ends_paren c }) in f after (along (λ zs. Eats symbol.RightParen zs after) a.rest c)
  no_arg_comma d f g y after (more_args {vs = vs} d2 m h) = let a = meet_arg d (record { is = d2; ended = ends_comma m }) in g vs (along (λ zs. Eats symbol.Comma zs vs) a.rest m)

  pub no_more_args : {a : Arg} {ts us vs : List Token} → Before ends_element (IsArg all) a ts us → Eats symbol.Comma us vs → Nothing (AreArgs all) vs → Nothing (AreArgs all) ts
  no_more_args d m f y after (last_arg d2 c) = let a = meet_arg d (record { is = d2; ended = ends_paren c }) in let b = apart a.rest m c in cc
  no_more_args d m f y after (more_args {args = args} d2 m2 h) =
      let a = meet_arg d (record { is = d2; ended = ends_comma m2 }) in f args after (along (λ zs. AreArgs all args zs after) (eaten_same a.rest m m2) h)

  -- ---- indexes

  pub long_indexes : {xs : List Expr} {ts rest : List Token} → AreIndexes all xs ts rest → Longest (AreIndexes all) xs ts rest
  long_indexes d = only d (λ y after f. meet_indexes all d f)

  pub no_index_expr : {ts : List Token} → Nothing (IsExpr all) ts → Nothing (AreIndexes all) ts
  no_index_expr f y after (last_index d c) = f _ _ d
  no_index_expr f y after (more_indexes d c g) = f _ _ d

  pub no_index_comma : {x : Expr} {ts us : List Token} → Longest (IsExpr all) x ts us → ((vs : List Token) → Eats symbol.RightBracket us vs → ⊥) → ((vs : List Token) → Eats symbol.Comma us vs → ⊥) → Nothing (AreIndexes all) ts
  no_index_comma l f g y after (last_index d c) = f after (along (λ zs. Eats symbol.RightBracket zs after) ((ended_there all l d (at_bracket c)).rest) c)
  no_index_comma l f g y after (more_indexes {vs = vs} d c h) = g vs (along (λ zs. Eats symbol.Comma zs vs) ((ended_there all l d (at_comma c)).rest) c)

  pub no_more_indexes : {x : Expr} {ts us vs : List Token} → Longest (IsExpr all) x ts us → Eats symbol.Comma us vs → Nothing (AreIndexes all) vs → Nothing (AreIndexes all) ts
  no_more_indexes l m f y after (last_index d c) = let a = apart ((ended_there all l d (at_bracket c)).rest) m c in cc
  no_more_indexes l m f y after (more_indexes {xs = xs} d c h) = f xs after (along (λ zs. AreIndexes all xs zs after) (eaten_same ((ended_there all l d (at_comma c)).rest) m c) h)

  -- ---- items

  follows_ended : {items found : List Item} {ts rest : List Token} → FollowsItem all items found ts rest → ends_element (kind_of ts) ≡ true
  follows_ended (items_end c) = ends_bracket c
  follows_ended (items_end_comma m c) = ends_comma m
  follows_ended (then_item m d f) = ends_comma m

  ends_there : {items found : List Item} {ts rest after : List Token} → Eats symbol.RightBracket ts rest → FollowsItem all items found ts after → Same items rest found after
  ends_there p (items_end q) = record { tree = refl; rest = same_rest p q }
  ends_there p (items_end_comma q c) = let a = apart refl p q in cc
  ends_there p (then_item q d f) = let a = apart refl p q in cc

  pub items_end_here : {items : List Item} {ts rest : List Token} → Eats symbol.RightBracket ts rest → Longest (FollowsItem all items) items ts rest
  items_end_here p = only (items_end p) (λ y after f. ends_there p f)

  ends_behind : {items found : List Item} {ts us rest after : List Token} → Eats symbol.Comma ts us → Eats symbol.RightBracket us rest → FollowsItem all items found ts after → Same items rest found after
  ends_behind p c (items_end q) = let a = apart refl p q in cc
  ends_behind p c (items_end_comma q c2) = record { tree = refl; rest = eaten_same (same_rest p q) c c2 }
  ends_behind p c (then_item q d f) =
      let a = item_below all d in let b = ap spread_class (kind_eaten c) in let h = ap (λ zs. spread_class (kind_of zs)) (same_rest p q) in absurd (omega arith)

  pub items_end_behind : {items : List Item} {ts us rest : List Token} → Eats symbol.Comma ts us → Eats symbol.RightBracket us rest → Longest (FollowsItem all items) items ts rest
  items_end_behind p c = only (items_end_comma p c) (λ y after f. ends_behind p c f)

  item_then : {i : Item} {items found : List Item} {ts us vs after : List Token} → Eats symbol.Comma ts us → ((ws : List Token) → Eats symbol.RightBracket us ws → ⊥) → Before ends_element (IsItem all) i us vs
      → FollowsItem all items found ts after → FollowsItem all (items ++ i ∷ []) found vs after
  item_then p n d (items_end q) = let a = apart refl p q in cc
  item_then {after = after} p n d (items_end_comma q c) = absurd (n after (along (λ zs. Eats symbol.RightBracket zs after) (same_rest p q) c))
  item_then {items = items} {found = found} {after = after} p n d (then_item {i = j} {vs = vs2} q d2 f) =
      let a = meet_item d.is d.ended (along (λ zs. IsItem all j zs vs2) (same_rest p q) d2) (follows_ended f) in
      along2 (λ w zs. FollowsItem all (items ++ w ∷ []) found zs after) a.tree a.rest f

  pub reads_item : (items : List Item) {i : Item} {ts us vs : List Token} → Eats symbol.Comma ts us → ((ws : List Token) → Eats symbol.RightBracket us ws → ⊥) → Before ends_element (IsItem all) i us vs
      → (r : Result (List Item) ReadError) (rest : List Token) → Reads (FollowsItem all (items ++ i ∷ [])) r vs rest → Reads (FollowsItem all items) r ts rest
  reads_item items p n d (Ok found) rest l = record { is = then_item p d.is l.is; longest = λ y after f. l.longest y after (item_then p n d f) }
  reads_item items p n d (Err OutOfMemory) rest l = tt
  reads_item items p n d (Err Refused) rest l = λ y after f. l y after (item_then p n d f)

  pub no_item_comma : {items : List Item} {ts : List Token} → ((us : List Token) → Eats symbol.RightBracket ts us → ⊥) → ((us : List Token) → Eats symbol.Comma ts us → ⊥) → Nothing (FollowsItem all items) ts
  no_item_comma f g y after (items_end q) = f _ q
  no_item_comma f g y after (items_end_comma q c) = g _ q
  no_item_comma f g y after (then_item q d h) = g _ q

  pub no_item_there : {items : List Item} {ts us : List Token} → Eats symbol.Comma ts us → ((ws : List Token) → Eats symbol.RightBracket us ws → ⊥) → Nothing (Before ends_element (IsItem all)) us → Nothing (FollowsItem all items) ts
  no_item_there p n f y after (items_end q) = let a = apart refl p q in cc
  no_item_there p n f y after (items_end_comma q c) = n after (along (λ zs. Eats symbol.RightBracket zs after) (same_rest p q) c)
  no_item_there p n f y after (then_item {i = j} {vs = vs} q d h) = f j vs (record { is = along (λ zs. IsItem all j zs vs) (same_rest p q) d; ended = follows_ended h })

  -- ---- entries

  entries_ended : {entries found : List Entry} {ts rest : List Token} → FollowsEntry all entries found ts rest → ends_element (kind_of ts) ≡ true
  entries_ended (entries_end c) = ends_bracket c
  entries_ended (entries_end_comma m c) = ends_comma m
  entries_ended (then_entry m d f) = ends_comma m

  entry_ends_there : {entries found : List Entry} {ts rest after : List Token} → Eats symbol.RightBracket ts rest → FollowsEntry all entries found ts after → Same entries rest found after
  entry_ends_there p (entries_end q) = record { tree = refl; rest = same_rest p q }
  entry_ends_there p (entries_end_comma q c) = let a = apart refl p q in cc
  entry_ends_there p (then_entry q d f) = let a = apart refl p q in cc

  pub entries_end_here : {entries : List Entry} {ts rest : List Token} → Eats symbol.RightBracket ts rest → Longest (FollowsEntry all entries) entries ts rest
  entries_end_here p = only (entries_end p) (λ y after f. entry_ends_there p f)

  entry_ends_behind : {entries found : List Entry} {ts us rest after : List Token} → Eats symbol.Comma ts us → Eats symbol.RightBracket us rest → FollowsEntry all entries found ts after → Same entries rest found after
  entry_ends_behind p c (entries_end q) = let a = apart refl p q in cc
  entry_ends_behind p c (entries_end_comma q c2) = record { tree = refl; rest = eaten_same (same_rest p q) c c2 }
  entry_ends_behind p c (then_entry q d f) =
      let a = entry_below all d in let b = ap spread_class (kind_eaten c) in let h = ap (λ zs. spread_class (kind_of zs)) (same_rest p q) in absurd (omega arith)

  pub entries_end_behind : {entries : List Entry} {ts us rest : List Token} → Eats symbol.Comma ts us → Eats symbol.RightBracket us rest → Longest (FollowsEntry all entries) entries ts rest
  entries_end_behind p c = only (entries_end_comma p c) (λ y after f. entry_ends_behind p c f)

  entry_then : {i : Entry} {entries found : List Entry} {ts us vs after : List Token} → Eats symbol.Comma ts us → ((ws : List Token) → Eats symbol.RightBracket us ws → ⊥) → Before ends_element (IsEntry all) i us vs
      → FollowsEntry all entries found ts after → FollowsEntry all (entries ++ i ∷ []) found vs after
  entry_then p n d (entries_end q) = let a = apart refl p q in cc
  entry_then {after = after} p n d (entries_end_comma q c) = absurd (n after (along (λ zs. Eats symbol.RightBracket zs after) (same_rest p q) c))
  entry_then {entries = entries} {found = found} {after = after} p n d (then_entry {n = j} {vs = vs2} q d2 f) =
      let a = meet_entry d.is d.ended (along (λ zs. IsEntry all j zs vs2) (same_rest p q) d2) (entries_ended f) in
      along2 (λ w zs. FollowsEntry all (entries ++ w ∷ []) found zs after) a.tree a.rest f

  pub reads_entry : (entries : List Entry) {i : Entry} {ts us vs : List Token} → Eats symbol.Comma ts us → ((ws : List Token) → Eats symbol.RightBracket us ws → ⊥) → Before ends_element (IsEntry all) i us vs
      → (r : Result (List Entry) ReadError) (rest : List Token) → Reads (FollowsEntry all (entries ++ i ∷ [])) r vs rest → Reads (FollowsEntry all entries) r ts rest
  reads_entry entries p n d (Ok found) rest l = record { is = then_entry p d.is l.is; longest = λ y after f. l.longest y after (entry_then p n d f) }
  reads_entry entries p n d (Err OutOfMemory) rest l = tt
  reads_entry entries p n d (Err Refused) rest l = λ y after f. l y after (entry_then p n d f)

  pub no_entry_comma : {entries : List Entry} {ts : List Token} → ((us : List Token) → Eats symbol.RightBracket ts us → ⊥) → ((us : List Token) → Eats symbol.Comma ts us → ⊥) → Nothing (FollowsEntry all entries) ts
  no_entry_comma f g y after (entries_end q) = f _ q
  no_entry_comma f g y after (entries_end_comma q c) = g _ q
  no_entry_comma f g y after (then_entry q d h) = g _ q

  pub no_entry_there : {entries : List Entry} {ts us : List Token} → Eats symbol.Comma ts us → ((ws : List Token) → Eats symbol.RightBracket us ws → ⊥) → Nothing (Before ends_element (IsEntry all)) us → Nothing (FollowsEntry all entries) ts
  no_entry_there p n f y after (entries_end q) = let a = apart refl p q in cc
  no_entry_there p n f y after (entries_end_comma q c) = n after (along (λ zs. Eats symbol.RightBracket zs after) (same_rest p q) c)
  no_entry_there p n f y after (then_entry {n = j} {vs = vs} q d h) = f j vs (record { is = along (λ zs. IsEntry all j zs vs) (same_rest p q) d; ended = entries_ended h })

  -- ---- a list or a map

  record FirstItem (found : List Item) (ts rest : List Token) : Type 0 where
    tree : Item
    us : List Token
    first : Before ends_element (IsItem all) tree ts us
    more : (items : List Item) → FollowsItem all (items ++ tree ∷ []) (items ++ found) us rest

  first_item : {found : List Item} {ts rest : List Token} → AreItems all found ts rest → FirstItem found ts rest
  first_item (last_item d c) = record { tree = _; us = _; first = record { is = d; ended = ends_bracket c }; more = λ items. items_end c }
  first_item (item_comma d m c) = record { tree = _; us = _; first = record { is = d; ended = ends_comma m }; more = λ items. items_end_comma m c }
  first_item {rest = rest} (more_items {i = i} {items = xs} {us = us} d m g) =
      let a = first_item g in
      record {
        tree = i;
        us = us;
        first = record { is = d; ended = ends_comma m };
        more = λ items. then_item m a.first.is (subst (λ w. FollowsItem all ((items ++ i ∷ []) ++ a.tree ∷ []) w a.us rest) (append_assoc items (i ∷ []) xs) (a.more (items ++ i ∷ [])));
      }

  record ItemTail (i : Item) (items found : List Item) (ts rest : List Token) : Type 0 where
    behind : List Item
    all_items : AreItems all (i ∷ behind) ts rest
    together : found ≡ items ++ behind

  item_tail : {i : Item} {items found : List Item} {ts us rest : List Token} → IsItem all i ts us → FollowsItem all items found us rest → ItemTail i items found ts rest
  item_tail {items = items} d (items_end c) = record { behind = []; all_items = last_item d c; together = sym (append-nil items) }
  item_tail {items = items} d (items_end_comma m c) = record { behind = []; all_items = item_comma d m c; together = sym (append-nil items) }
  item_tail {items = items} d (then_item {i = j} m d2 f) =
      let a = item_tail d2 f in record { behind = j ∷ a.behind; all_items = more_items d m a.all_items; together = a.together ∙ append_assoc items (j ∷ []) a.behind }

  record FirstEntry (found : List Entry) (ts rest : List Token) : Type 0 where
    tree : Entry
    us : List Token
    first : Before ends_element (IsEntry all) tree ts us
    more : (entries : List Entry) → FollowsEntry all (entries ++ tree ∷ []) (entries ++ found) us rest

  first_entry : {found : List Entry} {ts rest : List Token} → AreEntries all found ts rest → FirstEntry found ts rest
  first_entry (last_entry d c) = record { tree = _; us = _; first = record { is = d; ended = ends_bracket c }; more = λ entries. entries_end c }
  first_entry (entry_comma d m c) = record { tree = _; us = _; first = record { is = d; ended = ends_comma m }; more = λ entries. entries_end_comma m c }
  first_entry {rest = rest} (more_entries {n = i} {ns = xs} {us = us} d m g) =
      let a = first_entry g in
      record {
        tree = i;
        us = us;
        first = record { is = d; ended = ends_comma m };
        more = λ entries. then_entry m a.first.is (subst (λ w. FollowsEntry all ((entries ++ i ∷ []) ++ a.tree ∷ []) w a.us rest) (append_assoc entries (i ∷ []) xs) (a.more (entries ++ i ∷ [])));
      }

  record EntryTail (i : Entry) (entries found : List Entry) (ts rest : List Token) : Type 0 where
    behind : List Entry
    all_entries : AreEntries all (i ∷ behind) ts rest
    together : found ≡ entries ++ behind

  entry_tail : {i : Entry} {entries found : List Entry} {ts us rest : List Token} → IsEntry all i ts us → FollowsEntry all entries found us rest → EntryTail i entries found ts rest
  entry_tail {entries = entries} d (entries_end c) = record { behind = []; all_entries = last_entry d c; together = sym (append-nil entries) }
  entry_tail {entries = entries} d (entries_end_comma m c) = record { behind = []; all_entries = entry_comma d m c; together = sym (append-nil entries) }
  entry_tail {entries = entries} d (then_entry {n = j} m d2 f) =
      let a = entry_tail d2 f in record { behind = j ∷ a.behind; all_entries = more_entries d m a.all_entries; together = a.together ∙ append_assoc entries (j ∷ []) a.behind }

  -- a primary, behind its bracket
  as_primary : {place : Place} {x : Expr} {ts rest : List Token} → IsListOrMap all place x ts rest → IsPrimary all x (record { kind = kind.Symbol symbol.LeftBracket; place = place } ∷ ts) rest
  as_primary (a_list_of d) = a_list (eats refl) d
  as_primary (an_empty_map c d) = empty_map (eats refl) c d
  as_primary (a_map_of d) = a_map (eats refl) d

  pub long_list : {place : Place} {x : Expr} {ts rest : List Token} → IsListOrMap all place x ts rest → Longest (IsListOrMap all place) x ts rest
  long_list d = only d (λ y after f. meet_primary all (as_primary d) (as_primary f))

  pub no_empty_map_end : {place : Place} {ts us : List Token} → Eats symbol.Colon ts us → ((vs : List Token) → Eats symbol.RightBracket us vs → ⊥) → Nothing (IsListOrMap all place) ts
  no_empty_map_end {place = place} {ts = ts} p f y after d = no_empty_map all (here ts) p f y after (as_primary d)
    where
      here : (zs : List Token) → Eats symbol.LeftBracket (record { kind = kind.Symbol symbol.LeftBracket; place = place } ∷ zs) zs
      here zs = eats refl

  pub no_first : {place : Place} {ts : List Token} → ((us : List Token) → Eats symbol.RightBracket ts us → ⊥) → ((us : List Token) → Eats symbol.Colon ts us → ⊥) → Nothing (Before ends_element (IsElement all)) ts
      → Nothing (IsListOrMap all place) ts
  no_first f g n y after (a_list_of (no_element p)) = f _ p
  no_first f g n y after (a_list_of (elements d)) = let a = first_item d in no_element_item n a.tree a.us a.first
  no_first f g n y after (an_empty_map p c) = g _ p
  no_first f g n y after (a_map_of d) = let a = first_entry d in no_element_entry n a.tree a.us a.first

  pub list_here : {place : Place} {e : Element} {i : Item} {found : List Item} {ts us rest : List Token} → IsElement all e ts us → sorted e ≡ sort.Item i → FollowsItem all (i ∷ []) found us rest
      → Longest (IsListOrMap all place) (expr.List place found) ts rest
  list_here {place = place} {ts = ts} {rest = rest} d h f =
      let a = item_tail (element_item d h) f in long_list (a_list_of (elements (subst (λ w. AreItems all w ts rest) (sym a.together) a.all_items)))

  pub map_here : {place : Place} {e : Element} {n : Entry} {found : List Entry} {ts us rest : List Token} → IsElement all e ts us → sorted e ≡ sort.Entry n → FollowsEntry all (n ∷ []) found us rest
      → Longest (IsListOrMap all place) (expr.Map place found) ts rest
  map_here {place = place} {ts = ts} {rest = rest} d h f =
      let a = entry_tail (element_entry d h) f in long_list (a_map_of (subst (λ w. AreEntries all w ts rest) (sym a.together) a.all_entries))

  pub no_list_here : {place : Place} {e : Element} {i : Item} {ts us : List Token} → ((us : List Token) → Eats symbol.RightBracket ts us → ⊥) → ((us : List Token) → Eats symbol.Colon ts us → ⊥)
      → Before ends_element (IsElement all) e ts us → sorted e ≡ sort.Item i → Nothing (FollowsItem all (i ∷ [])) us → Nothing (IsListOrMap all place) ts
  no_list_here f g d h n y after (a_list_of (no_element p)) = f _ p
  no_list_here f g d h n y after (a_list_of (elements {items = found} e)) =
      let a = first_item e in
      let b = meet_item (element_item d.is h) d.ended a.first.is a.first.ended in
      n found after (along2 (λ w zs. FollowsItem all (w ∷ []) found zs after) b.tree b.rest (a.more []))
  no_list_here f g d h n y after (an_empty_map p c) = g _ p
  no_list_here f g d h n y after (a_map_of e) = let a = first_entry e in item_no_entry d h a.tree a.us a.first

  pub no_map_here : {place : Place} {e : Element} {m : Entry} {ts us : List Token} → ((us : List Token) → Eats symbol.RightBracket ts us → ⊥) → ((us : List Token) → Eats symbol.Colon ts us → ⊥)
      → Before ends_element (IsElement all) e ts us → sorted e ≡ sort.Entry m → Nothing (FollowsEntry all (m ∷ [])) us → Nothing (IsListOrMap all place) ts
  no_map_here f g d h n y after (a_list_of (no_element p)) = f _ p
  no_map_here f g d h n y after (a_list_of (elements e)) = let a = first_item e in entry_no_item d h a.tree a.us a.first
  no_map_here f g d h n y after (an_empty_map p c) = g _ p
  no_map_here f g d h n y after (a_map_of {entries = found} e) =
      let a = first_entry e in
      let b = meet_entry (element_entry d.is h) d.ended a.first.is a.first.ended in
      n found after (along2 (λ w zs. FollowsEntry all (w ∷ []) found zs after) b.tree b.rest (a.more []))
