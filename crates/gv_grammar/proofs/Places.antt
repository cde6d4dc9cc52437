-- The unread closures of a reading lie among its tokens.
use Rattle.std.proofs.Common.{◌≡◌, ℕ, ◌<◌, ◌≤◌, ◌-◌, Bool, List, [], ◌∷◌, ◌++◌, length, map, refl, ap, arith, inl, inr}
use Rattle.std.specs.List.{Contains, flat_map}
use Rattle.std.proofs.lemmas.List.{map-append}
use Rattle.std.proofs.lemmas.List.Elements.{Contains-append_cases, Contains-append_right, Contains-push_cases}
use Rattle.std.proofs.lemmas.Grind.{flat_map-append}
use Rattle.gv_base.specs.declared.refusal.Place.{Place}
use Rattle.gv_lex.specs.declared.token.Part.{Part as Form}
use Rattle.gv_lex.specs.declared.token.Token.{Token}
use Rattle.gv_tree.specs.declared.expr.Arg.{Arg, fold-roll-Arg}
use Rattle.gv_tree.specs.declared.expr.Arg.TheVariants as arg
use Rattle.gv_tree.specs.declared.expr.Closure.{fold-roll-Closure}
use Rattle.gv_tree.specs.declared.expr.Closure.TheVariants as closure
use Rattle.gv_tree.specs.declared.expr.Entry.{Entry, fold-roll-Entry}
use Rattle.gv_tree.specs.declared.expr.Entry.TheVariants as entry
use Rattle.gv_tree.specs.declared.expr.Expr.{Expr, fold-roll-Expr}
use Rattle.gv_tree.specs.declared.expr.Expr.TheVariants as expr
use Rattle.gv_tree.specs.declared.expr.GString.{GString, fold-roll-GString}
use Rattle.gv_tree.specs.declared.expr.Item.{Item, fold-roll-Item}
use Rattle.gv_tree.specs.declared.expr.Item.TheVariants as item
use Rattle.gv_tree.specs.declared.expr.Key.{Key, fold-roll-Key}
use Rattle.gv_tree.specs.declared.expr.Key.TheVariants as key
use Rattle.gv_tree.specs.declared.expr.Label.{Label, fold-roll-Label}
use Rattle.gv_tree.specs.declared.expr.Label.TheVariants as label
use Rattle.gv_tree.specs.declared.expr.Part.{Part, fold-roll-Part}
use Rattle.gv_tree.specs.declared.ops.Ident.{Ident}
use Rattle.gv_tree.specs.declared.ops.MemberOp.{MemberOp}
use Rattle.gv_grammar.specs.Phrases.{Takes}
use Rattle.gv_grammar.specs.Exprs.{IsClosure, unread, AreClosures, no_closure, one_closure, plain, IsExpr, an_expr, GoesExpr, expr_ends, assigns, IsCond, a_cond, GoesCond, cond_ends, chooses, defaults, AreChoices, choices, IsBin, tightest, a_bin, GoesBin, bin_ends, operator, typing, IsUnary, prefix, no_prefix, IsPath, a_path, GoesPath, path_ends, suffix, IsSuffix, a_member, a_field, postfix, index, call, closures, IsMemberName, member_word, member_text, member_gstring, IsKey, key_word, key_text, key_gstring, key_int, key_long, IsGString, gstring, AreParts, last_part, more_parts, IsPart, eager, lazy, names, GoesNames, names_end, one_name, AreIndexes, last_index, more_indexes, AreArguments, no_argument, arguments, AreArgs, last_arg, more_args, IsArg, plain_arg, keyed_arg, spread_arg, spread_map_arg, AreElements, no_element, elements, AreItems, last_item, item_comma, more_items, IsItem, plain_item, spread_item, AreEntries, last_entry, entry_comma, more_entries, IsEntry, keyed_entry, computed_entry, spread_entry, IsPrimary, an_atom, a_gstring, parens, a_list, empty_map, a_map, a_closure, a_new}
use Rattle.gv_grammar.specs.Commands.{IsCommandArg, plain_carg, keyed_carg, AreCommandArgs, last_carg, more_cargs, IsLink, link_args, link_call, IsProperty, last_name, GoesCommand, command_ends, command_link, command_name, IsCommand, with_args, with_link, with_name, IsFull, full_cond, full_assign, full_command}
use Rattle.gv_grammar.specs.Closures.{Found, all_found, unread_places, arg_places, entry_places, item_places, key_places, label_places, gstring_places, part_places, Within}
use Rattle.gv_grammar.proofs.Lengths.{takes_one, then, no_more, less, of_eats, of_as, of_keyword, of_piece, of_matched, of_closure, of_expr, of_cond, of_bin, of_path, of_primary, of_suffix, of_key, of_part, of_arguments, of_arg, of_item, of_entry}
use Rattle.gv_grammar.proofs.Commands.{of_carg, of_cargs, of_link}

-- ---- what lies within

pub grown : {all m n : ℕ} {fs : Found} → Within all m fs → m ≤ n → Within all n fs
grown w h = record { ordered = w.ordered; inside = w.inside; fewer = λ from to c. let e = w.fewer from to c in omega arith }

pub nowhere : {all n : ℕ} → Within all n []
nowhere = record { ordered = λ from to c. absurd (omega arith); inside = λ from to c. absurd (omega arith); fewer = λ from to c. absurd (omega arith) }

pub both : {all n : ℕ} {fs gs : Found} → Within all n fs → Within all n gs → Within all n (fs ++ gs)
both {fs = fs} {gs = gs} v w = record {
  ordered = λ from to c. elim (Contains-append_cases fs gs (from, to) c) [ inl a ↦ v.ordered from to a | inr b ↦ w.ordered from to b ];
  inside = λ from to c. elim (Contains-append_cases fs gs (from, to) c) [ inl a ↦ v.inside from to a | inr b ↦ w.inside from to b ];
  fewer = λ from to c. elim (Contains-append_cases fs gs (from, to) c) [ inl a ↦ v.fewer from to a | inr b ↦ w.fewer from to b ];
}

-- of the one closure
alone : {from to x y : ℕ} → Contains {X = ℕ × ℕ} ((from, to) ∷ []) (x, y) → (from ≡ x) × (to ≡ y)
alone {from} {to} {x} {y} c = elim (Contains-push_cases [] (from, to) (x, y) c) [ inl a ↦ absurd (omega arith) | inr e ↦ (ap (λ p. p.0) e, ap (λ p. p.1) e) ]

one : {all n from to : ℕ} → from ≤ to → to ≤ all → all - from < n → Within all n ((from, to) ∷ [])
one h i j = record {
  ordered = λ x y c. let e = alone c in let a = e.0 in let b = e.1 in omega arith;
  inside = λ x y c. let e = alone c in let b = e.1 in omega arith;
  fewer = λ x y c. let e = alone c in let a = e.0 in omega arith;
}

-- of each element of a list
pub each : {A : Type 0} (f : A → Found) {all n : ℕ} (xs : List A) → ((x : A) → Contains xs x → Within all n (f x)) → Within all n (flat_map f xs)
each f [] h = nowhere
each f (x ∷ xs) h = both (h x (0, omega arith, refl)) (each f xs (λ y c. h y (Contains-append_right (x ∷ []) xs y c)))

-- of the elements of two lists
row : {A : Type 0} (places : A → Found) {all n : ℕ} (xs ys : List A) → Within all n (all_found (map places xs)) → Within all n (all_found (map places ys)) → Within all n (all_found (map places (xs ++ ys)))
row places xs ys v w = rw (map-append places xs ys, flat_map-append (λ f. f) (map places xs) (map places ys)) (both v w)

-- what lies in the tokens that are left
after : {all a : ℕ} {ts us : List Token} {fs : Found} → Takes a ts us → Within all (length us) fs → Within all (length ts) fs
after t w = grown w (no_more t)

within : {all a n : ℕ} {ts us : List Token} {fs : Found} → Takes a ts us → length ts ≤ n → Within all (length us) fs → Within all n fs
within t h w = let a = no_more t in grown w (omega arith)

still : {a n : ℕ} {ts us : List Token} → Takes a ts us → length ts ≤ n → length us ≤ n
still t h = let a = no_more t in omega arith

module _ (all : ℕ) where
  -- ---- closures and names

  pub closure_within : {x : Expr} {ts rest : List Token} → IsClosure all x ts rest → Within all (length ts) (unread_places x)
  unfolding unread_places
  closure_within (unread o m c) = let a = less (of_eats o) in let b = no_more (of_matched m) in
      rw (← expr.rolls-Closure, fold-roll-Expr, ← closure.rolls-Unread, fold-roll-Closure) (one (omega arith) (omega arith) (omega arith))

  pub closures_within : {fs : List Expr} {ts rest : List Token} → AreClosures all fs ts rest → Within all (length ts) (all_found (map arg_places (plain all fs)))
  unfolding unread_places arg_places
  closures_within (no_closure f) = nowhere
  closures_within (one_closure c d) = both (rw (← arg.rolls-Plain, fold-roll-Arg) (closure_within c)) (after (of_closure all c) (closures_within d))

  named : {n : ℕ} (p : Place) (op : MemberOp) (x : Expr) (i : Ident) → Within all n (unread_places x) → Within all n (unread_places (expr.Member p op x (label.Name i)))
  unfolding unread_places
  named p op x i w = rw (← expr.rolls-Member, fold-roll-Expr, ← label.rolls-Name, fold-roll-Label) (both w nowhere)

  pub names_within : {n : ℕ} {x y : Expr} {ts rest : List Token} → GoesNames all x y ts rest → Within all n (unread_places x) → Within all n (unread_places y)
  names_within names_end w = w
  names_within (one_name d n g) w = names_within g (named _ _ _ _ w)

  -- ---- the phrases

  mutual
    unfolding unread_places arg_places entry_places item_places key_places label_places gstring_places part_places

    pub expr_within : {x : Expr} {ts rest : List Token} → IsExpr all x ts rest → Within all (length ts) (unread_places x)
    expr_within (an_expr d g) = goes_expr_within g (cond_within d) (no_more (of_cond all d))

    pub goes_expr_within : {n : ℕ} {x y : Expr} {ts rest : List Token} → GoesExpr all x y ts rest → Within all n (unread_places x) → length ts ≤ n → Within all n (unread_places y)
    goes_expr_within expr_ends w h = w
    goes_expr_within (assigns p q d) w h = rw (← expr.rolls-Assign, fold-roll-Expr) (both w (grown (expr_within d) (omega arith)))

    pub cond_within : {x : Expr} {ts rest : List Token} → IsCond all x ts rest → Within all (length ts) (unread_places x)
    cond_within (a_cond d g) = goes_cond_within g (bin_within d) (no_more (of_bin all d))

    pub goes_cond_within : {n : ℕ} {x y : Expr} {ts rest : List Token} → GoesCond all x y ts rest → Within all n (unread_places x) → length ts ≤ n → Within all n (unread_places y)
    goes_cond_within cond_ends w h = w
    goes_cond_within (chooses q d) w h = let c = choices_within d in
        rw (← expr.rolls-Choice, fold-roll-Expr) (both (both w (within (of_eats q) h (c.0))) (within (of_eats q) h (c.1)))
    goes_cond_within (defaults q d) w h = rw (← expr.rolls-Choice, fold-roll-Expr) (both w (within (of_eats q) h (cond_within d)))

    pub choices_within : {p : Expr × Expr} {ts rest : List Token} → AreChoices all p ts rest → Within all (length ts) (unread_places p.0) × Within all (length ts) (unread_places p.1)
    choices_within (choices d c e) = (expr_within d, after (then (of_expr all d) (of_eats c)) (expr_within e))

    pub bin_within : {n : ℕ} {x : Expr} {ts rest : List Token} → IsBin all n x ts rest → Within all (length ts) (unread_places x)
    bin_within (tightest d) = unary_within d
    bin_within (a_bin d g) = goes_bin_within g (bin_within d) (no_more (of_bin all d))

    pub goes_bin_within : {n m : ℕ} {j : Bool} {x y : Expr} {ts rest : List Token} → GoesBin all n j x y ts rest → Within all m (unread_places x) → length ts ≤ m → Within all m (unread_places y)
    goes_bin_within bin_ends w h = w
    goes_bin_within (operator p q r d g) w h =
        goes_bin_within g (rw (← expr.rolls-Binary, fold-roll-Expr) (both w (grown (bin_within d) (omega arith)))) (still (of_bin all d) (omega arith))
    goes_bin_within (typing p q r g) w h = goes_bin_within g (rw (← expr.rolls-Typed, fold-roll-Expr) w) (omega arith)

    pub unary_within : {x : Expr} {ts rest : List Token} → IsUnary all x ts rest → Within all (length ts) (unread_places x)
    unary_within (prefix {t = t} p d) = rw (← expr.rolls-Unary, fold-roll-Expr) (after (takes_one {t = t}) (unary_within d))
    unary_within (no_prefix d) = path_within d

    pub path_within : {x : Expr} {ts rest : List Token} → IsPath all x ts rest → Within all (length ts) (unread_places x)
    path_within (a_path d g) = goes_path_within g (primary_within d) (no_more (of_primary all d))

    pub goes_path_within : {n : ℕ} {x y : Expr} {ts rest : List Token} → GoesPath all x y ts rest → Within all n (unread_places x) → length ts ≤ n → Within all n (unread_places y)
    goes_path_within path_ends w h = w
    goes_path_within (suffix s g) w h = goes_path_within g (suffix_within s w h) (still (of_suffix all s) h)

    pub suffix_within : {n : ℕ} {x y : Expr} {ts rest : List Token} → IsSuffix all x y ts rest → Within all n (unread_places x) → length ts ≤ n → Within all n (unread_places y)
    suffix_within (a_member p d) w h = rw (← expr.rolls-Member, fold-roll-Expr) (both w (grown (member_name_within d) (omega arith)))
    suffix_within (a_field p q) w h = rw (← expr.rolls-Field, fold-roll-Expr) w
    suffix_within (postfix p) w h = rw (← expr.rolls-Unary, fold-roll-Expr) w
    suffix_within (index p d) w h = rw (← expr.rolls-Index, fold-roll-Expr) (both w (within (of_eats p) h (indexes_within d)))
    suffix_within (call {args = args} {fs = fs} p d f) w h = rw (← expr.rolls-Call, fold-roll-Expr)
        (both w (row arg_places args (plain all fs) (within (of_eats p) h (arguments_within d)) (within (then (of_eats p) (of_arguments all d)) h (closures_within f))))
    suffix_within (closures p c d) w h = rw (← expr.rolls-Call, fold-roll-Expr)
        (both w (both (rw (← arg.rolls-Plain, fold-roll-Arg) (grown (closure_within c) h)) (within (of_closure all c) h (closures_within d))))

    pub member_name_within : {l : Label} {ts rest : List Token} → IsMemberName all l ts rest → Within all (length ts) (label_places l)
    member_name_within (member_word p) = rw (← label.rolls-Name, fold-roll-Label) nowhere
    member_name_within (member_text p) = rw (← label.rolls-Text, fold-roll-Label) nowhere
    member_name_within (member_gstring d) = rw (← label.rolls-GString, fold-roll-Label) (gstring_within d)

    pub key_within : {k : Key} {ts rest : List Token} → IsKey all k ts rest → Within all (length ts) (key_places k)
    key_within (key_word p) = rw (← key.rolls-Label, fold-roll-Key, ← label.rolls-Name, fold-roll-Label) nowhere
    key_within (key_text p) = rw (← key.rolls-Label, fold-roll-Key, ← label.rolls-Text, fold-roll-Label) nowhere
    key_within (key_gstring d) = rw (← key.rolls-Label, fold-roll-Key, ← label.rolls-GString, fold-roll-Label) (gstring_within d)
    key_within (key_int p) = rw (← key.rolls-Int, fold-roll-Key) nowhere
    key_within (key_long p) = rw (← key.rolls-Long, fold-roll-Key) nowhere

    pub gstring_within : {g : GString} {ts rest : List Token} → IsGString all g ts rest → Within all (length ts) (gstring_places g)
    gstring_within (gstring p d) = rw fold-roll-GString (after (of_piece p) (parts_within d))

    pub parts_within : {f : Form} {ps : List Part} {ts rest : List Token} → AreParts all f ps ts rest → Within all (length ts) (all_found (map part_places ps))
    parts_within (last_part d p) = both (rw fold-roll-Part (part_within d)) nowhere
    parts_within (more_parts d p g) = both (rw fold-roll-Part (part_within d)) (after (then (of_part all d) (of_piece p)) (parts_within g))

    pub part_within : {f : Form} {v : Bool × Expr} {ts rest : List Token} → IsPart all f v ts rest → Within all (length ts) (unread_places v.1)
    part_within (eager d e) = expr_within d
    part_within (lazy a d e) = after (of_eats a) (expr_within d)
    part_within (names n g e) = names_within g (rw (← expr.rolls-Atom, fold-roll-Expr) nowhere)

    pub indexes_within : {xs : List Expr} {ts rest : List Token} → AreIndexes all xs ts rest → Within all (length ts) (all_found (map unread_places xs))
    indexes_within (last_index d c) = both (expr_within d) nowhere
    indexes_within (more_indexes d c g) = both (expr_within d) (after (then (of_expr all d) (of_eats c)) (indexes_within g))

    pub arguments_within : {args : List Arg} {ts rest : List Token} → AreArguments all args ts rest → Within all (length ts) (all_found (map arg_places args))
    arguments_within (no_argument p) = nowhere
    arguments_within (arguments d) = args_within d

    pub args_within : {args : List Arg} {ts rest : List Token} → AreArgs all args ts rest → Within all (length ts) (all_found (map arg_places args))
    args_within (last_arg d c) = both (arg_within d) nowhere
    args_within (more_args d c g) = both (arg_within d) (after (then (of_arg all d) (of_eats c)) (args_within g))

    pub arg_within : {a : Arg} {ts rest : List Token} → IsArg all a ts rest → Within all (length ts) (arg_places a)
    arg_within (plain_arg d) = rw (← arg.rolls-Plain, fold-roll-Arg) (expr_within d)
    arg_within (keyed_arg k c d) = rw (← arg.rolls-Keyed, fold-roll-Arg) (both (key_within k) (after (then (of_key all k) (of_eats c)) (expr_within d)))
    arg_within (spread_arg p d) = rw (← arg.rolls-Spread, fold-roll-Arg) (after (of_eats p) (unary_within d))
    arg_within (spread_map_arg p d) = rw (← arg.rolls-SpreadMap, fold-roll-Arg) (after (of_eats p) (unary_within d))

    pub elements_within : {items : List Item} {ts rest : List Token} → AreElements all items ts rest → Within all (length ts) (all_found (map item_places items))
    elements_within (no_element p) = nowhere
    elements_within (elements d) = items_within d

    pub items_within : {items : List Item} {ts rest : List Token} → AreItems all items ts rest → Within all (length ts) (all_found (map item_places items))
    items_within (last_item d c) = both (item_within d) nowhere
    items_within (item_comma d m c) = both (item_within d) nowhere
    items_within (more_items d c g) = both (item_within d) (after (then (of_item all d) (of_eats c)) (items_within g))

    pub item_within : {i : Item} {ts rest : List Token} → IsItem all i ts rest → Within all (length ts) (item_places i)
    item_within (plain_item d) = rw (← item.rolls-Plain, fold-roll-Item) (expr_within d)
    item_within (spread_item p d) = rw (← item.rolls-Spread, fold-roll-Item) (after (of_eats p) (unary_within d))

    pub entries_within : {ns : List Entry} {ts rest : List Token} → AreEntries all ns ts rest → Within all (length ts) (all_found (map entry_places ns))
    entries_within (last_entry d c) = both (entry_within d) nowhere
    entries_within (entry_comma d m c) = both (entry_within d) nowhere
    entries_within (more_entries d c g) = both (entry_within d) (after (then (of_entry all d) (of_eats c)) (entries_within g))

    pub entry_within : {n : Entry} {ts rest : List Token} → IsEntry all n ts rest → Within all (length ts) (entry_places n)
    entry_within (keyed_entry k c d) = rw (← entry.rolls-Keyed, fold-roll-Entry) (both (key_within k) (after (then (of_key all k) (of_eats c)) (expr_within d)))
    entry_within (computed_entry p d q c e) = rw (← entry.rolls-Computed, fold-roll-Entry)
        (both (after (of_eats p) (expr_within d)) (after (then (of_eats p) (then (of_expr all d) (then (of_eats q) (of_eats c)))) (expr_within e)))
    entry_within (spread_entry p d) = rw (← entry.rolls-Spread, fold-roll-Entry) (after (of_eats p) (unary_within d))

    pub primary_within : {x : Expr} {ts rest : List Token} → IsPrimary all x ts rest → Within all (length ts) (unread_places x)
    primary_within (an_atom p) = rw (← expr.rolls-Atom, fold-roll-Expr) nowhere
    primary_within (a_gstring d) = rw (← expr.rolls-GString, fold-roll-Expr) (gstring_within d)
    primary_within (parens p d q) = rw (← expr.rolls-Paren, fold-roll-Expr) (after (of_eats p) (expr_within d))
    primary_within (a_list p d) = rw (← expr.rolls-List, fold-roll-Expr) (after (of_eats p) (elements_within d))
    primary_within (empty_map p c q) = rw (← expr.rolls-Map, fold-roll-Expr) nowhere
    primary_within (a_map p d) = rw (← expr.rolls-Map, fold-roll-Expr) (after (of_eats p) (entries_within d))
    primary_within (a_closure d) = closure_within d
    primary_within (a_new p n o d) = rw (← expr.rolls-New, fold-roll-Expr) (after (then (of_keyword p) (then (of_as n) (of_eats o))) (arguments_within d))

  -- ---- commands and full expressions

  pub carg_within : {a : Arg} {ts rest : List Token} → IsCommandArg all a ts rest → Within all (length ts) (arg_places a)
  unfolding arg_places key_places unread_places
  carg_within (plain_carg d n) = rw (← arg.rolls-Plain, fold-roll-Arg) (cond_within d)
  carg_within (keyed_carg k c d) = rw (← arg.rolls-Keyed, fold-roll-Arg) (both (key_within k) (after (then (of_key all k) (of_eats c)) (cond_within d)))

  pub cargs_within : {args : List Arg} {ts rest : List Token} → AreCommandArgs all args ts rest → Within all (length ts) (all_found (map arg_places args))
  cargs_within (last_carg d n) = both (carg_within d) nowhere
  cargs_within (more_cargs d c g) = both (carg_within d) (after (then (of_carg all d) (of_eats c)) (cargs_within g))

  pub link_within : {n : ℕ} {x y : Expr} {ts rest : List Token} → IsLink all x y ts rest → Within all n (unread_places x) → length ts ≤ n → Within all n (unread_places y)
  unfolding unread_places arg_places
  link_within (link_args p b d) w h = rw (← expr.rolls-Call, fold-roll-Expr) (both (named _ _ _ _ w) (within (of_as p) h (cargs_within d)))
  link_within (link_call p b s) w h = suffix_within s (named _ _ _ _ w) (still (of_as p) h)

  pub property_within : {n : ℕ} {x y : Expr} {ts rest : List Token} → IsProperty all x y ts rest → Within all n (unread_places x) → Within all n (unread_places y)
  property_within (last_name p f g) w = named _ _ _ _ w

  pub goes_command_within : {n : ℕ} {x y : Expr} {ts rest : List Token} → GoesCommand all x y ts rest → Within all n (unread_places x) → length ts ≤ n → Within all n (unread_places y)
  goes_command_within (command_ends f) w h = w
  goes_command_within (command_link l g) w h = goes_command_within g (link_within l w h) (still (of_link all l) h)
  goes_command_within (command_name p) w h = property_within p w

  pub command_within : {x : Expr} {ts rest : List Token} → IsCommand all x ts rest → Within all (length ts) (unread_places x)
  unfolding unread_places arg_places
  command_within (with_args d e b c g) =
      goes_command_within g (rw (← expr.rolls-Call, fold-roll-Expr) (both (path_within d) (after (of_path all d) (cargs_within c)))) (no_more (then (of_path all d) (of_cargs all c)))
  command_within (with_link d e l g) = goes_command_within g (link_within l (path_within d) (no_more (of_path all d))) (no_more (then (of_path all d) (of_link all l)))
  command_within (with_name d e p) = property_within p (path_within d)

  pub full_within : {x : Expr} {ts rest : List Token} → IsFull all x ts rest → Within all (length ts) (unread_places x)
  unfolding unread_places
  full_within (full_cond d n) = cond_within d
  full_within (full_assign {t = t} d p q e) = rw (← expr.rolls-Assign, fold-roll-Expr) (both (cond_within d) (after (then (of_cond all d) (takes_one {t = t})) (full_within e)))
  full_within (full_command d) = command_within d
