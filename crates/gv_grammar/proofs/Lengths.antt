-- Each phrase takes tokens, from the front.
use Rattle.std.proofs.Common.{◌≡◌, ℕ, zero, suc, ◌+◌, ◌<◌, ◌≤◌, Bool, List, [], ◌∷◌, length, drop, refl, sym, ap, ◌∙◌, arith, Option}
use Rattle.std.proofs.lemmas.List.{length-drop}
use Rattle.std.proofs.Math.Seq.{drop-nil}
use Rattle.gv_spelling.specs.declared.kinds.Keyword.{Keyword}
use Rattle.gv_spelling.specs.declared.kinds.Symbol.{Symbol}
use Rattle.gv_lex.specs.declared.token.Piece.{Piece}
use Rattle.gv_lex.specs.declared.token.Part.{Part as Form}
use Rattle.gv_lex.specs.declared.token.Token.{Token}
use Rattle.gv_lex.specs.declared.token.TokenKind.{TokenKind}
use Rattle.gv_tree.specs.declared.expr.Arg.{Arg}
use Rattle.gv_tree.specs.declared.expr.Entry.{Entry}
use Rattle.gv_tree.specs.declared.expr.Expr.{Expr}
use Rattle.gv_tree.specs.declared.expr.GString.{GString}
use Rattle.gv_tree.specs.declared.expr.Item.{Item}
use Rattle.gv_tree.specs.declared.expr.Key.{Key}
use Rattle.gv_tree.specs.declared.expr.Label.{Label}
use Rattle.gv_tree.specs.declared.expr.Part.{Part}
use Rattle.gv_grammar.specs.Tokens.{Eats, eats, EatsKeyword, eats_keyword, EatsPiece, eats_piece, EatsEnd, eats_end, EatsAs, eats_as}
use Rattle.gv_grammar.specs.Phrases.{Takes}
use Rattle.gv_grammar.specs.Exprs.{open_behind, behind_texts, Matched, none, token, text, pair, IsClosure, unread, AreClosures, no_closure, one_closure, IsExpr, an_expr, GoesExpr, expr_ends, assigns, IsCond, a_cond, GoesCond, cond_ends, chooses, defaults, AreChoices, choices, IsBin, tightest, a_bin, GoesBin, bin_ends, operator, typing, IsUnary, prefix, no_prefix, IsPath, a_path, GoesPath, path_ends, suffix, IsSuffix, a_member, a_field, postfix, index, call, closures, IsMemberName, member_word, member_text, member_gstring, IsKey, key_word, key_text, key_gstring, key_int, key_long, IsGString, gstring, AreParts, last_part, more_parts, IsPart, eager, lazy, names, GoesNames, names_end, one_name, AreIndexes, last_index, more_indexes, AreArguments, no_argument, arguments, AreArgs, last_arg, more_args, IsArg, plain_arg, keyed_arg, spread_arg, spread_map_arg, AreElements, no_element, elements, AreItems, last_item, item_comma, more_items, IsItem, plain_item, spread_item, AreEntries, last_entry, entry_comma, more_entries, IsEntry, keyed_entry, computed_entry, spread_entry, IsPrimary, an_atom, a_gstring, parens, a_list, empty_map, a_map, a_closure, a_new}

-- ---- taking tokens

pub takes_none : {ts : List Token} → Takes 0 ts ts
takes_none = record { count = 0; enough = omega arith; within = omega arith; behind = refl }

pub takes_one : {t : Token} {ts : List Token} → Takes 1 (t ∷ ts) ts
takes_one = record { count = 1; enough = omega arith; within = omega arith; behind = refl }

drop-drop : {A : Type 0} (m n : ℕ) (xs : List A) → drop n (drop m xs) ≡ drop (m + n) xs
drop-drop zero n xs = let e : n ≡ zero + n = omega arith in ap (λ k. drop k xs) e
drop-drop (suc m) n [] = drop-nil n ∙ sym (drop-nil (suc m + n))
drop-drop (suc m) n (x ∷ xs) = let e : suc (m + n) ≡ suc m + n = omega arith in drop-drop m n xs ∙ ap (λ k. drop k (x ∷ xs)) e

pub then : {a b : ℕ} {ts us rest : List Token} → Takes a ts us → Takes b us rest → Takes a ts rest
then {ts = ts} p q =
    let e = ap length (p.behind) in
    let f = length-drop p.count ts in
    let g = p.within in
    let h = q.within in
    let i = p.enough in
    record {
      count = p.count + q.count;
      enough = omega arith;
      within = omega arith;
      behind = q.behind ∙ ap (drop q.count) (p.behind) ∙ drop-drop p.count q.count ts;
    }

-- as many as nothing asks for
pub weaken : {a : ℕ} {ts rest : List Token} → Takes a ts rest → Takes 0 ts rest
weaken p = record { count = p.count; enough = omega arith; within = p.within; behind = p.behind }

pub left : {a : ℕ} {ts rest : List Token} → Takes a ts rest → length rest + a ≤ length ts
left {ts = ts} p =
    let e = ap length (p.behind) in
    let f = length-drop p.count ts in
    let g = p.within in
    let h = p.enough in
    omega arith

-- what is left is shorter
pub less : {ts rest : List Token} → Takes 1 ts rest → length rest < length ts
less p = let e = left p in omega arith

pub no_more : {a : ℕ} {ts rest : List Token} → Takes a ts rest → length rest ≤ length ts
no_more p = let e = left p in omega arith

-- ---- the phrases

pub of_eats : {c : Symbol} {ts rest : List Token} → Eats c ts rest → Takes 1 ts rest
of_eats (eats p) = takes_one

pub of_keyword : {k : Keyword} {ts rest : List Token} → EatsKeyword k ts rest → Takes 1 ts rest
of_keyword (eats_keyword p) = takes_one

pub of_piece : {p : Piece} {n : ℕ} {ts rest : List Token} → EatsPiece p n ts rest → Takes 1 ts rest
of_piece (eats_piece p) = takes_one

pub of_end : {ts rest : List Token} → EatsEnd ts rest → Takes 1 ts rest
of_end (eats_end p) = takes_one

pub of_as : {A : Type 0} {of : TokenKind → Option A} {x : A} {ts rest : List Token} → EatsAs of x ts rest → Takes 1 ts rest
of_as (eats_as p) = takes_one

pub of_texts : (n : ℕ) (ts : List Token) → Takes 0 ts (behind_texts n ts)
of_texts zero ts = takes_none
of_texts (suc n) [] = takes_none
of_texts (suc n) (t ∷ ts) = weaken (then takes_one (of_texts (open_behind n t.kind) ts))

pub of_matched : {ts rest : List Token} → Matched ts rest → Takes 0 ts rest
of_matched (none p) = takes_none
of_matched (token p q r m) = weaken (then takes_one (of_matched m))
of_matched (text {ts = ts} p m) = weaken (then takes_one (then (of_texts 1 ts) (of_matched m)))
of_matched (pair p m c n) = weaken (then takes_one (then (of_matched m) (then (of_eats c) (of_matched n))))

module _ (all : ℕ) where
  pub of_closure : {x : Expr} {ts rest : List Token} → IsClosure all x ts rest → Takes 1 ts rest
  of_closure (unread o m c) = then (of_eats o) (then (of_matched m) (of_eats c))

  pub of_closures : {xs : List Expr} {ts rest : List Token} → AreClosures all xs ts rest → Takes 0 ts rest
  of_closures (no_closure p) = takes_none
  of_closures (one_closure c cs) = weaken (then (of_closure c) (of_closures cs))

  pub of_names : {x y : Expr} {ts rest : List Token} → GoesNames all x y ts rest → Takes 0 ts rest
  of_names names_end = takes_none
  of_names (one_name d n g) = weaken (then (of_eats d) (then (of_as n) (of_names g)))

  mutual
    pub of_expr : {x : Expr} {ts rest : List Token} → IsExpr all x ts rest → Takes 1 ts rest
    of_expr (an_expr d g) = then (of_cond d) (of_goes_expr g)

    pub of_goes_expr : {x y : Expr} {ts rest : List Token} → GoesExpr all x y ts rest → Takes 0 ts rest
    of_goes_expr expr_ends = takes_none
    of_goes_expr (assigns p q d) = weaken (then takes_one (of_expr d))

    pub of_cond : {x : Expr} {ts rest : List Token} → IsCond all x ts rest → Takes 1 ts rest
    of_cond (a_cond d g) = then (of_bin d) (of_goes_cond g)

    pub of_goes_cond : {x y : Expr} {ts rest : List Token} → GoesCond all x y ts rest → Takes 0 ts rest
    of_goes_cond cond_ends = takes_none
    of_goes_cond (chooses q d) = weaken (then (of_eats q) (of_choices d))
    of_goes_cond (defaults q d) = weaken (then (of_eats q) (of_cond d))

    pub of_choices : {p : Expr × Expr} {ts rest : List Token} → AreChoices all p ts rest → Takes 1 ts rest
    of_choices (choices d c f) = then (of_expr d) (then (of_eats c) (of_expr f))

    pub of_bin : {n : ℕ} {x : Expr} {ts rest : List Token} → IsBin all n x ts rest → Takes 1 ts rest
    of_bin (tightest d) = of_unary d
    of_bin (a_bin d g) = then (of_bin d) (of_goes_bin g)

    pub of_goes_bin : {n : ℕ} {j : Bool} {x y : Expr} {ts rest : List Token} → GoesBin all n j x y ts rest → Takes 0 ts rest
    of_goes_bin bin_ends = takes_none
    of_goes_bin (operator p q r d g) = weaken (then takes_one (then (of_bin d) (of_goes_bin g)))
    of_goes_bin (typing p q r g) = weaken (then takes_one (then takes_one (of_goes_bin g)))

    pub of_unary : {x : Expr} {ts rest : List Token} → IsUnary all x ts rest → Takes 1 ts rest
    of_unary (prefix p d) = then takes_one (of_unary d)
    of_unary (no_prefix d) = of_path d

    pub of_path : {x : Expr} {ts rest : List Token} → IsPath all x ts rest → Takes 1 ts rest
    of_path (a_path d g) = then (of_primary d) (of_goes_path g)

    pub of_goes_path : {x y : Expr} {ts rest : List Token} → GoesPath all x y ts rest → Takes 0 ts rest
    of_goes_path path_ends = takes_none
    of_goes_path (suffix s g) = weaken (then (of_suffix s) (of_goes_path g))

    pub of_suffix : {x y : Expr} {ts rest : List Token} → IsSuffix all x y ts rest → Takes 1 ts rest
    of_suffix (a_member p d) = then takes_one (of_member_name d)
    of_suffix (a_field p q) = then (of_eats p) (of_as q)
    of_suffix (postfix p) = takes_one
    of_suffix (index p d) = then (of_eats p) (of_indexes d)
    of_suffix (call p d f) = then (of_eats p) (then (of_arguments d) (of_closures f))
    of_suffix (closures p c d) = then (of_closure c) (of_closures d)

    pub of_member_name : {l : Label} {ts rest : List Token} → IsMemberName all l ts rest → Takes 1 ts rest
    of_member_name (member_word p) = of_as p
    of_member_name (member_text p) = of_as p
    of_member_name (member_gstring d) = of_gstring d

    pub of_key : {k : Key} {ts rest : List Token} → IsKey all k ts rest → Takes 1 ts rest
    of_key (key_word p) = of_as p
    of_key (key_text p) = of_as p
    of_key (key_gstring d) = of_gstring d
    of_key (key_int p) = takes_one
    of_key (key_long p) = takes_one

    pub of_gstring : {g : GString} {ts rest : List Token} → IsGString all g ts rest → Takes 1 ts rest
    of_gstring (gstring p d) = then (of_piece p) (of_parts d)

    pub of_parts : {f : Form} {ps : List Part} {ts rest : List Token} → AreParts all f ps ts rest → Takes 1 ts rest
    of_parts (last_part d p) = then (of_part d) (of_piece p)
    of_parts (more_parts d p g) = then (of_part d) (then (of_piece p) (of_parts g))

    pub of_part : {f : Form} {v : Bool × Expr} {ts rest : List Token} → IsPart all f v ts rest → Takes 1 ts rest
    of_part (eager d e) = then (of_expr d) (of_end e)
    of_part (lazy a d e) = then (of_eats a) (then (of_expr d) (of_end e))
    of_part (names n g e) = then (of_as n) (then (of_names g) (of_end e))

    pub of_indexes : {xs : List Expr} {ts rest : List Token} → AreIndexes all xs ts rest → Takes 1 ts rest
    of_indexes (last_index d c) = then (of_expr d) (of_eats c)
    of_indexes (more_indexes d c g) = then (of_expr d) (then (of_eats c) (of_indexes g))

    pub of_arguments : {args : List Arg} {ts rest : List Token} → AreArguments all args ts rest → Takes 1 ts rest
    of_arguments (no_argument p) = of_eats p
    of_arguments (arguments d) = of_args d

    pub of_args : {args : List Arg} {ts rest : List Token} → AreArgs all args ts rest → Takes 1 ts rest
    of_args (last_arg d c) = then (of_arg d) (of_eats c)
    of_args (more_args d c g) = then (of_arg d) (then (of_eats c) (of_args g))

    pub of_arg : {a : Arg} {ts rest : List Token} → IsArg all a ts rest → Takes 1 ts rest
    of_arg (plain_arg d) = of_expr d
    of_arg (keyed_arg k c d) = then (of_key k) (then (of_eats c) (of_expr d))
    of_arg (spread_arg p d) = then (of_eats p) (of_unary d)
    of_arg (spread_map_arg p d) = then (of_eats p) (of_unary d)

    pub of_elements : {items : List Item} {ts rest : List Token} → AreElements all items ts rest → Takes 1 ts rest
    of_elements (no_element p) = of_eats p
    of_elements (elements d) = of_items d

    pub of_items : {items : List Item} {ts rest : List Token} → AreItems all items ts rest → Takes 1 ts rest
    of_items (last_item d c) = then (of_item d) (of_eats c)
    of_items (item_comma d m c) = then (of_item d) (then (of_eats m) (of_eats c))
    of_items (more_items d c g) = then (of_item d) (then (of_eats c) (of_items g))

    pub of_item : {i : Item} {ts rest : List Token} → IsItem all i ts rest → Takes 1 ts rest
    of_item (plain_item d) = of_expr d
    of_item (spread_item p d) = then (of_eats p) (of_unary d)

    pub of_entries : {ns : List Entry} {ts rest : List Token} → AreEntries all ns ts rest → Takes 1 ts rest
    of_entries (last_entry d c) = then (of_entry d) (of_eats c)
    of_entries (entry_comma d m c) = then (of_entry d) (then (of_eats m) (of_eats c))
    of_entries (more_entries d c g) = then (of_entry d) (then (of_eats c) (of_entries g))

    pub of_entry : {n : Entry} {ts rest : List Token} → IsEntry all n ts rest → Takes 1 ts rest
    of_entry (keyed_entry k c d) = then (of_key k) (then (of_eats c) (of_expr d))
    of_entry (computed_entry p d q c f) = then (of_eats p) (then (of_expr d) (then (of_eats q) (then (of_eats c) (of_expr f))))
    of_entry (spread_entry p d) = then (of_eats p) (of_unary d)

    pub of_primary : {x : Expr} {ts rest : List Token} → IsPrimary all x ts rest → Takes 1 ts rest
    of_primary (an_atom p) = takes_one
    of_primary (a_gstring d) = of_gstring d
    of_primary (parens p d q) = then (of_eats p) (then (of_expr d) (of_eats q))
    of_primary (a_list p d) = then (of_eats p) (of_elements d)
    of_primary (empty_map p c q) = then (of_eats p) (then (of_eats c) (of_eats q))
    of_primary (a_map p d) = then (of_eats p) (of_entries d)
    of_primary (a_closure d) = of_closure d
    of_primary (a_new p n o d) = then (of_keyword p) (then (of_as n) (then (of_eats o) (of_arguments d)))
