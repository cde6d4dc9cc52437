-- Two readings of one list of tokens are one, or one of them goes on where the other ends.
use Rattle.std.proofs.Common.{◌≡◌, ℕ, suc, ◌<◌, ◌≤◌, Bool, true, false, ◌||◌, List, [], ◌∷◌, ◌++◌, length, refl, sym, ap, subst, arith, Option, Some, None, ◌∙◌}
use Rattle.gv_base.specs.declared.refusal.Place.{Place}
use Rattle.gv_spelling.specs.declared.kinds.Symbol.TheVariants as symbol
use Rattle.gv_lex.specs.declared.token.Part.{Part as Form}
use Rattle.gv_lex.specs.declared.token.Piece.TheVariants as piece
use Rattle.gv_lex.specs.declared.token.Token.{Token}
use Rattle.gv_lex.specs.declared.token.TokenKind.{TokenKind}
use Rattle.gv_lex.specs.declared.token.TokenKind.TheVariants as kind
use Rattle.gv_tree.specs.declared.expr.Arg.{Arg}
use Rattle.gv_tree.specs.declared.expr.Arg.TheVariants as arg
use Rattle.gv_tree.specs.declared.expr.Atom.TheVariants as atom
use Rattle.gv_tree.specs.declared.expr.Entry.{Entry}
use Rattle.gv_tree.specs.declared.expr.Entry.TheVariants as entry
use Rattle.gv_tree.specs.declared.expr.Expr.{Expr, out-Expr}
use denote.Hole.Carrier.{out}
use Rattle.gv_tree.specs.declared.expr.Expr.TheVariants as expr
use Rattle.gv_tree.specs.declared.expr.GString.{GString, roll-GString}
use Rattle.gv_tree.specs.declared.expr.Item.{Item}
use Rattle.gv_tree.specs.declared.expr.Item.TheVariants as item
use Rattle.gv_tree.specs.declared.expr.Key.{Key}
use Rattle.gv_tree.specs.declared.expr.Key.TheVariants as key
use Rattle.gv_tree.specs.declared.expr.Label.{Label}
use Rattle.gv_tree.specs.declared.expr.Label.TheVariants as label
use Rattle.gv_tree.specs.declared.expr.Part.{Part, roll-Part}
use Rattle.gv_tree.specs.declared.ops.MemberOp.TheVariants as member
use Rattle.gv_grammar.specs.Tokens.{Eats, EatsPiece, EatsEnd, EatsAs, kind_of, place_of, name_of, type_name_of, ident, joins_once, reach}
use Rattle.gv_grammar.specs.Meeting.{Meet, one, first_goes_on, second_goes_on, Level, Goes, CondGoes, Same}
use Rattle.gv_grammar.specs.Exprs.{is_target, plain, AreClosures, IsExpr, an_expr, GoesExpr, expr_ends, assigns, IsCond, a_cond, GoesCond, cond_ends, chooses, defaults, AreChoices, choices, IsBin, tightest, a_bin, GoesBin, bin_ends, operator, typing, IsUnary, prefix, no_prefix, IsPath, a_path, GoesPath, path_ends, suffix, IsSuffix, a_member, a_field, postfix, index, call, closures, IsMemberName, member_word, member_text, member_gstring, IsKey, key_word, key_text, key_gstring, key_int, key_long, IsGString, gstring, AreParts, last_part, more_parts, IsPart, eager, lazy, names, GoesNames, names_end, one_name, AreIndexes, last_index, more_indexes, AreArguments, no_argument, arguments, AreArgs, last_arg, more_args, IsArg, plain_arg, keyed_arg, spread_arg, spread_map_arg, AreElements, no_element, elements, AreItems, last_item, item_comma, more_items, IsItem, plain_item, spread_item, AreEntries, last_entry, entry_comma, more_entries, IsEntry, keyed_entry, computed_entry, spread_entry, IsPrimary, an_atom, a_gstring, parens, a_list, empty_map, a_map, a_closure, a_new}
use Rattle.gv_grammar.proofs.Lengths.{less, no_more, of_expr, of_goes_expr, of_cond, of_goes_cond, of_choices, of_bin, of_goes_bin, of_goes_path, of_suffix, of_eats}
use Rattle.gv_grammar.proofs.Single.{ap2, along, along2, kind_eaten, end_eaten, same_rest, eaten_same, as_same, piece_same, keyword_same, end_same, apart}
use Rattle.gv_grammar.proofs.Closures.{closure_once, closures_once}
use Rattle.gv_grammar.proofs.Firsts.{class_prefix, key_class, key_below, spread_class, primary_first, number_below, expr_spread, key_spread, key_first, member_first, suffix_first, suffix_reach, arg_first, args_below, item_first, items_below, entry_first, entry_below, entries_below}
use Rattle.gv_grammar.proofs.Tails.{reach_operator, reach_typing, operator_or_typing, reach_assign, Stops, at_comma, at_colon, at_paren, at_bracket, at_end, ended, Ended, ended_comma, ended_paren, ended_bracket, not_colon, inner_of, leading_of, key_apart, string_expr, parens_expr}

-- ---- meetings

pub choice_no_target : (p : Place) (x z : Expr) (y : Option Expr) → is_target (expr.Choice p x y z) ≡ false
unfolding is_target out-Expr out
choice_no_target p x z y = refl

cond_goes : {x : Expr} (c : TokenKind) {ts : List Token} → kind_of ts ≡ c → reach c ≤ 11 → CondGoes x ts
cond_goes c p h = let e = ap reach p in record { within = omega arith; target = λ _. omega arith }

-- a condition, which is no target, ends where an expression in it would go on
in_cond : {y : Expr} {ts : List Token} → is_target y ≡ false → Goes 12 ts → CondGoes y ts
in_cond {y = y} p g = record { within = g.by; target = λ q. cc }

-- readings that end at one place
pub same_tree : {A : Type 0} {P : A → List Token → Type 0} {x y : A} {rest : List Token} → Meet P x rest y rest → x ≡ y
same_tree (one p q) = p
same_tree (first_goes_on p q) = absurd (omega arith)
same_tree (second_goes_on p q) = absurd (omega arith)

-- the same under a constructor
pub under : {A B : Type 0} {P : A → List Token → Type 0} {Q : B → List Token → Type 0} {x y : A} {a b : B} {ts us : List Token}
    → (P x ts → Q a ts) → (P y us → Q b us) → (x ≡ y → a ≡ b) → Meet P x ts y us → Meet Q a ts b us
under g h f (one p q) = one (f p) q
under g h f (first_goes_on p q) = first_goes_on (h p) q
under g h f (second_goes_on p q) = second_goes_on (g p) q

-- a head and what it goes on with
pub joins : {A B : Type 0} {P : A → List Token → Type 0} {Q : B → List Token → Type 0} {x x' : A} {us us' : List Token} {y y' : B} {rest rest' : List Token}
    → Meet P x us x' us' → (x ≡ x' → us ≡ us' → Meet Q y rest y' rest')
    → (P x us → (rest ≡ us) × Q y us) → (P x' us' → (rest' ≡ us') × Q y' us') → length rest ≤ length us → length rest' ≤ length us' → Meet Q y rest y' rest'
joins (one p q) continue f g a b = continue p q
joins {Q = Q} {us' = vs} {y' = z} {rest' = zs} (first_goes_on p q) continue f g a b =
    let e = g p in
    let l = ap length (e.0) in
    first_goes_on (subst (Q z) (sym (e.0)) (e.1)) (omega arith)
joins {Q = Q} {us = vs} {y = z} {rest = zs} (second_goes_on p q) continue f g a b =
    let e = f p in
    let l = ap length (e.0) in
    second_goes_on (subst (Q z) (sym (e.0)) (e.1)) (omega arith)

abbrev pub part_of : Bool × Expr → ℕ → Part
part_of v n = roll-Part (record { is_lazy = v.0; value = v.1; behind = n })

abbrev pub gstring_of : ℕ → List Part → GString
gstring_of n ps = roll-GString (record { head = n; parts = ps })

module _ (all : ℕ) where
  -- ---- what ends, where a looser phrase would go on

  pub expr_stops : {x y : Expr} {us rest : List Token} → GoesExpr all x y us rest → CondGoes x us → (rest ≡ us) × Goes 12 us
  expr_stops expr_ends g = (refl, record { by = g.within })
  expr_stops (assigns {t = t} p q d) g = let e = reach_assign t.kind p in let i = g.target q in absurd (omega arith)

  pub cond_stops : {x y : Expr} {us rest : List Token} → GoesCond all x y us rest → Goes 10 us → (rest ≡ us) × CondGoes y us
  cond_stops cond_ends g = let i = g.by in (refl, record { within = omega arith; target = λ _. omega arith })
  cond_stops (chooses q d) g = let e = ap reach (kind_eaten q) in let i = g.by in absurd (omega arith)
  cond_stops (defaults q d) g = let e = ap reach (kind_eaten q) in let i = g.by in absurd (omega arith)

  pub bin_stops : {n : ℕ} {j : Bool} {x y : Expr} {us rest : List Token} → GoesBin all n j x y us rest → Goes n us → (rest ≡ us) × Goes (suc n) us
  bin_stops bin_ends g = let i = g.by in (refl, record { by = omega arith })
  bin_stops (operator {t = t} p q r d h) g = let e = reach_operator t.kind p in let i = g.by in absurd (omega arith)
  bin_stops (typing {t = t} p q r h) g = let e = reach_typing t.kind p in let i = g.by in absurd (omega arith)

  goes_path : {x y z : Expr} {ts us rest : List Token} → IsSuffix all x y ts us → GoesPath all y z us rest → Goes 0 ts × (length rest < length ts)
  goes_path s g = let a = less (of_suffix all s) in let b = no_more (of_goes_path all g) in let c = suffix_reach all s in (record { by = omega arith }, omega arith)

  -- ---- names of a part

  names_once : {x y z : Expr} {ts us vs rest after : List Token} → GoesNames all x y ts us → EatsEnd us rest → GoesNames all x z ts vs → EatsEnd vs after → Same y us z vs
  names_once names_end e names_end e2 = record { tree = refl; rest = refl }
  names_once names_end e (one_name d n g) e2 = let a = end_eaten e in let b = kind_eaten d in cc
  names_once (one_name d n g) e names_end e2 = let a = end_eaten e2 in let b = kind_eaten d in cc
  names_once {x = x} {ts = ts} (one_name d n g) e (one_name {y = z} {n = m} {vs = vs} {rest = r} d2 n2 g2) e2 =
      let h = same_rest d d2 in
      let a = as_same n (along (λ zs. EatsAs name_of m zs vs) h n2) in
      let i = ap2 (λ zs w. expr.Member (place_of ts) member.Dot x (label.Name (ident (place_of zs) w))) h (a.tree) in
      names_once g e (along2 (λ w zs. GoesNames all w z zs r) i (a.rest) g2) e2

  -- the first of some elements, and that they end behind it
  record FirstItem (ts : List Token) : Type 0 where
    tree : Item
    rest : List Token
    first : IsItem all tree ts rest
    ends : Ended rest

  first_item : {items : List Item} {ts rest : List Token} → AreItems all items ts rest → FirstItem ts
  first_item (last_item d c) = record { tree = _; rest = _; first = d; ends = ended_bracket c }
  first_item (item_comma d m c) = record { tree = _; rest = _; first = d; ends = ended_comma m }
  first_item (more_items d m g) = record { tree = _; rest = _; first = d; ends = ended_comma m }

  -- before a token that begins one
  first_element : {items : List Item} {ts rest : List Token} → AreElements all items ts rest → spread_class (kind_of ts) < 3 → FirstItem ts
  first_element (no_element p) h = let b = ap spread_class (kind_eaten p) in absurd (omega arith)
  first_element (elements d) h = first_item d

  record FirstEntry (ts : List Token) : Type 0 where
    tree : Entry
    rest : List Token
    first : IsEntry all tree ts rest

  first_entry : {ns : List Entry} {ts rest : List Token} → AreEntries all ns ts rest → FirstEntry ts
  first_entry (last_entry d c) = record { tree = _; rest = _; first = d }
  first_entry (entry_comma d m c) = record { tree = _; rest = _; first = d }
  first_entry (more_entries d m g) = record { tree = _; rest = _; first = d }

  pub elements_or_colon : {xs : List Item} {ts us rest after : List Token} → ts ≡ us → AreElements all xs ts rest → Eats symbol.Colon us after → ⊥
  elements_or_colon e (no_element p) c = let a = apart e p c in cc
  elements_or_colon e (elements d) c = let a = items_below all d in let b = ap spread_class (kind_eaten c) in let h = ap (λ zs. spread_class (kind_of zs)) e in omega arith

  pub entries_or_colon : {xs : List Entry} {ts us rest after : List Token} → ts ≡ us → AreEntries all xs ts rest → Eats symbol.Colon us after → ⊥
  entries_or_colon e d c = let a = entries_below all d in let b = ap spread_class (kind_eaten c) in let h = ap (λ zs. spread_class (kind_of zs)) e in omega arith

  mutual
    pub meet_expr : {x y : Expr} {ts us vs : List Token} → IsExpr all x ts us → IsExpr all y ts vs → Meet (Level 12) x us y vs
    meet_expr (an_expr d g) (an_expr {y = z} {rest = ws} d2 g2) =
        joins (meet_cond d d2) (λ p q. meet_goes_expr g (along2 (λ c cs. GoesExpr all c z cs ws) p q g2))
        (expr_stops g) (expr_stops g2) (no_more (of_goes_expr all g)) (no_more (of_goes_expr all g2))

    meet_goes_expr : {x y z : Expr} {us rest rest' : List Token} → GoesExpr all x y us rest → GoesExpr all x z us rest' → Meet (Level 12) y rest z rest'
    meet_goes_expr expr_ends expr_ends = one refl refl
    meet_goes_expr expr_ends (assigns {t = t} p q d) = let a = less (of_expr all d) in let e = reach_assign t.kind p in second_goes_on (record { by = omega arith }) (omega arith)
    meet_goes_expr (assigns {t = t} p q d) expr_ends = let a = less (of_expr all d) in let e = reach_assign t.kind p in first_goes_on (record { by = omega arith }) (omega arith)
    meet_goes_expr {x = x} (assigns {t = t} {op = o} p q d) (assigns {op = o2} p2 q2 d2) =
        let h : o ≡ o2 = cc in under (λ i. i) (λ i. i) (λ r. ap2 (λ w v. expr.Assign t.place w x v) h r) (meet_expr d d2)

    pub meet_cond : {x y : Expr} {ts us vs : List Token} → IsCond all x ts us → IsCond all y ts vs → Meet CondGoes x us y vs
    meet_cond (a_cond d g) (a_cond {y = z} {rest = ws} d2 g2) =
        joins (meet_bin d d2) (λ p q. meet_goes_cond g (along2 (λ c cs. GoesCond all c z cs ws) p q g2))
        (cond_stops g) (cond_stops g2) (no_more (of_goes_cond all g)) (no_more (of_goes_cond all g2))

    meet_goes_cond : {x y z : Expr} {us rest rest' : List Token} → GoesCond all x y us rest → GoesCond all x z us rest' → Meet CondGoes y rest z rest'
    meet_goes_cond cond_ends cond_ends = one refl refl
    meet_goes_cond cond_ends (chooses q d) =
        let a = less (of_eats q) in let b = less (of_choices all d) in second_goes_on (cond_goes (kind.Symbol symbol.Question) (kind_eaten q) (omega arith)) (omega arith)
    meet_goes_cond cond_ends (defaults q d) =
        let a = less (of_eats q) in let b = less (of_cond all d) in second_goes_on (cond_goes (kind.Symbol symbol.Elvis) (kind_eaten q) (omega arith)) (omega arith)
    meet_goes_cond (chooses q d) cond_ends =
        let a = less (of_eats q) in let b = less (of_choices all d) in first_goes_on (cond_goes (kind.Symbol symbol.Question) (kind_eaten q) (omega arith)) (omega arith)
    meet_goes_cond (defaults q d) cond_ends =
        let a = less (of_eats q) in let b = less (of_cond all d) in first_goes_on (cond_goes (kind.Symbol symbol.Elvis) (kind_eaten q) (omega arith)) (omega arith)
    meet_goes_cond (chooses q d) (defaults q2 d2) = let a = apart refl q q2 in cc
    meet_goes_cond (defaults q d) (chooses q2 d2) = let a = apart refl q q2 in cc
    meet_goes_cond {x = x} {us = ts} (chooses {p = p} q d) (chooses {p = p2} {rest = r2} q2 d2) =
        under (in_cond (choice_no_target (place_of ts) x p.1 (Some p.0))) (in_cond (choice_no_target (place_of ts) x p2.1 (Some p2.0))) (λ r. ap (λ w. expr.Choice (place_of ts) x (Some w.0) w.1) r)
        (meet_choices d (along (λ zs. AreChoices all p2 zs r2) (same_rest q q2) d2))
    meet_goes_cond {x = x} {us = ts} (defaults {y = y} q d) (defaults {y = y2} {rest = r2} q2 d2) =
        under (λ i. in_cond (choice_no_target (place_of ts) x y None) (record { by = i.within })) (λ i. in_cond (choice_no_target (place_of ts) x y2 None) (record { by = i.within }))
        (λ r. ap (expr.Choice (place_of ts) x None) r) (meet_cond d (along (λ zs. IsCond all y2 zs r2) (same_rest q q2) d2))

    meet_choices : {x y : Expr × Expr} {ts us vs : List Token} → AreChoices all x ts us → AreChoices all y ts vs → Meet (λ _ zs. Goes 12 zs) x us y vs
    meet_choices (choices d c f) (choices {y = z2} {rest = r2} d2 c2 f2) =
        let a = ended (omega arith) (meet_expr d d2) (at_colon c) (at_colon c2) in
        under (λ i. i) (λ i. i) (λ r. ap2 (λ w v. (w, v)) (a.tree) r) (meet_expr f (along (λ zs. IsExpr all z2 zs r2) (eaten_same (a.rest) c c2) f2))

    pub meet_bin : {n : ℕ} {x y : Expr} {ts us vs : List Token} → IsBin all n x ts us → IsBin all n y ts vs → Meet (Level n) x us y vs
    meet_bin (tightest d) (tightest d2) = meet_unary d d2
    meet_bin {n = suc n} (a_bin d g) (a_bin {y = z} {rest = ws} d2 g2) =
        joins (meet_bin d d2) (λ p q. meet_goes_bin g (along2 (λ c cs. GoesBin all n false c z cs ws) p q g2))
        (bin_stops g) (bin_stops g2) (no_more (of_goes_bin all g)) (no_more (of_goes_bin all g2))

    meet_goes_bin : {n : ℕ} {j : Bool} {x y z : Expr} {us rest rest' : List Token} → GoesBin all n j x y us rest → GoesBin all n j x z us rest' → Meet (Level (suc n)) y rest z rest'
    meet_goes_bin bin_ends bin_ends = one refl refl
    meet_goes_bin bin_ends (operator {t = t} p q r d g) =
        let a = less (of_bin all d) in let b = no_more (of_goes_bin all g) in let i = reach_operator t.kind p in second_goes_on (record { by = omega arith }) (omega arith)
    meet_goes_bin bin_ends (typing {t = t} p q r g) =
        let b = no_more (of_goes_bin all g) in let i = reach_typing t.kind p in second_goes_on (record { by = omega arith }) (omega arith)
    meet_goes_bin (operator {t = t} p q r d g) bin_ends =
        let a = less (of_bin all d) in let b = no_more (of_goes_bin all g) in let i = reach_operator t.kind p in first_goes_on (record { by = omega arith }) (omega arith)
    meet_goes_bin (typing {t = t} p q r g) bin_ends =
        let b = no_more (of_goes_bin all g) in let i = reach_typing t.kind p in first_goes_on (record { by = omega arith }) (omega arith)
    meet_goes_bin (operator p q r d g) (typing p2 q2 r2 g2) = absurd (operator_or_typing _ p p2)
    meet_goes_bin (typing p q r g) (operator p2 q2 r2 d2 g2) = absurd (operator_or_typing _ p2 p)
    meet_goes_bin {n = n} {j = j} {x = x} (operator {op = o} {y = y} {t = t} p q r d g) (operator {op = o2} {y = y2} {z = z2} {us = us2} {rest = r2} p2 q2 s2 d2 g2) =
        let h : o ≡ o2 = cc in
        joins (meet_bin d d2)
        (λ a b. meet_goes_bin g (along (λ zs. GoesBin all n (j || joins_once o) (expr.Binary t.place o x y) z2 zs r2) b
        (subst (λ w. GoesBin all n (j || joins_once w) (expr.Binary t.place w x y) z2 us2 r2) (sym h)
        (subst (λ w. GoesBin all n (j || joins_once o2) (expr.Binary t.place o2 x w) z2 us2 r2) (sym a) g2))))
        (bin_stops g) (bin_stops g2) (no_more (of_goes_bin all g)) (no_more (of_goes_bin all g2))
    meet_goes_bin {n = n} {x = x} (typing {op = o} {type = type} {t = t} {us = us} p q r g) (typing {op = o2} {z = z2} {type = type2} {rest = r2} p2 q2 s2 g2) =
        let h : o ≡ o2 = cc in
        let i : type ≡ type2 = cc in
        meet_goes_bin g (subst (λ w. GoesBin all n true w z2 us r2) (sym (ap2 (λ w v. expr.Typed t.place w x v) h i)) g2)

    pub meet_unary : {x y : Expr} {ts us vs : List Token} → IsUnary all x ts us → IsUnary all y ts vs → Meet (Level 0) x us y vs
    meet_unary (prefix {op = o} {t = t} p d) (prefix {op = o2} p2 d2) = let h : o ≡ o2 = cc in under (λ i. i) (λ i. i) (λ r. ap2 (λ w v. expr.Unary t.place w v) h r) (meet_unary d d2)
    meet_unary (prefix {t = t} p d) (no_prefix (a_path d2 g2)) = let a = class_prefix t.kind p in let b = primary_first all d2 in let c = number_below all d2 in absurd (omega arith)
    meet_unary (no_prefix (a_path d g)) (prefix {t = t} p2 d2) = let a = class_prefix t.kind p2 in let b = primary_first all d in let c = number_below all d in absurd (omega arith)
    meet_unary (no_prefix d) (no_prefix d2) = meet_path d d2

    pub meet_path : {x y : Expr} {ts us vs : List Token} → IsPath all x ts us → IsPath all y ts vs → Meet (Level 0) x us y vs
    meet_path (a_path d g) (a_path {y = z} {rest = ws} d2 g2) =
        let a = meet_primary d d2 in meet_goes_path g (along2 (λ c cs. GoesPath all c z cs ws) (a.tree) (a.rest) g2)

    pub meet_goes_path : {x y z : Expr} {us rest rest' : List Token} → GoesPath all x y us rest → GoesPath all x z us rest' → Meet (Level 0) y rest z rest'
    meet_goes_path path_ends path_ends = one refl refl
    meet_goes_path path_ends (suffix s g) = let a = goes_path s g in second_goes_on (a.0) (a.1)
    meet_goes_path (suffix s g) path_ends = let a = goes_path s g in first_goes_on (a.0) (a.1)
    meet_goes_path (suffix s g) (suffix {z = z} {rest = ws} s2 g2) =
        let a = meet_suffix s s2 in meet_goes_path g (along2 (λ c cs. GoesPath all c z cs ws) (a.tree) (a.rest) g2)

    pub meet_suffix : {x y z : Expr} {ts us vs : List Token} → IsSuffix all x y ts us → IsSuffix all x z ts vs → Same y us z vs
    meet_suffix {x = x} (a_member {op = o} {t = t} p d) (a_member {op = o2} p2 d2) =
        let h : o ≡ o2 = cc in
        let a = meet_member_name d d2 in
        record { tree = ap2 (λ w v. expr.Member t.place w x v) h (a.tree); rest = a.rest }
    meet_suffix {x = x} {ts = ts} (a_field p q) (a_field {n = n2} {rest = r2} p2 q2) =
        let h = same_rest p p2 in
        let a = as_same q (along (λ zs. EatsAs name_of n2 zs r2) h q2) in
        record { tree = ap2 (λ zs w. expr.Field (place_of ts) x (ident (place_of zs) w)) h (a.tree); rest = a.rest }
    meet_suffix {x = x} (postfix {op = o} {t = t} p) (postfix {op = o2} p2) =
        let h : o ≡ o2 = cc in record { tree = ap (λ w. expr.Unary t.place w x) h; rest = refl }
    meet_suffix {x = x} {ts = ts} (index p d) (index {es = es2} {rest = r2} p2 d2) =
        let a = meet_indexes d (along (λ zs. AreIndexes all es2 zs r2) (same_rest p p2) d2) in
        record { tree = ap (expr.Index (place_of ts) x) (a.tree); rest = a.rest }
    meet_suffix {x = x} {ts = ts} (call p d f) (call {args = args2} {fs = fs2} {vs = vs2} {rest = r2} p2 d2 f2) =
        let a = meet_arguments d (along (λ zs. AreArguments all args2 zs vs2) (same_rest p p2) d2) in
        let b = closures_once all f (along (λ zs. AreClosures all fs2 zs r2) (a.rest) f2) in
        record { tree = ap2 (λ v w. expr.Call (place_of ts) x (v ++ plain all w)) (a.tree) (b.tree); rest = b.rest }
    meet_suffix {x = x} {ts = ts} (closures p c d) (closures {fs = fs2} {rest = r2} p2 c2 d2) =
        let a = closure_once all c c2 in
        let b = closures_once all d (along (λ zs. AreClosures all fs2 zs r2) (a.rest) d2) in
        record { tree = ap2 (λ v w. expr.Call (place_of ts) x (plain all (v ∷ w))) (a.tree) (b.tree); rest = b.rest }
    meet_suffix s s2 = let a = suffix_first all s in let b = suffix_first all s2 in absurd (omega arith)

    pub meet_member_name : {x y : Label} {ts us vs : List Token} → IsMemberName all x ts us → IsMemberName all y ts vs → Same x us y vs
    meet_member_name {ts = ts} (member_word p) (member_word p2) =
        let a = as_same p p2 in record { tree = ap (λ w. label.Name (ident (place_of ts) w)) (a.tree); rest = a.rest }
    meet_member_name {ts = ts} (member_text p) (member_text p2) =
        let a = as_same p p2 in record { tree = ap (λ w. label.Text (ident (place_of ts) w)) (a.tree); rest = a.rest }
    meet_member_name {ts = ts} (member_gstring d) (member_gstring d2) =
        let a = meet_gstring d d2 in record { tree = ap (label.GString (place_of ts)) (a.tree); rest = a.rest }
    meet_member_name d d2 = let a = member_first all d in let b = member_first all d2 in absurd (omega arith)

    pub meet_key : {x y : Key} {ts us vs : List Token} → IsKey all x ts us → IsKey all y ts vs → Same x us y vs
    meet_key {ts = ts} (key_word p) (key_word p2) =
        let a = as_same p p2 in record { tree = ap (λ w. key.Label (label.Name (ident (place_of ts) w))) (a.tree); rest = a.rest }
    meet_key {ts = ts} (key_text p) (key_text p2) =
        let a = as_same p p2 in record { tree = ap (λ w. key.Label (label.Text (ident (place_of ts) w))) (a.tree); rest = a.rest }
    meet_key {ts = ts} (key_gstring d) (key_gstring d2) =
        let a = meet_gstring d d2 in record { tree = ap (λ w. key.Label (label.GString (place_of ts) w)) (a.tree); rest = a.rest }
    meet_key (key_int {z = z} {t = t} p) (key_int {z = z2} p2) = let h : z ≡ z2 = cc in record { tree = ap (key.Int t.place) h; rest = refl }
    meet_key (key_long {z = z} {t = t} p) (key_long {z = z2} p2) = let h : z ≡ z2 = cc in record { tree = ap (key.Long t.place) h; rest = refl }
    meet_key d d2 = let a = key_first all d in let b = key_first all d2 in absurd (omega arith)

    pub meet_gstring : {x y : GString} {ts us vs : List Token} → IsGString all x ts us → IsGString all y ts vs → Same x us y vs
    meet_gstring (gstring {f = f} {us = us} p d) (gstring {f = f2} {ps = ps2} {us = us2} {rest = r2} p2 d2) =
        let s = piece_same p p2 in
        let i = s.piece in
        let h : f ≡ f2 = cc in
        let a = meet_parts d (along2 (λ w zs. AreParts all w ps2 zs r2) h (s.rest) d2) in
        record { tree = ap2 gstring_of (s.text) (a.tree); rest = a.rest }

    meet_parts : {f : Form} {x y : List Part} {ts us vs : List Token} → AreParts all f x ts us → AreParts all f y ts vs → Same x us y vs
    meet_parts (last_part d p) (last_part {n = n2} {rest = r2} d2 p2) =
        let a = meet_part d d2 in
        let s = piece_same p (along (λ zs. EatsPiece piece.Tail n2 zs r2) (a.rest) p2) in
        record { tree = ap2 (λ w v. part_of w v ∷ []) (a.tree) (s.text); rest = s.rest }
    meet_parts (last_part d p) (more_parts {g = g2} {n = n2} {vs = vs2} d2 p2 h2) =
        let a = meet_part d d2 in
        let s = piece_same p (along (λ zs. EatsPiece (piece.Middle g2) n2 zs vs2) (a.rest) p2) in
        let i = s.piece in cc
    meet_parts (more_parts d p h) (last_part {n = n2} {rest = r2} d2 p2) =
        let a = meet_part d d2 in
        let s = piece_same p (along (λ zs. EatsPiece piece.Tail n2 zs r2) (a.rest) p2) in
        let i = s.piece in cc
    meet_parts (more_parts {g = g} d p h) (more_parts {g = g2} {n = n2} {ps = ps2} {vs = vs2} {rest = r2} d2 p2 h2) =
        let a = meet_part d d2 in
        let s = piece_same p (along (λ zs. EatsPiece (piece.Middle g2) n2 zs vs2) (a.rest) p2) in
        let i = s.piece in
        let e : g ≡ g2 = cc in
        let b = meet_parts h (along2 (λ w zs. AreParts all w ps2 zs r2) e (s.rest) h2) in
        record { tree = ap2 (λ w v. w ∷ v) (ap2 part_of (a.tree) (s.text)) (b.tree); rest = b.rest }

    pub meet_part : {f : Form} {x y : Bool × Expr} {ts us vs : List Token} → IsPart all f x ts us → IsPart all f y ts vs → Same x us y vs
    meet_part (eager d e) (eager d2 e2) =
        let a = ended (omega arith) (meet_expr d d2) (at_end e) (at_end e2) in record { tree = ap (λ w. (false, w)) (a.tree); rest = end_same (a.rest) e e2 }
    meet_part (eager d e) (lazy p2 d2 e2) = let a = expr_spread all d in let b = ap spread_class (kind_eaten p2) in absurd (omega arith)
    meet_part (lazy p d e) (eager d2 e2) = let a = expr_spread all d2 in let b = ap spread_class (kind_eaten p) in absurd (omega arith)
    meet_part (lazy p d e) (lazy {x = y} {vs = vs2} p2 d2 e2) =
        let a = ended (omega arith) (meet_expr d (along (λ zs. IsExpr all y zs vs2) (same_rest p p2) d2)) (at_end e) (at_end e2) in
        record { tree = ap (λ w. (true, w)) (a.tree); rest = end_same (a.rest) e e2 }
    meet_part {ts = ts} (names n g e) (names {y = z} {vs = vs2} n2 g2 e2) =
        let a = as_same n n2 in
        let b = names_once g e (along2 (λ w zs. GoesNames all w z zs vs2) (ap (λ w. expr.Atom (place_of ts) (atom.Name w)) (a.tree)) (a.rest) g2) e2 in
        record { tree = ap (λ w. (false, w)) (b.tree); rest = end_same (b.rest) e e2 }

    pub meet_indexes : {xs ys : List Expr} {ts us vs : List Token} → AreIndexes all xs ts us → AreIndexes all ys ts vs → Same xs us ys vs
    meet_indexes (last_index d c) (last_index d2 c2) =
        let a = ended (omega arith) (meet_expr d d2) (at_bracket c) (at_bracket c2) in record { tree = ap (λ w. w ∷ []) (a.tree); rest = eaten_same (a.rest) c c2 }
    meet_indexes (last_index d c) (more_indexes d2 c2 g2) =
        let a = ended (omega arith) (meet_expr d d2) (at_bracket c) (at_comma c2) in let b = apart (a.rest) c c2 in cc
    meet_indexes (more_indexes d c g) (last_index d2 c2) =
        let a = ended (omega arith) (meet_expr d d2) (at_comma c) (at_bracket c2) in let b = apart (a.rest) c c2 in cc
    meet_indexes (more_indexes d c g) (more_indexes {xs = xs2} {rest = r2} d2 c2 g2) =
        let a = ended (omega arith) (meet_expr d d2) (at_comma c) (at_comma c2) in
        let b = meet_indexes g (along (λ zs. AreIndexes all xs2 zs r2) (eaten_same (a.rest) c c2) g2) in
        record { tree = ap2 (λ w v. w ∷ v) (a.tree) (b.tree); rest = b.rest }

    pub meet_arguments : {xs ys : List Arg} {ts us vs : List Token} → AreArguments all xs ts us → AreArguments all ys ts vs → Same xs us ys vs
    meet_arguments (no_argument p) (no_argument p2) = record { tree = refl; rest = same_rest p p2 }
    meet_arguments (arguments d) (arguments d2) = meet_args d d2
    meet_arguments (no_argument p) (arguments d2) = let a = args_below all d2 in let b = ap spread_class (kind_eaten p) in absurd (omega arith)
    meet_arguments (arguments d) (no_argument p2) = let a = args_below all d in let b = ap spread_class (kind_eaten p2) in absurd (omega arith)

    meet_args : {xs ys : List Arg} {ts us vs : List Token} → AreArgs all xs ts us → AreArgs all ys ts vs → Same xs us ys vs
    meet_args (last_arg d c) (last_arg d2 c2) =
        let a = meet_arg d d2 (ended_paren c) (ended_paren c2) in record { tree = ap (λ w. w ∷ []) (a.tree); rest = eaten_same (a.rest) c c2 }
    meet_args (last_arg d c) (more_args d2 c2 g2) =
        let a = meet_arg d d2 (ended_paren c) (ended_comma c2) in let b = apart (a.rest) c c2 in cc
    meet_args (more_args d c g) (last_arg d2 c2) =
        let a = meet_arg d d2 (ended_comma c) (ended_paren c2) in let b = apart (a.rest) c c2 in cc
    meet_args (more_args d c g) (more_args {args = xs2} {rest = r2} d2 c2 g2) =
        let a = meet_arg d d2 (ended_comma c) (ended_comma c2) in
        let b = meet_args g (along (λ zs. AreArgs all xs2 zs r2) (eaten_same (a.rest) c c2) g2) in
        record { tree = ap2 (λ w v. w ∷ v) (a.tree) (b.tree); rest = b.rest }

    meet_arg : {x y : Arg} {ts us vs : List Token} → IsArg all x ts us → IsArg all y ts vs → Ended us → Ended vs → Same x us y vs
    meet_arg (plain_arg d) (plain_arg d2) e e2 =
        let a = ended (omega arith) (meet_expr d d2) e.stops e2.stops in record { tree = ap arg.Plain (a.tree); rest = a.rest }
    meet_arg (plain_arg d) (keyed_arg (key_gstring g) c d2) e e2 =
        let a = ended (omega arith) (meet_expr d (string_expr all g)) e.stops (at_colon c) in absurd (not_colon (a.rest) e.plain c)
    meet_arg (plain_arg d) (keyed_arg k c d2) e e2 = absurd (key_apart all d k (λ h. omega arith) c e.plain)
    meet_arg (keyed_arg k c d) (plain_arg d2) e e2 = absurd (key_or_expr k c d2 e2.plain)
    meet_arg (keyed_arg k c d) (keyed_arg {x = y} {rest = r2} k2 c2 d2) e e2 =
        let a = meet_key k k2 in
        let b = ended (omega arith) (meet_expr d (along (λ zs. IsExpr all y zs r2) (eaten_same (a.rest) c c2) d2)) e.stops e2.stops in
        record { tree = ap2 arg.Keyed (a.tree) (b.tree); rest = b.rest }
    meet_arg {ts = ts} (spread_arg p d) (spread_arg {x = y} {rest = r2} p2 d2) e e2 =
        let a = ended (omega arith) (meet_unary d (along (λ zs. IsUnary all y zs r2) (same_rest p p2) d2)) e.stops e2.stops in
        record { tree = ap (arg.Spread (place_of ts)) (a.tree); rest = a.rest }
    meet_arg {ts = ts} (spread_map_arg p d) (spread_map_arg {x = y} {rest = r2} p2 d2) e e2 =
        let a = ended (omega arith) (meet_unary d (along (λ zs. IsUnary all y zs r2) (same_rest p p2) d2)) e.stops e2.stops in
        record { tree = ap (arg.SpreadMap (place_of ts)) (a.tree); rest = a.rest }
    meet_arg d d2 e e2 = let a = arg_first all d in let b = arg_first all d2 in absurd (omega arith)

    -- a key before a `:` isn't an expression that ends an element
    pub key_or_expr : {k : Key} {x : Expr} {ts us vs ws : List Token} → IsKey all k ts us → Eats symbol.Colon us vs → IsExpr all x ts ws → (kind_of ws ≡ kind.Symbol symbol.Colon → ⊥) → ⊥
    key_or_expr (key_gstring g) c d e =
        let i = leading_of all d g in
        let a = meet_gstring g i.leading in
        not_colon (i.ends (along Stops (sym (a.rest)) (at_colon c)) ∙ sym (a.rest)) e c
    key_or_expr k c d e = key_apart all d k (λ h. omega arith) c e

    pub meet_elements : {xs ys : List Item} {ts us vs : List Token} → AreElements all xs ts us → AreElements all ys ts vs → Same xs us ys vs
    meet_elements (no_element p) (no_element p2) = record { tree = refl; rest = same_rest p p2 }
    meet_elements (elements d) (elements d2) = meet_items d d2
    meet_elements (no_element p) (elements d2) = let a = items_below all d2 in let b = ap spread_class (kind_eaten p) in absurd (omega arith)
    meet_elements (elements d) (no_element p2) = let a = items_below all d in let b = ap spread_class (kind_eaten p2) in absurd (omega arith)

    meet_items : {xs ys : List Item} {ts us vs : List Token} → AreItems all xs ts us → AreItems all ys ts vs → Same xs us ys vs
    meet_items (last_item d c) (last_item d2 c2) =
        let a = meet_item d d2 (at_bracket c) (at_bracket c2) in record { tree = ap (λ w. w ∷ []) (a.tree); rest = eaten_same (a.rest) c c2 }
    meet_items (last_item d c) (item_comma d2 m2 c2) = let a = meet_item d d2 (at_bracket c) (at_comma m2) in let b = apart (a.rest) c m2 in cc
    meet_items (last_item d c) (more_items d2 m2 g2) = let a = meet_item d d2 (at_bracket c) (at_comma m2) in let b = apart (a.rest) c m2 in cc
    meet_items (item_comma d m c) (last_item d2 c2) = let a = meet_item d d2 (at_comma m) (at_bracket c2) in let b = apart (a.rest) m c2 in cc
    meet_items (more_items d m g) (last_item d2 c2) = let a = meet_item d d2 (at_comma m) (at_bracket c2) in let b = apart (a.rest) m c2 in cc
    meet_items (item_comma d m c) (item_comma d2 m2 c2) =
        let a = meet_item d d2 (at_comma m) (at_comma m2) in
        record { tree = ap (λ w. w ∷ []) (a.tree); rest = eaten_same (eaten_same (a.rest) m m2) c c2 }
    meet_items (item_comma d m c) (more_items {items = xs2} {rest = r2} d2 m2 g2) =
        let a = meet_item d d2 (at_comma m) (at_comma m2) in
        let b = items_below all (along (λ zs. AreItems all xs2 zs r2) (eaten_same (a.rest) m m2) g2) in
        let h = ap spread_class (kind_eaten c) in absurd (omega arith)
    meet_items (more_items {items = xs} {rest = r} d m g) (item_comma d2 m2 c2) =
        let a = meet_item d d2 (at_comma m) (at_comma m2) in
        let b = items_below all (along (λ zs. AreItems all xs zs r) (sym (eaten_same (a.rest) m m2)) g) in
        let h = ap spread_class (kind_eaten c2) in absurd (omega arith)
    meet_items (more_items d m g) (more_items {items = xs2} {rest = r2} d2 m2 g2) =
        let a = meet_item d d2 (at_comma m) (at_comma m2) in
        let b = meet_items g (along (λ zs. AreItems all xs2 zs r2) (eaten_same (a.rest) m m2) g2) in
        record { tree = ap2 (λ w v. w ∷ v) (a.tree) (b.tree); rest = b.rest }

    meet_item : {x y : Item} {ts us vs : List Token} → IsItem all x ts us → IsItem all y ts vs → Stops us → Stops vs → Same x us y vs
    meet_item (plain_item d) (plain_item d2) e e2 = let a = ended (omega arith) (meet_expr d d2) e e2 in record { tree = ap item.Plain (a.tree); rest = a.rest }
    meet_item {ts = ts} (spread_item p d) (spread_item {x = y} {rest = r2} p2 d2) e e2 =
        let a = ended (omega arith) (meet_unary d (along (λ zs. IsUnary all y zs r2) (same_rest p p2) d2)) e e2 in
        record { tree = ap (item.Spread (place_of ts)) (a.tree); rest = a.rest }
    meet_item d d2 e e2 = let a = item_first all d in let b = item_first all d2 in absurd (omega arith)

    pub meet_entries : {xs ys : List Entry} {ts us vs : List Token} → AreEntries all xs ts us → AreEntries all ys ts vs → Same xs us ys vs
    meet_entries (last_entry d c) (last_entry d2 c2) =
        let a = meet_entry d d2 (at_bracket c) (at_bracket c2) in record { tree = ap (λ w. w ∷ []) (a.tree); rest = eaten_same (a.rest) c c2 }
    meet_entries (last_entry d c) (entry_comma d2 m2 c2) = let a = meet_entry d d2 (at_bracket c) (at_comma m2) in let b = apart (a.rest) c m2 in cc
    meet_entries (last_entry d c) (more_entries d2 m2 g2) = let a = meet_entry d d2 (at_bracket c) (at_comma m2) in let b = apart (a.rest) c m2 in cc
    meet_entries (entry_comma d m c) (last_entry d2 c2) = let a = meet_entry d d2 (at_comma m) (at_bracket c2) in let b = apart (a.rest) m c2 in cc
    meet_entries (more_entries d m g) (last_entry d2 c2) = let a = meet_entry d d2 (at_comma m) (at_bracket c2) in let b = apart (a.rest) m c2 in cc
    meet_entries (entry_comma d m c) (entry_comma d2 m2 c2) =
        let a = meet_entry d d2 (at_comma m) (at_comma m2) in
        record { tree = ap (λ w. w ∷ []) (a.tree); rest = eaten_same (eaten_same (a.rest) m m2) c c2 }
    meet_entries (entry_comma d m c) (more_entries {ns = xs2} {rest = r2} d2 m2 g2) =
        let a = meet_entry d d2 (at_comma m) (at_comma m2) in
        let b = entries_below all (along (λ zs. AreEntries all xs2 zs r2) (eaten_same (a.rest) m m2) g2) in
        let h = ap spread_class (kind_eaten c) in absurd (omega arith)
    meet_entries (more_entries {ns = xs} {rest = r} d m g) (entry_comma d2 m2 c2) =
        let a = meet_entry d d2 (at_comma m) (at_comma m2) in
        let b = entries_below all (along (λ zs. AreEntries all xs zs r) (sym (eaten_same (a.rest) m m2)) g) in
        let h = ap spread_class (kind_eaten c2) in absurd (omega arith)
    meet_entries (more_entries d m g) (more_entries {ns = xs2} {rest = r2} d2 m2 g2) =
        let a = meet_entry d d2 (at_comma m) (at_comma m2) in
        let b = meet_entries g (along (λ zs. AreEntries all xs2 zs r2) (eaten_same (a.rest) m m2) g2) in
        record { tree = ap2 (λ w v. w ∷ v) (a.tree) (b.tree); rest = b.rest }

    meet_entry : {x y : Entry} {ts us vs : List Token} → IsEntry all x ts us → IsEntry all y ts vs → Stops us → Stops vs → Same x us y vs
    meet_entry (keyed_entry k c d) (keyed_entry {x = y} {rest = r2} k2 c2 d2) e e2 =
        let a = meet_key k k2 in
        let b = ended (omega arith) (meet_expr d (along (λ zs. IsExpr all y zs r2) (eaten_same (a.rest) c c2) d2)) e e2 in
        record { tree = ap2 entry.Keyed (a.tree) (b.tree); rest = b.rest }
    meet_entry (keyed_entry k c d) (computed_entry p2 d2 q2 c2 f2) e e2 = let a = key_below all k in let b = ap key_class (kind_eaten p2) in absurd (omega arith)
    meet_entry (computed_entry p d q c f) (keyed_entry k2 c2 d2) e e2 = let a = key_below all k2 in let b = ap key_class (kind_eaten p) in absurd (omega arith)
    meet_entry {ts = ts} (computed_entry p d q c f) (computed_entry {x = x2} {y = y2} {vs = vs2} {rest = r2} p2 d2 q2 c2 f2) e e2 =
        let a = ended (omega arith) (meet_expr d (along (λ zs. IsExpr all x2 zs vs2) (same_rest p p2) d2)) (at_paren q) (at_paren q2) in
        let h = eaten_same (eaten_same (a.rest) q q2) c c2 in
        let b = ended (omega arith) (meet_expr f (along (λ zs. IsExpr all y2 zs r2) h f2)) e e2 in
        record { tree = ap2 (entry.Computed (place_of ts)) (a.tree) (b.tree); rest = b.rest }
    meet_entry {ts = ts} (spread_entry p d) (spread_entry {x = y} {rest = r2} p2 d2) e e2 =
        let a = ended (omega arith) (meet_unary d (along (λ zs. IsUnary all y zs r2) (same_rest p p2) d2)) e e2 in
        record { tree = ap (entry.Spread (place_of ts)) (a.tree); rest = a.rest }
    meet_entry d d2 e e2 = let a = entry_first all d in let b = entry_first all d2 in absurd (omega arith)

    -- no list of items is a list of entries
    items_or_entries : {xs : List Item} {ys : List Entry} {ts us vs : List Token} → AreItems all xs ts us → AreEntries all ys ts vs → ⊥
    items_or_entries (last_item d c) g = let a = first_entry g in item_or_entry d (a.first) (ended_bracket c)
    items_or_entries (item_comma d m c) g = let a = first_entry g in item_or_entry d (a.first) (ended_comma m)
    items_or_entries (more_items d m f) g = let a = first_entry g in item_or_entry d (a.first) (ended_comma m)

    item_or_entry : {x : Item} {y : Entry} {ts us vs : List Token} → IsItem all x ts us → IsEntry all y ts vs → Ended us → ⊥
    item_or_entry (plain_item d) (keyed_entry (key_gstring g) c d2) e =
        let a = ended (omega arith) (meet_expr d (string_expr all g)) e.stops (at_colon c) in not_colon (a.rest) e.plain c
    item_or_entry (plain_item d) (keyed_entry k c d2) e = key_apart all d k (λ h. omega arith) c e.plain
    item_or_entry (plain_item d) (computed_entry p d2 q c f2) e =
        let a = ended (omega arith) (meet_expr d (parens_expr all p d2 q)) e.stops (at_colon c) in not_colon (a.rest) e.plain c
    item_or_entry (plain_item d) (spread_entry p d2) e = let a = expr_spread all d in let b = ap spread_class (kind_eaten p) in omega arith
    item_or_entry (spread_item p d) (spread_entry p2 d2) e = let a = apart refl p p2 in cc
    item_or_entry (spread_item p d) (keyed_entry k c d2) e = let a = key_spread all k in let b = ap spread_class (kind_eaten p) in omega arith
    item_or_entry (spread_item p d) (computed_entry p2 d2 q c f) e = let a = apart refl p p2 in cc

    entries_or_elements : {xs : List Entry} {ys : List Item} {ts us vs : List Token} → AreEntries all xs ts us → AreElements all ys ts vs → ⊥
    entries_or_elements (last_entry d c) g = let a = first_element g (entry_below all d) in entry_or_item d (a.first) (a.ends)
    entries_or_elements (entry_comma d m c) g = let a = first_element g (entry_below all d) in entry_or_item d (a.first) (a.ends)
    entries_or_elements (more_entries d m f) g = let a = first_element g (entry_below all d) in entry_or_item d (a.first) (a.ends)

    entry_or_item : {x : Entry} {y : Item} {ts us vs : List Token} → IsEntry all x ts us → IsItem all y ts vs → Ended vs → ⊥
    entry_or_item (keyed_entry k c d) (plain_item d2) e = key_or_expr k c d2 e.plain
    entry_or_item (computed_entry p d q c f) (plain_item d2) e =
        let i = inner_of all d2 p in
        let a = ended (omega arith) (meet_expr d i.inner) (at_paren q) (at_paren i.close) in
        let h = eaten_same (a.rest) q i.close in
        not_colon (i.ends (along Stops (sym h) (at_colon c)) ∙ sym h) e.plain c
    entry_or_item (spread_entry p d) (plain_item d2) e = let a = expr_spread all d2 in let b = ap spread_class (kind_eaten p) in omega arith
    entry_or_item (keyed_entry k c d) (spread_item p d2) e = let a = key_spread all k in let b = ap spread_class (kind_eaten p) in omega arith
    entry_or_item (computed_entry p d q c f) (spread_item p2 d2) e = let a = apart refl p p2 in cc
    entry_or_item (spread_entry p d) (spread_item p2 d2) e = let a = apart refl p p2 in cc

    pub meet_primary : {x y : Expr} {ts us vs : List Token} → IsPrimary all x ts us → IsPrimary all y ts vs → Same x us y vs
    meet_primary (an_atom {a = x} {t = t} p) (an_atom {a = y} p2) = let h : x ≡ y = cc in record { tree = ap (expr.Atom t.place) h; rest = refl }
    meet_primary {ts = ts} (a_gstring d) (a_gstring d2) = let a = meet_gstring d d2 in record { tree = ap (expr.GString (place_of ts)) (a.tree); rest = a.rest }
    meet_primary {ts = ts} (parens p d q) (parens {x = y} {vs = vs} p2 d2 q2) =
        let a = ended (omega arith) (meet_expr d (along (λ zs. IsExpr all y zs vs) (same_rest p p2) d2)) (at_paren q) (at_paren q2) in
        record { tree = ap (expr.Paren (place_of ts)) (a.tree); rest = eaten_same (a.rest) q q2 }
    meet_primary {ts = ts} (a_list p d) (a_list {items = ys} {rest = r} p2 d2) =
        let a = meet_elements d (along (λ zs. AreElements all ys zs r) (same_rest p p2) d2) in
        record { tree = ap (expr.List (place_of ts)) (a.tree); rest = a.rest }
    meet_primary (a_list p d) (empty_map p2 c2 q2) = absurd (elements_or_colon (same_rest p p2) d c2)
    meet_primary (a_list p d) (a_map {ns = ys} {rest = r} p2 d2) = absurd (elements_or_entries d (along (λ zs. AreEntries all ys zs r) (same_rest p p2) d2))
    meet_primary (empty_map p c q) (a_list p2 d2) = absurd (elements_or_colon (same_rest p2 p) d2 c)
    meet_primary (empty_map p c q) (empty_map p2 c2 q2) = record { tree = refl; rest = eaten_same (eaten_same (same_rest p p2) c c2) q q2 }
    meet_primary (empty_map p c q) (a_map p2 d2) = absurd (entries_or_colon (same_rest p2 p) d2 c)
    meet_primary (a_map p d) (a_list {items = ys} {rest = r} p2 d2) = absurd (entries_or_elements d (along (λ zs. AreElements all ys zs r) (same_rest p p2) d2))
    meet_primary (a_map p d) (empty_map p2 c2 q2) = absurd (entries_or_colon (same_rest p p2) d c2)
    meet_primary {ts = ts} (a_map p d) (a_map {ns = ys} {rest = r} p2 d2) =
        let a = meet_entries d (along (λ zs. AreEntries all ys zs r) (same_rest p p2) d2) in
        record { tree = ap (expr.Map (place_of ts)) (a.tree); rest = a.rest }
    meet_primary (a_closure d) (a_closure d2) = closure_once all d d2
    meet_primary {ts = ts} (a_new p n o d) (a_new {n = n2} {args = args2} {vs = vs2} {ws = ws2} {rest = r2} p2 m2 o2 d2) =
        let h = keyword_same p p2 in
        let a = as_same n (along (λ zs. EatsAs type_name_of n2 zs vs2) h m2) in
        let b = meet_arguments d (along (λ zs. AreArguments all args2 zs r2) (eaten_same (a.rest) o o2) d2) in
        record { tree = ap2 (λ i v. expr.New (place_of ts) i v) (ap2 (λ zs w. ident (place_of zs) w) h (a.tree)) (b.tree); rest = b.rest }
    meet_primary d d2 = let a = primary_first all d in let b = primary_first all d2 in absurd (omega arith)

    elements_or_entries : {xs : List Item} {ys : List Entry} {ts us vs : List Token} → AreElements all xs ts us → AreEntries all ys ts vs → ⊥
    elements_or_entries (no_element p) g = let a = entries_below all g in let b = ap spread_class (kind_eaten p) in omega arith
    elements_or_entries (elements d) g = items_or_entries d g
