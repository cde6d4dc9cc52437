-- What the longest expression, condition, chain of operators, prefixed expression and path is.
use Rattle.std.proofs.Common.{◌≡◌, ◌≢◌, ℕ, suc, ◌≤◌, Bool, true, false, ◌&&◌, ◌||◌, List, [], ◌∷◌, length, drop, refl, sym, ap, subst, arith, Some, None, ◌⊎◌, inl, inr}
use Rattle.gv_spelling.specs.declared.kinds.Symbol.TheVariants as symbol
use Rattle.gv_lex.specs.declared.token.Token.{Token}
use Rattle.gv_tree.specs.declared.expr.Expr.{Expr}
use Rattle.gv_tree.specs.declared.expr.Expr.TheVariants as expr
use Rattle.gv_tree.specs.declared.ops.AssignOp.{AssignOp}
use Rattle.gv_tree.specs.declared.ops.BinaryOp.{BinaryOp}
use Rattle.gv_tree.specs.declared.ops.TypeOp.{TypeOp}
use Rattle.gv_tree.specs.declared.ops.TypeTree.{TypeTree}
use Rattle.gv_tree.specs.declared.ops.UnaryOp.{UnaryOp}
use Rattle.gv_grammar.specs.Phrases.{Longest, Nothing}
use Rattle.gv_grammar.specs.Tokens.{Eats, kind_of, place_of, type_of, binary_of, level_of, loosest, typing_level, joins_once, typing_of, prefix_of, assign_of}
use Rattle.gv_grammar.specs.Meeting.{Meet, one, first_goes_on, second_goes_on, Level, CondGoes}
use Rattle.gv_grammar.specs.Exprs.{is_target, IsExpr, an_expr, GoesExpr, expr_ends, assigns, IsCond, a_cond, GoesCond, cond_ends, chooses, defaults, AreChoices, choices, IsBin, tightest, a_bin, GoesBin, bin_ends, operator, typing, IsUnary, prefix, no_prefix, IsPath, a_path, GoesPath, path_ends, suffix, IsSuffix, IsPrimary}
use Rattle.gv_grammar.proofs.Lengths.{no_more, of_goes_expr, of_goes_cond, of_goes_bin, of_goes_path}
use Rattle.gv_grammar.proofs.Single.{ap2, along, along2, same_rest, eaten_same, apart}
use Rattle.gv_grammar.proofs.Firsts.{class_prefix, primary_first, number_below}
use Rattle.gv_grammar.proofs.Tails.{operator_or_typing, at_colon}
use Rattle.gv_grammar.proofs.Meets.{expr_stops, cond_stops, bin_stops, meet_cond, meet_bin, meet_suffix, meet_primary}
use Rattle.gv_grammar.proofs.Longest.{Split, longest_of_two, stops_here, goes_on, ended_there}

module _ (all : ℕ) where
  -- ---- an assignment

  pub long_expr : {x y : Expr} {ts us rest : List Token} → Longest (IsCond all) x ts us → Longest (GoesExpr all x) y us rest → Longest (IsExpr all) y ts rest
  long_expr = longest_of_two CondGoes (IsCond all) (GoesExpr all) (IsExpr all) (λ x y ts us rest d g. an_expr d g) split (λ x x' ts us us' d d'. meet_cond all d d')
      (λ x y us rest g p. (expr_stops all g p).0) (λ x y us rest g. no_more (of_goes_expr all g))
    where
      split : (y : Expr) (ts rest : List Token) → IsExpr all y ts rest → Split (IsCond all) (GoesExpr all) y ts rest
      split y ts rest (an_expr d g) = record { x = _; us = _; head = d; tail = g }

  pub no_expr : {ts : List Token} → Nothing (IsCond all) ts → Nothing (IsExpr all) ts
  no_expr f y after (an_expr d g) = f _ _ d

  record Assigned (x : Expr) (ts : List Token) (z : Expr) (rest : List Token) : Type 0 where
    op : AssignOp
    right : Expr
    meant : assign_of (kind_of ts) ≡ Some op
    target : is_target x ≡ true
    value : IsExpr all right (drop 1 ts) rest

  expr_part : {x : Expr} {ts : List Token} (z : Expr) (rest : List Token) → GoesExpr all x z ts rest → (length rest ≡ length ts) ⊎ Assigned x ts z rest
  expr_part z rest expr_ends = inl refl
  expr_part z rest (assigns {y = y} {op = op} p q d) = inr (record { op = op; right = y; meant = p; target = q; value = d })

  assigned : {x y : Expr} {op : AssignOp} (ts : List Token) {rest : List Token} → assign_of (kind_of ts) ≡ Some op → is_target x ≡ true → IsExpr all y (drop 1 ts) rest
      → GoesExpr all x (expr.Assign (place_of ts) op x y) ts rest
  assigned [] p q d = cc
  assigned (t ∷ ts) p q d = assigns p q d

  pub expr_tail_ends : {x : Expr} {ts : List Token} → (assign_of (kind_of ts) ≡ None) ⊎ (is_target x ≡ false) → Longest (GoesExpr all x) x ts ts
  expr_tail_ends {x = x} {ts = ts} p = stops_here (GoesExpr all) (Assigned x ts) expr_ends expr_part (λ z after s. go z after s p)
    where
      go : (z : Expr) (after : List Token) → Assigned x ts z after → (assign_of (kind_of ts) ≡ None) ⊎ (is_target x ≡ false) → ⊥
      go z after s (inl h) = cc
      go z after s (inr h) = cc

  pub expr_tail_assigns : {x y : Expr} {op : AssignOp} {ts rest : List Token} → assign_of (kind_of ts) ≡ Some op → is_target x ≡ true
      → Longest (IsExpr all) y (drop 1 ts) rest → Longest (GoesExpr all x) (expr.Assign (place_of ts) op x y) ts rest
  expr_tail_assigns {x = x} {ts = ts} {rest = rest} p q l =
      let d = assigned ts p q (l.is) in
      goes_on (GoesExpr all) (Assigned x ts) expr_ends expr_part _ rest d (no_more (of_goes_expr all d)) (λ z after s. l.longest (s.right) after (s.value))

  pub expr_tail_refused : {x : Expr} {ts : List Token} → Nothing (IsExpr all) (drop 1 ts) → Longest (GoesExpr all x) x ts ts
  expr_tail_refused {x = x} {ts = ts} f = stops_here (GoesExpr all) (Assigned x ts) expr_ends expr_part (λ z after s. f (s.right) after (s.value))

  -- ---- a choice

  pub long_cond : {x y : Expr} {ts us rest : List Token} → Longest (IsBin all loosest) x ts us → Longest (GoesCond all x) y us rest → Longest (IsCond all) y ts rest
  long_cond = longest_of_two (Level loosest) (IsBin all loosest) (GoesCond all) (IsCond all) (λ x y ts us rest d g. a_cond d g) split (λ x x' ts us us' d d'. meet_bin all d d')
      (λ x y us rest g p. (cond_stops all g p).0) (λ x y us rest g. no_more (of_goes_cond all g))
    where
      split : (y : Expr) (ts rest : List Token) → IsCond all y ts rest → Split (IsBin all loosest) (GoesCond all) y ts rest
      split y ts rest (a_cond d g) = record { x = _; us = _; head = d; tail = g }

  pub no_cond : {ts : List Token} → Nothing (IsBin all loosest) ts → Nothing (IsCond all) ts
  no_cond f y after (a_cond d g) = f _ _ d

  data Chosen (ts : List Token) : Expr → List Token → Type 0 where
    by_choices : {z : Expr} {p : Expr × Expr} {us rest : List Token} → Eats symbol.Question ts us → AreChoices all p us rest → Chosen ts z rest
    by_default : {y z : Expr} {us rest : List Token} → Eats symbol.Elvis ts us → IsCond all y us rest → Chosen ts z rest

  cond_part : {x : Expr} {ts : List Token} (z : Expr) (rest : List Token) → GoesCond all x z ts rest → (length rest ≡ length ts) ⊎ Chosen ts z rest
  cond_part z rest cond_ends = inl refl
  cond_part z rest (chooses q d) = inr (by_choices q d)
  cond_part z rest (defaults q d) = inr (by_default q d)

  pub cond_tail_ends : {x : Expr} {ts : List Token} → ((us : List Token) → Eats symbol.Question ts us → ⊥) → ((us : List Token) → Eats symbol.Elvis ts us → ⊥) → Longest (GoesCond all x) x ts ts
  cond_tail_ends {x = x} {ts = ts} f g = stops_here (GoesCond all) (Chosen ts) cond_ends cond_part go
    where
      go : (z : Expr) (after : List Token) → Chosen ts z after → ⊥
      go z after (by_choices q d) = f _ q
      go z after (by_default q d) = g _ q

  pub cond_tail_chooses : {x : Expr} {p : Expr × Expr} {ts us rest : List Token} → Eats symbol.Question ts us → Longest (AreChoices all) p us rest
      → Longest (GoesCond all x) (expr.Choice (place_of ts) x (Some p.0) p.1) ts rest
  cond_tail_chooses {x = x} {ts = ts} {rest = rest} q l =
      let d = chooses q (l.is) in
      goes_on (GoesCond all) (Chosen ts) cond_ends cond_part _ rest d (no_more (of_goes_cond all d)) go
    where
      go : (z : Expr) (after : List Token) → Chosen ts z after → length rest ≤ length after
      go z after (by_choices {p = p} q2 d) = l.longest p after (along (λ zs. AreChoices all p zs after) (same_rest q q2) d)
      go z after (by_default q2 d) = let a = apart refl q q2 in cc

  pub cond_tail_defaults : {x y : Expr} {ts us rest : List Token} → Eats symbol.Elvis ts us → Longest (IsCond all) y us rest
      → Longest (GoesCond all x) (expr.Choice (place_of ts) x None y) ts rest
  cond_tail_defaults {x = x} {ts = ts} {rest = rest} q l =
      let d = defaults q (l.is) in
      goes_on (GoesCond all) (Chosen ts) cond_ends cond_part _ rest d (no_more (of_goes_cond all d)) go
    where
      go : (z : Expr) (after : List Token) → Chosen ts z after → length rest ≤ length after
      go z after (by_choices q2 d) = let a = apart refl q q2 in cc
      go z after (by_default {y = y} q2 d) = l.longest y after (along (λ zs. IsCond all y zs after) (same_rest q q2) d)

  pub cond_tail_no_choices : {x : Expr} {ts us : List Token} → Eats symbol.Question ts us → Nothing (AreChoices all) us → Longest (GoesCond all x) x ts ts
  cond_tail_no_choices {ts = ts} q f = stops_here (GoesCond all) (Chosen ts) cond_ends cond_part go
    where
      go : (z : Expr) (after : List Token) → Chosen ts z after → ⊥
      go z after (by_choices {p = p} q2 d) = f p after (along (λ zs. AreChoices all p zs after) (same_rest q q2) d)
      go z after (by_default q2 d) = let a = apart refl q q2 in cc

  pub cond_tail_no_default : {x : Expr} {ts us : List Token} → Eats symbol.Elvis ts us → Nothing (IsCond all) us → Longest (GoesCond all x) x ts ts
  cond_tail_no_default {ts = ts} q f = stops_here (GoesCond all) (Chosen ts) cond_ends cond_part go
    where
      go : (z : Expr) (after : List Token) → Chosen ts z after → ⊥
      go z after (by_choices q2 d) = let a = apart refl q q2 in cc
      go z after (by_default {y = y} q2 d) = f y after (along (λ zs. IsCond all y zs after) (same_rest q q2) d)

  pub long_choices : {x y : Expr} {ts us vs rest : List Token} → Longest (IsExpr all) x ts us → Eats symbol.Colon us vs → Longest (IsExpr all) y vs rest → Longest (AreChoices all) (x, y) ts rest
  long_choices {ts = ts} {rest = rest} l q m = record { is = choices (l.is) q (m.is); longest = go }
    where
      go : (p : Expr × Expr) (after : List Token) → AreChoices all p ts after → length rest ≤ length after
      go p after (choices {y = y} d c g) = m.longest y after (along (λ zs. IsExpr all y zs after) (eaten_same ((ended_there all l d (at_colon c)).rest) q c) g)

  pub no_first_choice : {ts : List Token} → Nothing (IsExpr all) ts → Nothing (AreChoices all) ts
  no_first_choice f p after (choices d c g) = f _ _ d

  pub no_colon_there : {x : Expr} {ts us : List Token} → Longest (IsExpr all) x ts us → ((vs : List Token) → Eats symbol.Colon us vs → ⊥) → Nothing (AreChoices all) ts
  no_colon_there l f p after (choices {vs = vs} d c g) = f vs (along (λ zs. Eats symbol.Colon zs vs) ((ended_there all l d (at_colon c)).rest) c)

  pub no_second_choice : {x : Expr} {ts us vs : List Token} → Longest (IsExpr all) x ts us → Eats symbol.Colon us vs → Nothing (IsExpr all) vs → Nothing (AreChoices all) ts
  no_second_choice l q f p after (choices {y = y} d c g) = f y after (along (λ zs. IsExpr all y zs after) (eaten_same ((ended_there all l d (at_colon c)).rest) q c) g)

  -- ---- a chain of operators of one level

  pub long_bin : {n : ℕ} {x y : Expr} {ts us rest : List Token} → Longest (IsBin all n) x ts us → Longest (GoesBin all n false x) y us rest → Longest (IsBin all (suc n)) y ts rest
  long_bin {n = n} = longest_of_two (Level n) (IsBin all n) (GoesBin all n false) (IsBin all (suc n)) (λ x y ts us rest d g. a_bin d g) split (λ x x' ts us us' d d'. meet_bin all d d')
      (λ x y us rest g p. (bin_stops all g p).0) (λ x y us rest g. no_more (of_goes_bin all g))
    where
      split : (y : Expr) (ts rest : List Token) → IsBin all (suc n) y ts rest → Split (IsBin all n) (GoesBin all n false) y ts rest
      split y ts rest (a_bin d g) = record { x = _; us = _; head = d; tail = g }

  pub no_bin : {n : ℕ} {ts : List Token} → Nothing (IsBin all n) ts → Nothing (IsBin all (suc n)) ts
  no_bin f y after (a_bin d g) = f _ _ d

  pub long_tightest : {x : Expr} {ts rest : List Token} → Longest (IsUnary all) x ts rest → Longest (IsBin all 0) x ts rest
  long_tightest {ts = ts} {rest = rest} l = record { is = tightest (l.is); longest = λ y after d. go d }
    where
      go : {y : Expr} {after : List Token} → IsBin all 0 y ts after → length rest ≤ length after
      go (tightest d) = l.longest _ _ d

  pub no_tightest : {ts : List Token} → Nothing (IsUnary all) ts → Nothing (IsBin all 0) ts
  no_tightest f y after (tightest d) = f _ _ d

  record Operated (n : ℕ) (joined : Bool) (x : Expr) (ts : List Token) (z : Expr) (rest : List Token) : Type 0 where
    op : BinaryOp
    right : Expr
    us : List Token
    meant : binary_of (kind_of ts) ≡ Some op
    level : level_of op ≡ suc n
    may : joined && joins_once op ≡ false
    operand : IsBin all n right (drop 1 ts) us
    more : GoesBin all n (joined || joins_once op) (expr.Binary (place_of ts) op x right) z us rest

  record Typed (n : ℕ) (joined : Bool) (x : Expr) (ts : List Token) (z : Expr) (rest : List Token) : Type 0 where
    op : TypeOp
    type : TypeTree
    meant : typing_of (kind_of ts) ≡ Some op
    level : typing_level ≡ suc n
    may : joined ≡ false
    named : type_of (place_of (drop 1 ts)) (kind_of (drop 1 ts)) ≡ Some type
    more : GoesBin all n true (expr.Typed (place_of ts) op x type) z (drop 1 (drop 1 ts)) rest

  Extended : ℕ → Bool → Expr → List Token → Expr → List Token → Type 0
  Extended n joined x ts z rest = Operated n joined x ts z rest ⊎ Typed n joined x ts z rest

  bin_part : {n : ℕ} {joined : Bool} {x : Expr} {ts : List Token} (z : Expr) (rest : List Token) → GoesBin all n joined x z ts rest → (length rest ≡ length ts) ⊎ Extended n joined x ts z rest
  unfolding Extended
  bin_part z rest bin_ends = inl refl
  bin_part z rest (operator p q r d g) = inr (inl (record { op = _; right = _; us = _; meant = p; level = q; may = r; operand = d; more = g }))
  bin_part z rest (typing p q r g) = inr (inr (record { op = _; type = _; meant = p; level = q; may = refl; named = r; more = g }))

  bin_ends_here : {n : ℕ} {joined : Bool} {x : Expr} {ts : List Token} → ((z : Expr) (after : List Token) → Operated n joined x ts z after → ⊥)
      → ((z : Expr) (after : List Token) → Typed n joined x ts z after → ⊥) → Longest (GoesBin all n joined x) x ts ts
  unfolding Extended
  bin_ends_here {n = n} {joined = j} {x = x} {ts = ts} f g = stops_here (GoesBin all n j) (Extended n j x ts) bin_ends bin_part go
    where
      go : (z : Expr) (after : List Token) → Extended n j x ts z after → ⊥
      go z after (inl s) = f z after s
      go z after (inr s) = g z after s

  pub bin_tail_ends : {n : ℕ} {joined : Bool} {x : Expr} {ts : List Token} → binary_of (kind_of ts) ≡ None → typing_of (kind_of ts) ≡ None → Longest (GoesBin all n joined x) x ts ts
  bin_tail_ends p q = bin_ends_here (λ z after s. cc) (λ z after s. cc)

  pub bin_tail_other : {n : ℕ} {joined : Bool} {op : BinaryOp} {x : Expr} {ts : List Token} → binary_of (kind_of ts) ≡ Some op → (level_of op ≢ suc n) ⊎ (joined && joins_once op ≡ true)
      → Longest (GoesBin all n joined x) x ts ts
  bin_tail_other {n = n} {joined = j} {op = op} {x = x} {ts = ts} p q = bin_ends_here (λ z after s. go z after s q) (λ z after s. operator_or_typing _ p (s.meant))
    where
      go : (z : Expr) (after : List Token) → Operated n j x ts z after → (level_of op ≢ suc n) ⊎ (j && joins_once op ≡ true) → ⊥
      go z after s (inl h) = h cc
      go z after s (inr h) = cc

  pub bin_tail_refused : {n : ℕ} {joined : Bool} {op : BinaryOp} {x : Expr} {ts : List Token} → binary_of (kind_of ts) ≡ Some op → Nothing (IsBin all n) (drop 1 ts)
      → Longest (GoesBin all n joined x) x ts ts
  bin_tail_refused p f = bin_ends_here (λ z after s. f (s.right) (s.us) (s.operand)) (λ z after s. operator_or_typing _ p (s.meant))

  operated : {n : ℕ} {joined : Bool} {op : BinaryOp} {x y z : Expr} (ts : List Token) {us rest : List Token} → binary_of (kind_of ts) ≡ Some op → level_of op ≡ suc n → joined && joins_once op ≡ false
      → IsBin all n y (drop 1 ts) us → GoesBin all n (joined || joins_once op) (expr.Binary (place_of ts) op x y) z us rest → GoesBin all n joined x z ts rest
  operated [] p q r d g = cc
  operated (t ∷ ts) p q r d g = operator p q r d g

  pub bin_tail_operates : {n : ℕ} {joined : Bool} {op : BinaryOp} {x y z : Expr} {ts us rest : List Token} → binary_of (kind_of ts) ≡ Some op → level_of op ≡ suc n → joined && joins_once op ≡ false
      → Longest (IsBin all n) y (drop 1 ts) us → Longest (GoesBin all n (joined || joins_once op) (expr.Binary (place_of ts) op x y)) z us rest → Longest (GoesBin all n joined x) z ts rest
  unfolding Extended
  bin_tail_operates {n = n} {joined = j} {op = op} {x = x} {y = y} {z = z} {ts = ts} {us = us} {rest = rest} p q r l t =
      let d = operated ts p q r (l.is) (t.is) in
      goes_on (GoesBin all n j) (Extended n j x ts) bin_ends bin_part z rest d (no_more (of_goes_bin all d)) go
    where
      same_op : (o : BinaryOp) → op ≡ o → (v : Expr) (vs : List Token) (w : Expr) (after : List Token) → IsBin all n v (drop 1 ts) vs
          → GoesBin all n (j || joins_once o) (expr.Binary (place_of ts) o x v) w vs after → Meet (Level n) y us v vs → length rest ≤ length after
      same_op o h v vs w after d g (one a b) = t.longest w after (along (λ zs. GoesBin all n (j || joins_once op) (expr.Binary (place_of ts) op x y) w zs after) b
          (subst (λ i. GoesBin all n (j || joins_once i) (expr.Binary (place_of ts) i x y) w vs after) (sym h)
          (subst (λ i. GoesBin all n (j || joins_once o) (expr.Binary (place_of ts) o x i) w vs after) (sym a) g)))
      same_op o h v vs w after d g (first_goes_on a b) = let c = bin_stops all g a in let i = ap length (c.0) in let f = no_more (of_goes_bin all (t.is)) in omega arith
      same_op o h v vs w after d g (second_goes_on a b) = let c = l.longest v vs d in absurd (omega arith)

      go : (w : Expr) (after : List Token) → Extended n j x ts w after → length rest ≤ length after
      go w after (inl s) = let h : op ≡ s.op = cc in same_op (s.op) h (s.right) (s.us) w after (s.operand) (s.more) (meet_bin all (l.is) (s.operand))
      go w after (inr s) = absurd (operator_or_typing _ p (s.meant))

  -- `instanceof` and `as`

  pub bin_tail_no_typing : {n : ℕ} {joined : Bool} {op : TypeOp} {x : Expr} {ts : List Token} → typing_of (kind_of ts) ≡ Some op → (typing_level ≢ suc n) ⊎ (joined ≡ true) → Longest (GoesBin all n joined x) x ts ts
  bin_tail_no_typing {n = n} {joined = j} {x = x} {ts = ts} p q = bin_ends_here (λ z after s. operator_or_typing _ (s.meant) p) (λ z after s. go z after s q)
    where
      go : (z : Expr) (after : List Token) → Typed n j x ts z after → (typing_level ≢ suc n) ⊎ (j ≡ true) → ⊥
      go z after s (inl h) = h (s.level)
      go z after s (inr h) = cc

  pub bin_tail_no_type : {n : ℕ} {joined : Bool} {op : TypeOp} {x : Expr} {ts : List Token} → typing_of (kind_of ts) ≡ Some op → type_of (place_of (drop 1 ts)) (kind_of (drop 1 ts)) ≡ None
      → Longest (GoesBin all n joined x) x ts ts
  bin_tail_no_type p q = bin_ends_here (λ z after s. operator_or_typing _ (s.meant) p) (λ z after s. cc)

  typed : {n : ℕ} {op : TypeOp} {type : TypeTree} {x z : Expr} (ts : List Token) {rest : List Token} → typing_of (kind_of ts) ≡ Some op → typing_level ≡ suc n
      → type_of (place_of (drop 1 ts)) (kind_of (drop 1 ts)) ≡ Some type → GoesBin all n true (expr.Typed (place_of ts) op x type) z (drop 1 (drop 1 ts)) rest → GoesBin all n false x z ts rest
  typed [] p q r g = cc
  typed (t ∷ []) p q r g = cc
  typed (t ∷ u ∷ us) p q r g = typing p q r g

  pub bin_tail_types : {n : ℕ} {op : TypeOp} {type : TypeTree} {x z : Expr} {ts rest : List Token} → typing_of (kind_of ts) ≡ Some op → typing_level ≡ suc n
      → type_of (place_of (drop 1 ts)) (kind_of (drop 1 ts)) ≡ Some type → Longest (GoesBin all n true (expr.Typed (place_of ts) op x type)) z (drop 1 (drop 1 ts)) rest
      → Longest (GoesBin all n false x) z ts rest
  unfolding Extended
  bin_tail_types {n = n} {op = op} {type = type} {x = x} {z = z} {ts = ts} {rest = rest} p q r t =
      let d = typed ts p q r (t.is) in
      goes_on (GoesBin all n false) (Extended n false x ts) bin_ends bin_part z rest d (no_more (of_goes_bin all d)) go
    where
      go : (w : Expr) (after : List Token) → Extended n false x ts w after → length rest ≤ length after
      go w after (inl s) = absurd (operator_or_typing _ (s.meant) p)
      go w after (inr s) =
          let h : op ≡ s.op = cc in
          let i : type ≡ s.type = cc in
          t.longest w after (subst (λ v. GoesBin all n true v w (drop 1 (drop 1 ts)) after) (sym (ap2 (λ o v. expr.Typed (place_of ts) o x v) h i)) (s.more))

  pub bin_tail_types_unjoined : {n : ℕ} {joined : Bool} {op : TypeOp} {type : TypeTree} {x z : Expr} {ts rest : List Token} → typing_of (kind_of ts) ≡ Some op → typing_level ≡ suc n → joined ≡ false
      → type_of (place_of (drop 1 ts)) (kind_of (drop 1 ts)) ≡ Some type → Longest (GoesBin all n true (expr.Typed (place_of ts) op x type)) z (drop 1 (drop 1 ts)) rest
      → Longest (GoesBin all n joined x) z ts rest
  bin_tail_types_unjoined {n = n} {x = x} {z = z} {ts = ts} {rest = rest} p q h r t = subst (λ j. Longest (GoesBin all n j x) z ts rest) (sym h) (bin_tail_types p q r t)

  -- ---- a prefix

  prefix_part : {op : UnaryOp} {y : Expr} {ts rest : List Token} → prefix_of (kind_of ts) ≡ Some op → IsUnary all y ts rest → (z : Expr) × IsUnary all z (drop 1 ts) rest
  prefix_part p (prefix {x = z} q d) = (z, d)
  prefix_part p (no_prefix (a_path d g)) = let a = class_prefix _ p in let b = primary_first all d in let c = number_below all d in absurd (omega arith)

  path_part : {y : Expr} {ts rest : List Token} → prefix_of (kind_of ts) ≡ None → IsUnary all y ts rest → IsPath all y ts rest
  path_part p (prefix q d) = cc
  path_part p (no_prefix d) = d

  prefixed : {op : UnaryOp} {x : Expr} (ts : List Token) {rest : List Token} → prefix_of (kind_of ts) ≡ Some op → IsUnary all x (drop 1 ts) rest → IsUnary all (expr.Unary (place_of ts) op x) ts rest
  prefixed [] p d = cc
  prefixed (t ∷ ts) p d = prefix p d

  pub long_prefix : {op : UnaryOp} {x : Expr} {ts rest : List Token} → prefix_of (kind_of ts) ≡ Some op → Longest (IsUnary all) x (drop 1 ts) rest → Longest (IsUnary all) (expr.Unary (place_of ts) op x) ts rest
  long_prefix {ts = ts} p l = record { is = prefixed ts p (l.is); longest = λ y after d. let a = prefix_part p d in l.longest (a.0) after (a.1) }

  pub prefix_refused : {op : UnaryOp} {ts : List Token} → prefix_of (kind_of ts) ≡ Some op → Nothing (IsUnary all) (drop 1 ts) → Nothing (IsUnary all) ts
  prefix_refused p f y after d = let a = prefix_part p d in f (a.0) after (a.1)

  pub long_unary : {x : Expr} {ts rest : List Token} → prefix_of (kind_of ts) ≡ None → Longest (IsPath all) x ts rest → Longest (IsUnary all) x ts rest
  long_unary p l = record { is = no_prefix (l.is); longest = λ y after d. l.longest y after (path_part p d) }

  pub no_unary : {ts : List Token} → prefix_of (kind_of ts) ≡ None → Nothing (IsPath all) ts → Nothing (IsUnary all) ts
  no_unary p f y after d = f y after (path_part p d)

  -- ---- suffixes

  pub long_path : {x y : Expr} {ts us rest : List Token} → Longest (IsPrimary all) x ts us → Longest (GoesPath all x) y us rest → Longest (IsPath all) y ts rest
  long_path {ts = ts} {rest = rest} l t = record { is = a_path (l.is) (t.is); longest = λ z after d. go d }
    where
      go : {z : Expr} {after : List Token} → IsPath all z ts after → length rest ≤ length after
      go {z = z} {after = after} (a_path d g) = let a = meet_primary all (l.is) d in t.longest z after (along2 (λ c cs. GoesPath all c z cs after) (a.tree) (a.rest) g)

  pub no_path : {ts : List Token} → Nothing (IsPrimary all) ts → Nothing (IsPath all) ts
  no_path f y after (a_path d g) = f _ _ d

  record Suffixed (x : Expr) (ts : List Token) (z : Expr) (rest : List Token) : Type 0 where
    y : Expr
    us : List Token
    first : IsSuffix all x y ts us
    more : GoesPath all y z us rest

  suffix_part : {x : Expr} {ts : List Token} (z : Expr) (rest : List Token) → GoesPath all x z ts rest → (length rest ≡ length ts) ⊎ Suffixed x ts z rest
  suffix_part z rest path_ends = inl refl
  suffix_part z rest (suffix s g) = inr (record { y = _; us = _; first = s; more = g })

  pub path_tail_ends : {x : Expr} {ts : List Token} → Nothing (IsSuffix all x) ts → Longest (GoesPath all x) x ts ts
  path_tail_ends {x = x} {ts = ts} f = stops_here (GoesPath all) (Suffixed x ts) path_ends suffix_part (λ z after s. f (s.y) (s.us) (s.first))

  pub path_tail_goes_on : {x y z : Expr} {ts us rest : List Token} → IsSuffix all x y ts us → Longest (GoesPath all y) z us rest → Longest (GoesPath all x) z ts rest
  path_tail_goes_on {x = x} {z = z} {ts = ts} {rest = rest} s t =
      let d = suffix s (t.is) in
      goes_on (GoesPath all) (Suffixed x ts) path_ends suffix_part z rest d (no_more (of_goes_path all d)) go
    where
      go : (w : Expr) (after : List Token) → Suffixed x ts w after → length rest ≤ length after
      go w after p = let a = meet_suffix all s (p.first) in t.longest w after (along2 (λ c cs. GoesPath all c w cs after) (a.tree) (a.rest) (p.more))
