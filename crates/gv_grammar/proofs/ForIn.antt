-- An expression that begins with a name and `in` goes on with an expression to its end.
use Rattle.std.proofs.Common.{◌≡◌, ℕ, suc, Bool, true, false, ◌||◌, List, ◌∷◌, refl, sym, ap, subst, arith, Some, None, ◌∙◌}
use Rattle.gv_base.specs.declared.refusal.Place.{Place}
use Rattle.gv_lex.specs.declared.token.Token.{Token}
use Rattle.gv_tree.specs.declared.expr.Expr.{Expr, out-Expr}
use denote.Hole.Carrier.{out}
use Rattle.gv_tree.specs.declared.expr.Expr.TheVariants as expr
use Rattle.gv_tree.specs.declared.ops.BinaryOp.{BinaryOp}
use Rattle.gv_tree.specs.declared.ops.BinaryOp.TheVariants as binary
use Rattle.gv_tree.specs.declared.ops.TypeOp.{TypeOp}
use Rattle.gv_tree.specs.declared.ops.TypeTree.{TypeTree}
use Rattle.gv_grammar.specs.Tokens.{kind_of, place_of, binary_of, level_of, joins_once, reach}
use Rattle.gv_grammar.specs.Exprs.{is_target, IsExpr, an_expr, GoesExpr, expr_ends, assigns, IsCond, a_cond, GoesCond, cond_ends, chooses, defaults, IsBin, tightest, a_bin, GoesBin, bin_ends, operator, typing, IsUnary, prefix, no_prefix, a_path, GoesPath, path_ends, suffix, IsPrimary, an_atom}
use Rattle.gv_grammar.proofs.Single.{along, kind_eaten}
use Rattle.gv_grammar.proofs.Firsts.{class, class_prefix, primary_first, suffix_reach}
use Rattle.gv_grammar.proofs.Tails.{reach_operator, operator_or_typing, reach_assign, Stops}
use Rattle.gv_grammar.proofs.Meets.{choice_no_target}

pub binary_no_target : (p : Place) (op : BinaryOp) (x y : Expr) → is_target (expr.Binary p op x y) ≡ false
unfolding is_target out-Expr out
binary_no_target p op x y = refl

pub typed_no_target : (p : Place) (op : TypeOp) (x : Expr) (t : TypeTree) → is_target (expr.Typed p op x t) ≡ false
unfolding is_target out-Expr out
typed_no_target p op x t = refl

pub fourth_once : (op : BinaryOp) → level_of op ≡ 4 → joins_once op ≡ true
fourth_once binary.Less p = refl
fourth_once binary.LessEqual p = refl
fourth_once binary.Greater p = refl
fourth_once binary.GreaterEqual p = refl
fourth_once binary.In p = refl
fourth_once op p = absurd (omega arith)

module _ (all : ℕ) where
  -- ---- what goes on behind one expression goes on behind any

  pub behind_any : {n : ℕ} {j : Bool} {x z : Expr} {ts rest : List Token} → GoesBin all n j x z ts rest → (y : Expr) → (w : Expr) × GoesBin all n j y w ts rest
  behind_any bin_ends y = (y, bin_ends)
  behind_any (operator {op = op} {y = v} {t = t} p q r d g) y = let h = behind_any g (expr.Binary t.place op y v) in (h.0, operator p q r d (h.1))
  behind_any (typing {op = op} {type = type} {t = t} p q r g) y = let h = behind_any g (expr.Typed t.place op y type) in (h.0, typing p q r (h.1))

  pub cond_behind_any : {x z : Expr} {ts rest : List Token} → GoesCond all x z ts rest → (y : Expr) → (w : Expr) × GoesCond all y w ts rest
  cond_behind_any cond_ends y = (y, cond_ends)
  cond_behind_any (chooses q d) y = (_, chooses q d)
  cond_behind_any (defaults q d) y = (_, defaults q d)

  pub bin_target : {n : ℕ} {j : Bool} {x z : Expr} {ts rest : List Token} → GoesBin all n j x z ts rest → is_target x ≡ false → is_target z ≡ false
  bin_target bin_ends h = h
  bin_target {x = x} (operator {op = op} {y = y} {t = t} p q r d g) h = bin_target g (binary_no_target t.place op x y)
  bin_target {x = x} (typing {op = op} {type = type} {t = t} p q r g) h = bin_target g (typed_no_target t.place op x type)

  pub cond_target : {x z : Expr} {ts rest : List Token} → GoesCond all x z ts rest → is_target x ≡ false → is_target z ≡ false
  cond_target cond_ends h = h
  cond_target {x = x} {ts = ts} (chooses {p = p} q d) h = choice_no_target (place_of ts) x p.1 (Some p.0)
  cond_target {x = x} {ts = ts} (defaults {y = y} q d) h = choice_no_target (place_of ts) x y None

  -- ---- a name, and `in`

  pub name_primary : {x : Expr} {t : Token} {ts rest : List Token} → IsPrimary all x (t ∷ ts) rest → class t.kind ≡ 0 → rest ≡ ts
  name_primary (an_atom p) h = refl
  name_primary d h = let a = primary_first all d in absurd (omega arith)

  pub in_path : {x y : Expr} {u : Token} {ts us rest : List Token} → GoesPath all x y ts rest → ts ≡ u ∷ us → binary_of u.kind ≡ Some binary.In → rest ≡ u ∷ us
  in_path path_ends e b = e
  in_path {u = u} (suffix s g) e b = let a = suffix_reach all s in let c = reach_operator u.kind b in let h = ap (λ zs. reach (kind_of zs)) e in absurd (omega arith)

  pub in_unary : {x : Expr} {t u : Token} {us rest : List Token} → IsUnary all x (t ∷ u ∷ us) rest → class t.kind ≡ 0 → binary_of u.kind ≡ Some binary.In → rest ≡ u ∷ us
  in_unary (prefix p d) h b = let a = class_prefix _ p in absurd (omega arith)
  in_unary (no_prefix (a_path d g)) h b = in_path g (name_primary d h) b

  -- what is read ends at the `in`, or goes on behind it with an expression
  pub data After (u : Token) (us : List Token) (n : ℕ) (x : Expr) (rest : List Token) : Type 0 where
    ends_there : rest ≡ u ∷ us → After u us n x rest
    goes_behind : {y : Expr} → IsBin all n y us rest → is_target x ≡ false → After u us n x rest

  -- behind `in` no operator of its level follows
  pub joined_ends : {x z : Expr} {ts rest : List Token} → GoesBin all 3 true x z ts rest → is_target x ≡ false → (rest ≡ ts) × (is_target z ≡ false)
  joined_ends bin_ends h = (refl, h)
  joined_ends (operator {op = op} p q r d g) h = let a = fourth_once op q in cc

  pub behind_operator : (p : Place) (op : BinaryOp) (x y : Expr) {n : ℕ} {z : Expr} {u : Token} {us vs rest : List Token} → n ≡ 3 → op ≡ binary.In → IsBin all n y us vs
      → GoesBin all n (false || joins_once op) (expr.Binary p op x y) z vs rest → After u us (suc n) z rest
  behind_operator p op x y {z = z} {u = u} {us = us} {vs = vs} {rest = rest} e f d g =
      let d3 = subst (λ k. IsBin all k y us vs) e d in
      let g3 = subst (λ k. GoesBin all k (false || joins_once op) (expr.Binary p op x y) z vs rest) e g in
      let g4 = subst (λ o. GoesBin all 3 (false || joins_once o) (expr.Binary p o x y) z vs rest) f g3 in
      let a = joined_ends g4 (binary_no_target p binary.In x y) in
      subst (λ k. After u us (suc k) z rest) (sym e) (goes_behind (a_bin (along (IsBin all 3 y us) (a.0) d3) bin_ends) (a.1))

  pub in_goes : {n : ℕ} {x z : Expr} {u : Token} {ts us rest : List Token} → GoesBin all n false x z ts rest → ts ≡ u ∷ us → binary_of u.kind ≡ Some binary.In → After u us (suc n) z rest
  in_goes bin_ends e b = ends_there e
  in_goes {n = n} {x = x} {u = u} {us = us} (operator {op = op} {y = y} {t = t} {ts = vs} {us = ws} p q r d g) e b =
      let f : t ≡ u = cc in
      let h : us ≡ vs = cc in
      let i : op ≡ binary.In = cc in
      let l = ap level_of i in
      behind_operator t.place op x y (omega arith) i (along (λ zs. IsBin all n y zs ws) h d) g
  in_goes {u = u} (typing {t = t} p q r g) e b = let f : t ≡ u = cc in absurd (operator_or_typing t.kind (ap (λ w. binary_of w.kind) f ∙ b) p)

  pub in_bin : {n : ℕ} {x : Expr} {t u : Token} {us rest : List Token} → IsBin all n x (t ∷ u ∷ us) rest → class t.kind ≡ 0 → binary_of u.kind ≡ Some binary.In → After u us n x rest
  in_bin (tightest d) h b = ends_there (in_unary d h b)
  in_bin {n = suc n} (a_bin d g) h b = go (in_bin d h b) g b
    where
      go : {n : ℕ} {x z : Expr} {u : Token} {us vs rest : List Token} → After u us n x vs → GoesBin all n false x z vs rest → binary_of u.kind ≡ Some binary.In → After u us (suc n) z rest
      go (ends_there e) g b = in_goes g e b
      go (goes_behind {y = y} d p) g b = let a = behind_any g y in goes_behind (a_bin d (a.1)) (bin_target g p)

  -- a condition behind the `in`
  pub data Later (u : Token) (us : List Token) (x : Expr) (rest : List Token) : Type 0 where
    stays_there : rest ≡ u ∷ us → Later u us x rest
    later : {y : Expr} → IsCond all y us rest → is_target x ≡ false → Later u us x rest

  pub in_cond : {x : Expr} {t u : Token} {us rest : List Token} → IsCond all x (t ∷ u ∷ us) rest → class t.kind ≡ 0 → binary_of u.kind ≡ Some binary.In → Later u us x rest
  in_cond (a_cond d g) h b = go (in_bin d h b) g b
    where
      go : {x z : Expr} {u : Token} {us vs rest : List Token} → After u us 10 x vs → GoesCond all x z vs rest → binary_of u.kind ≡ Some binary.In → Later u us z rest
      go (ends_there e) cond_ends b = stays_there e
      go {u = u} (ends_there e) (chooses q d) b = let c = reach_operator u.kind b in let f = ap (λ zs. reach (kind_of zs)) e in let k = ap reach (kind_eaten q) in absurd (omega arith)
      go {u = u} (ends_there e) (defaults q d) b = let c = reach_operator u.kind b in let f = ap (λ zs. reach (kind_of zs)) e in let k = ap reach (kind_eaten q) in absurd (omega arith)
      go (goes_behind {y = y} d p) g b = let a = cond_behind_any g y in later (a_cond d (a.1)) (cond_target g p)

  -- the expression behind the `in`
  pub behind_in : {x : Expr} {t u : Token} {us rest : List Token} → IsExpr all x (t ∷ u ∷ us) rest → class t.kind ≡ 0 → binary_of u.kind ≡ Some binary.In → Stops rest → (y : Expr) × IsExpr all y us rest
  behind_in (an_expr d g) h b s = go (in_cond d h b) g b s
    where
      go : {x z : Expr} {u : Token} {us vs rest : List Token} → Later u us x vs → GoesExpr all x z vs rest → binary_of u.kind ≡ Some binary.In → Stops rest → (y : Expr) × IsExpr all y us rest
      go {u = u} (stays_there e) expr_ends b s = let c = reach_operator u.kind b in let f = ap (λ zs. reach (kind_of zs)) e in absurd (omega arith)
      go {u = u} (stays_there e) (assigns {t = t} p q d) b s = let c = reach_operator u.kind b in let f = ap (λ zs. reach (kind_of zs)) e in let k = reach_assign t.kind p in absurd (omega arith)
      go (later {y = y} d p) expr_ends b s = (y, an_expr d expr_ends)
      go (later d p) (assigns q r f) b s = cc
