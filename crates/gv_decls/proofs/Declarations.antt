-- Where no declaration stands, and what their parts read make.
use Rattle.std.proofs.Common.{◌≡◌, ◌≢◌, ◌≤◌, ℕ, Bool, true, false, ◌&&◌, List, [], ◌∷◌, drop, refl, sym, ap, subst, arith, Option, Some, None, MatchBool, ◌⊎◌, inl, inr}
use Rattle.gv_base.specs.declared.refusal.Place.{Place}
use Rattle.gv_spelling.specs.declared.kinds.Keyword.{Keyword}
use Rattle.gv_spelling.specs.declared.kinds.Keyword.TheVariants as keyword
use Rattle.gv_spelling.specs.declared.kinds.Symbol.TheVariants as symbol
use Rattle.gv_lex.specs.declared.token.Token.{Token}
use Rattle.gv_lex.specs.declared.token.TokenKind.{TokenKind}
use Rattle.gv_lex.specs.declared.token.TokenKind.TheVariants as kind
use Rattle.gv_lex.specs.declared.token.Word.TheVariants as word
use Rattle.gv_tree.specs.declared.expr.Expr.{Expr}
use Rattle.gv_tree.specs.declared.ops.Ident.{Ident}
use Rattle.gv_tree.specs.declared.ops.TypeTree.{TypeTree}
use Rattle.gv_tree.specs.declared.ops.VarType.{VarType}
use Rattle.gv_tree.specs.declared.ops.VarType.TheVariants as var
use Rattle.gv_tree.specs.declared.stmt.Decl.{Decl, roll-Decl}
use Rattle.gv_tree.specs.declared.stmt.Var.{Var, roll-Var}
use Rattle.gv_grammar.specs.Tokens.{Eats, EatsKeyword, kind_of, place_of, name_of, type_of, ident, reach}
use Rattle.gv_grammar.specs.Phrases.{Nothing, Takes}
use Rattle.gv_grammar.specs.Stmts.{is_keyword, is_name_token, is_type_name, MayInitial, an_initial, no_initial, MayFinal, is_final, not_final, MayTyped, untyped, with_def, with_type, with_rest, IsValue, value, IsFullValue, IsDecl, decl, IsVarType, var_def, var_typed, AreVars, last_var, more_vars, IsVar, var_alone, var_initial, AreNames, last_of_names, more_names}
use Rattle.gv_grammar.proofs.Lengths.{of_as}
use Rattle.gv_grammar.proofs.Longest.{symbol_eaten, keyword_here}
use Rattle.gv_grammar.proofs.Single.{along, apart, as_same, eaten_same, kind_eaten, same_rest}
use Rattle.gv_grammar.proofs.Stmts.{symbol_missing, final_once, var_type_once, full_value_once}
use Rattle.gv_grammar.proofs.Tails.{Stops, at_comma}
use Rattle.gv_cursor.specs.Reading.{Stopped}
use Rattle.gv_cursor.proofs.Steps.{meant_eaten, not_meant}
use Rattle.gv_decls.specs.Phrases.{IsName, a_name, IsTyped}

-- ---- names

pub name_here : {n : ℕ} (ts : List Token) → name_of (kind_of ts) ≡ Some n → IsName (ident (place_of ts) n) ts (drop 1 ts)
name_here ts h = a_name (meant_eaten ts refl h)

pub no_name : {ts : List Token} → name_of (kind_of ts) ≡ None → Nothing IsName ts
no_name h y after (a_name p) = not_meant h p

pub name_rest : {i j : Ident} {ts us vs : List Token} → IsName i ts us → IsName j ts vs → us ≡ vs
name_rest (a_name p) (a_name q) = let a = as_same p q in a.rest

pub of_name : {i : Ident} {ts us : List Token} → IsName i ts us → Takes 1 ts us
of_name (a_name p) = of_as p

-- a symbol that wasn't eaten isn't there
pub not_there : {ts : List Token} → ((after : List Token) → Eats symbol.Assign ts after → ⊥) → kind_of ts ≢ kind.Symbol symbol.Assign
not_there {ts = ts} f h = f _ (symbol_eaten ts h)

pub no_comma_there : {ts : List Token} → ((after : List Token) → Eats symbol.Comma ts after → ⊥) → kind_of ts ≢ kind.Symbol symbol.Comma
no_comma_there {ts = ts} f h = f _ (symbol_eaten ts h)

keyword_kind : {k : Keyword} (c : TokenKind) → is_keyword k c → (n : ℕ) × (c ≡ kind.Word (word.Keyword k) n)
keyword_kind (kind.Word (word.Keyword j) n) h = (n, ap (λ w. kind.Word (word.Keyword w) n) h)
keyword_kind other h = absurd h

and_false : (a b : Bool) → b ≡ false → a && b ≡ false
and_false true b h = h
and_false false b h = refl

not_type : (place : Place) (c : TokenKind) → type_of place c ≡ None → is_type_name c ≡ false
not_type place (kind.Word word.TypeName n) h = cc
not_type place other h = refl

-- no type here, or none with a name or `...` behind it
abbrev pub NoTypeHere : List Token → Type 0
NoTypeHere ts = (type_of (place_of ts) (kind_of ts) ≡ None) ⊎ ((kind_of (drop 1 ts) ≢ kind.Symbol symbol.Ellipsis) × (is_name_token (kind_of (drop 1 ts)) ≡ false))

module _ (tokens : List Token) where
  -- ---- types

  pub final_read : {ts us : List Token} (f : Bool) → MatchBool f (EatsKeyword keyword.Final ts us) ((us ≡ ts) × ((after : List Token) → EatsKeyword keyword.Final ts after → ⊥)) → MayFinal tokens f ts us
  final_read true p = is_final p
  final_read {ts = ts} false p = subst (λ zs. MayFinal tokens false ts zs) (sym (p.0)) (not_final (λ k. let a = keyword_kind (kind_of ts) k in p.1 _ (keyword_here ts (a.1))))

  pub type_here : {type : TypeTree} (ts : List Token) → type_of (place_of ts) (kind_of ts) ≡ Some type → IsVarType tokens (var.Typed type) ts (drop 1 ts)
  type_here [] h = cc
  type_here (t ∷ ts) h = var_typed h

  pub no_type : {ts : List Token} → ((after : List Token) → EatsKeyword keyword.Def ts after → ⊥) → type_of (place_of ts) (kind_of ts) ≡ None → Nothing (IsVarType tokens) ts
  no_type f h y after (var_def p) = f after p
  no_type f h y after (var_typed p) = cc

  pub def_typed : {ts rest : List Token} → EatsKeyword keyword.Def ts rest → IsTyped tokens (false, Some var.Def) ts rest
  def_typed p = record { is = with_def p; alone = λ h. cc }

  pub rest_typed : {type : TypeTree} (ts : List Token) → type_of (place_of ts) (kind_of ts) ≡ Some type → kind_of (drop 1 ts) ≡ kind.Symbol symbol.Ellipsis
      → IsTyped tokens (true, Some (var.Typed type)) ts (drop 1 (drop 1 ts))
  rest_typed [] h p = cc
  rest_typed (t ∷ ts) h p = record { is = with_rest h (symbol_eaten ts p); alone = λ e. cc }

  pub type_typed : {type : TypeTree} (ts : List Token) → type_of (place_of ts) (kind_of ts) ≡ Some type → is_name_token (kind_of (drop 1 ts)) ≡ true
      → IsTyped tokens (false, Some (var.Typed type)) ts (drop 1 ts)
  type_typed [] h p = cc
  type_typed (t ∷ ts) h p = record { is = with_type h p; alone = λ e. cc }

  pub untyped_here : (ts : List Token) → is_name_token (kind_of ts) ≡ true → NoTypeHere ts → kind_of (drop 1 ts) ≢ kind.Symbol symbol.Ellipsis → IsTyped tokens (false, None) ts ts
  untyped_here [] n h f = cc
  untyped_here (t ∷ ts) n (inl h) f = record { is = untyped n (ap (λ b. b && is_name_token (kind_of ts)) (not_type t.place t.kind h)); alone = λ e. f }
  untyped_here (t ∷ ts) n (inr h) f = record { is = untyped n (and_false (is_type_name t.kind) (is_name_token (kind_of ts)) (h.1)); alone = λ e. f }

  -- nothing of this kind, and no name alone
  no_type_typed : {ts rest : List Token} {r : Bool} {w : Option VarType} → ((after : List Token) → EatsKeyword keyword.Def ts after → ⊥) → type_of (place_of ts) (kind_of ts) ≡ None
      → (is_name_token (kind_of ts) ≡ false) ⊎ (kind_of (drop 1 ts) ≡ kind.Symbol symbol.Ellipsis) → MayTyped tokens r w ts rest → (w ≡ None → kind_of (drop 1 ts) ≢ kind.Symbol symbol.Ellipsis) → ⊥
  no_type_typed f h (inl n) (untyped a b) g = cc
  no_type_typed f h (inr n) (untyped a b) g = g refl n
  no_type_typed f h n (with_def p) g = f _ p
  no_type_typed f h n (with_type p q) g = cc
  no_type_typed f h n (with_rest p q) g = cc

  not_typed_behind : {ts rest : List Token} {r : Bool} {w : Option VarType} → ((after : List Token) → EatsKeyword keyword.Def ts after → ⊥) → kind_of (drop 1 ts) ≢ kind.Symbol symbol.Ellipsis
      → is_name_token (kind_of (drop 1 ts)) ≡ false → (is_name_token (kind_of ts) ≡ false) ⊎ (kind_of (drop 1 ts) ≡ kind.Symbol symbol.Ellipsis) → MayTyped tokens r w ts rest
      → (w ≡ None → kind_of (drop 1 ts) ≢ kind.Symbol symbol.Ellipsis) → ⊥
  not_typed_behind f e k (inl n) (untyped a b) g = cc
  not_typed_behind f e k (inr n) (untyped a b) g = g refl n
  not_typed_behind f e k n (with_def p) g = f _ p
  not_typed_behind f e k n (with_type p q) g = cc
  not_typed_behind f e k n (with_rest p q) g = e (kind_eaten q)

  pub not_typed : {ts : List Token} → ((after : List Token) → EatsKeyword keyword.Def ts after → ⊥) → NoTypeHere ts → (is_name_token (kind_of ts) ≡ false) ⊎ (kind_of (drop 1 ts) ≡ kind.Symbol symbol.Ellipsis)
      → Nothing (IsTyped tokens) ts
  not_typed f (inl h) n y after d = no_type_typed f h n (d.is) (d.alone)
  not_typed f (inr h) n y after d = not_typed_behind f (h.0) (h.1) n (d.is) (d.alone)

  -- ---- what a `=` brings

  pub initial_here : {x : Expr} {ts us rest : List Token} → Eats symbol.Assign ts us → IsValue tokens x us rest → MayInitial tokens (Some x) ts rest
  initial_here p (value d r) = an_initial p d r

  pub no_value_behind : {ts us : List Token} → Eats symbol.Assign ts us → Nothing (Stopped (IsValue tokens)) us → Nothing (Stopped (MayInitial tokens)) ts
  no_value_behind {ts = ts} {us = us} p f y after d = go (d.is) (d.stops)
    where
      go : {y : Option Expr} {after : List Token} → MayInitial tokens y ts after → Stops after → ⊥
      go (an_initial {y = y} {rest = r} q e r2) h = f y r (record { is = along (λ zs. IsValue tokens y zs r) (same_rest p q) (value e r2); stops = h })
      go (no_initial g) h = g (kind_eaten p)

  pub initial_goes_on : {ts : List Token} → ((after : List Token) → Eats symbol.Assign ts after → ⊥) → reach (kind_of ts) ≤ 12 → Nothing (Stopped (MayInitial tokens)) ts
  initial_goes_on {ts = ts} f l y after d = go (d.is) (d.stops)
    where
      go : {y : Option Expr} {after : List Token} → MayInitial tokens y ts after → Stops after → ⊥
      go (an_initial q e r) h = f _ q
      go (no_initial g) h = omega arith

  -- ---- variables

  pub var_here : {i : Ident} {ts rest : List Token} → IsName i ts rest → ((after : List Token) → Eats symbol.Assign rest after → ⊥) → IsVar tokens (roll-Var (record { ident = i; initial = None })) ts rest
  var_here (a_name p) f = var_alone p (not_there f)

  pub var_with : {i : Ident} {x : Expr} {ts us vs rest : List Token} → IsName i ts us → Eats symbol.Assign us vs → IsFullValue tokens x vs rest → IsVar tokens (roll-Var (record { ident = i; initial = Some x })) ts rest
  var_with (a_name p) q d = var_initial p q d

  pub no_var_name : {ts : List Token} → Nothing IsName ts → Nothing (Stopped (IsVar tokens)) ts
  no_var_name {ts = ts} f y after d = go (d.is)
    where
      go : {y : Var} {after : List Token} → IsVar tokens y ts after → ⊥
      go (var_alone p g) = f _ _ (a_name p)
      go (var_initial p c e) = f _ _ (a_name p)

  pub no_var_value : {i : Ident} {ts us vs : List Token} → IsName i ts us → Eats symbol.Assign us vs → Nothing (Stopped (IsFullValue tokens)) vs → Nothing (Stopped (IsVar tokens)) ts
  no_var_value {ts = ts} {us = us} {vs = vs} n p f y after d = go (d.is) (d.stops)
    where
      go : {y : Var} {after : List Token} → IsVar tokens y ts after → Stops after → ⊥
      go (var_alone q g) h = symbol_missing (name_rest (a_name q) n) g p
      go (var_initial {x = x} {rest = r} q c e) h = f x r (record { is = along (λ zs. IsFullValue tokens x zs r) (eaten_same (name_rest n (a_name q)) p c) e; stops = h })

  pub var_goes_on : {i : Ident} {ts us : List Token} → IsName i ts us → ((after : List Token) → Eats symbol.Assign us after → ⊥) → reach (kind_of us) ≤ 12 → Nothing (Stopped (IsVar tokens)) ts
  var_goes_on {ts = ts} {us = us} n f l y after d = go (d.is) (d.stops)
    where
      go : {y : Var} {after : List Token} → IsVar tokens y ts after → Stops after → ⊥
      go (var_alone q g) h = let a : Stops us = along Stops (name_rest n (a_name q)) h in omega arith
      go (var_initial {vs = vs2} q c e) h = f vs2 (along (λ zs. Eats symbol.Assign zs vs2) (name_rest n (a_name q)) c)

  -- where a variable ends
  pub var_rest : {x y : Var} {ts us vs : List Token} → IsVar tokens x ts us → IsVar tokens y ts vs → Stops us → Stops vs → us ≡ vs
  var_rest (var_alone p f) (var_alone q g) h i = let a = as_same p q in a.rest
  var_rest (var_alone p f) (var_initial q c e) h i = let a = as_same p q in absurd (symbol_missing (a.rest) f c)
  var_rest (var_initial p c d) (var_alone q g) h i = let a = as_same p q in absurd (symbol_missing (sym (a.rest)) g c)
  var_rest (var_initial p c d) (var_initial {x = y} {rest = r} q c2 e) h i =
      let a = as_same p q in
      let b = full_value_once tokens d (along (λ zs. IsFullValue tokens y zs r) (eaten_same (a.rest) c c2) e) h i in
      b.rest

  pub no_vars_var : {ts : List Token} → Nothing (Stopped (IsVar tokens)) ts → Nothing (Stopped (AreVars tokens)) ts
  no_vars_var {ts = ts} f y after d = go (d.is) (d.stops)
    where
      go : {y : List Var} {after : List Token} → AreVars tokens y ts after → Stops after → ⊥
      go (last_var e g) h = f _ _ (record { is = e; stops = h })
      go (more_vars e c g) h = f _ _ (record { is = e; stops = at_comma c })

  pub no_more_vars : {x : Var} {ts us vs : List Token} → Stopped (IsVar tokens) x ts us → Eats symbol.Comma us vs → Nothing (Stopped (AreVars tokens)) vs → Nothing (Stopped (AreVars tokens)) ts
  no_more_vars {x = x} {ts = ts} {us = us} {vs = vs} v p f y after d = go (d.is) (d.stops)
    where
      go : {y : List Var} {after : List Token} → AreVars tokens y ts after → Stops after → ⊥
      go (last_var e g) h = symbol_missing (var_rest e (v.is) h (v.stops)) g p
      go (more_vars {vs = xs} {rest = r} e c g) h = f xs r (record { is = along (λ zs. AreVars tokens xs zs r) (eaten_same (var_rest (v.is) e (v.stops) (at_comma c)) p c) g; stops = h })

  -- ---- declarations

  pub decl_here : {final : Bool} {w : VarType} {xs : List Var} {ts us ws rest : List Token} → MayFinal tokens final ts us → IsVarType tokens w us ws → AreVars tokens xs ws rest
      → IsDecl tokens (roll-Decl (record { place = place_of ts; is_final = final; written = w; vars = xs })) ts rest
  decl_here p v d = decl p v d

  pub no_decl_type : {final : Bool} {ts us : List Token} → MayFinal tokens final ts us → Nothing (IsVarType tokens) us → Nothing (Stopped (IsDecl tokens)) ts
  no_decl_type {ts = ts} {us = us} p f y after d = go (d.is)
    where
      go : {y : Decl} {after : List Token} → IsDecl tokens y ts after → ⊥
      go (decl {written = w} {ws = ws} q v e) = let a = final_once tokens p q in f w ws (along (λ zs. IsVarType tokens w zs ws) (a.rest) v)

  pub no_decl_vars : {final : Bool} {w : VarType} {ts us ws : List Token} → MayFinal tokens final ts us → IsVarType tokens w us ws → Nothing (Stopped (AreVars tokens)) ws → Nothing (Stopped (IsDecl tokens)) ts
  no_decl_vars {w = w} {ts = ts} {us = us} {ws = ws} p v f y after d = go (d.is) (d.stops)
    where
      go : {y : Decl} {after : List Token} → IsDecl tokens y ts after → Stops after → ⊥
      go (decl {written = w2} {vs = xs} {ws = ws2} {rest = r} q v2 e) h =
          let a = final_once tokens p q in
          let b = var_type_once tokens v (along (λ zs. IsVarType tokens w2 zs ws2) (a.rest) v2) in
          f xs r (record { is = along (λ zs. AreVars tokens xs zs r) (b.rest) e; stops = h })

  -- ---- names before a parenthesis

  pub last_name : {i : Ident} {ts us rest : List Token} → IsName i ts us → Eats symbol.RightParen us rest → AreNames tokens (i ∷ []) ts rest
  last_name (a_name p) c = last_of_names p c

  pub one_more_name : {i : Ident} {js : List Ident} {ts us vs rest : List Token} → IsName i ts us → Eats symbol.Comma us vs → AreNames tokens js vs rest → AreNames tokens (i ∷ js) ts rest
  one_more_name (a_name p) c d = more_names p c d

  pub no_names_name : {ts : List Token} → Nothing IsName ts → Nothing (AreNames tokens) ts
  no_names_name f y after (last_of_names p c) = f _ _ (a_name p)
  no_names_name f y after (more_names p c d) = f _ _ (a_name p)

  pub no_names_comma : {i : Ident} {ts us : List Token} → IsName i ts us → ((after : List Token) → Eats symbol.RightParen us after → ⊥) → ((after : List Token) → Eats symbol.Comma us after → ⊥) → Nothing (AreNames tokens) ts
  no_names_comma n f g y after (last_of_names p c) = f _ (along (λ zs. Eats symbol.RightParen zs after) (name_rest n (a_name p)) c)
  no_names_comma n f g y after (more_names {vs = vs} p c d) = g _ (along (λ zs. Eats symbol.Comma zs vs) (name_rest n (a_name p)) c)

  pub no_more_names : {i : Ident} {ts us vs : List Token} → IsName i ts us → Eats symbol.Comma us vs → Nothing (AreNames tokens) vs → Nothing (AreNames tokens) ts
  no_more_names n p f y after (last_of_names q c) = let a = apart (name_rest n (a_name q)) p c in cc
  no_more_names n p f y after (more_names {ns = js} q c d) = f js after (along (λ zs. AreNames tokens js zs after) (eaten_same (name_rest n (a_name q)) p c) d)
