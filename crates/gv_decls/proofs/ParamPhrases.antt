-- Where no parameter stands, and what its parts read make.
use Rattle.std.proofs.Common.{◌≡◌, ◌≢◌, ◌<◌, ℕ, Bool, true, false, List, [], ◌∷◌, drop, refl, sym, ap, subst, Option, None, ◌⊎◌, inl, inr, ◌∙◌}
use Rattle.gv_spelling.specs.declared.kinds.Symbol.{Symbol}
use Rattle.gv_spelling.specs.declared.kinds.Symbol.TheVariants as symbol
use Rattle.gv_lex.specs.declared.token.Token.{Token}
use Rattle.gv_lex.specs.declared.token.TokenKind.TheVariants as kind
use Rattle.gv_tree.specs.declared.expr.Arg.TheViews.{out-roll-Param}
use Rattle.gv_tree.specs.declared.expr.Expr.{Expr}
use Rattle.gv_tree.specs.declared.expr.Param.{Param, roll-Param, out-Param}
use Rattle.gv_tree.specs.declared.ops.Ident.{Ident}
use Rattle.gv_tree.specs.declared.ops.VarType.{VarType}
use Rattle.gv_grammar.specs.Tokens.{Eats, EatsAs, kind_of, place_of, name_of, ident, reach}
use Rattle.gv_grammar.specs.Phrases.{Nothing}
use Rattle.gv_grammar.specs.Stmts.{is_name_token, AreParams, no_param, some_params, AreSomeParams, last_param, more_params, IsParam, param, MayInitial, MayFinal, MayTyped, untyped, with_def, with_type, with_rest}
use Rattle.gv_grammar.proofs.Longest.{as_rest}
use Rattle.gv_grammar.proofs.Single.{along, eaten_same, kind_eaten, keyword_same, same_rest}
use Rattle.gv_grammar.proofs.StmtFirsts.{keyword_eaten}
use Rattle.gv_grammar.proofs.Stmts.{keyword_or_name, type_or_def, final_once, untyped_or_type, Closes, by_arrow, by_paren, closes, comma_behind, close_or_comma, initial_rest, param_once, initial_once}
use Rattle.gv_cursor.specs.Reading.{Stopped}
use Rattle.gv_decls.specs.Phrases.{IsName, a_name, IsTyped, IsParamAlone}
use Rattle.gv_decls.proofs.Declarations.{name_rest}

pub closing_symbol : {c : Symbol} → (c ≡ symbol.RightParen) ⊎ (c ≡ symbol.Arrow) → (tokens : List Token) → Closes tokens c
closing_symbol (inl e) tokens = subst (Closes tokens) (sym e) by_paren
closing_symbol (inr e) tokens = subst (Closes tokens) (sym e) by_arrow

module _ (tokens : List Token) where
  -- ---- how a name is declared

  typed_alone : {r : Bool} {w : Option VarType} {n : ℕ} {ts us vs : List Token} → MayTyped tokens r w ts us → EatsAs name_of n us vs → kind_of vs ≢ kind.Symbol symbol.Ellipsis → IsTyped tokens (r, w) ts us
  typed_alone (untyped a b) n f = record { is = untyped a b; alone = λ e h. f (ap kind_of (as_rest n) ∙ h) }
  typed_alone (with_def p) n f = record { is = with_def p; alone = λ e. cc }
  typed_alone (with_type p q) n f = record { is = with_type p q; alone = λ e. cc }
  typed_alone (with_rest p q) n f = record { is = with_rest p q; alone = λ e. cc }

  typed_behind : {r s : Bool} {w v : Option VarType} {ts us vs : List Token} → MayTyped tokens r w ts us → (w ≡ None → kind_of (drop 1 ts) ≢ kind.Symbol symbol.Ellipsis)
      → MayTyped tokens s v ts vs → (v ≡ None → kind_of (drop 1 ts) ≢ kind.Symbol symbol.Ellipsis) → us ≡ vs
  typed_behind (untyped a b) f (untyped a2 b2) g = refl
  typed_behind (untyped a b) f (with_def p) g = absurd (keyword_or_name p a)
  typed_behind (untyped a b) f (with_type {t = t} {rest = rest} p q) g = absurd (untyped_or_type tokens t rest a b p q)
  typed_behind (untyped a b) f (with_rest p q) g = absurd (f refl (kind_eaten q))
  typed_behind (with_def p) f (untyped a b) g = absurd (keyword_or_name p a)
  typed_behind (with_def p) f (with_def q) g = keyword_same p q
  typed_behind (with_def p) f (with_type {t = t} q a) g = let b = keyword_eaten p in absurd (type_or_def t.place t.kind q (b.1))
  typed_behind (with_def p) f (with_rest {t = t} q a) g = let b = keyword_eaten p in absurd (type_or_def t.place t.kind q (b.1))
  typed_behind (with_type {t = t} {rest = rest} p q) f (untyped a b) g = absurd (untyped_or_type tokens t rest a b p q)
  typed_behind (with_type {t = t} p q) f (with_def a) g = let b = keyword_eaten a in absurd (type_or_def t.place t.kind p (b.1))
  typed_behind (with_type p q) f (with_type p2 q2) g = refl
  typed_behind (with_type p q) f (with_rest p2 q2) g = let a = ap is_name_token (kind_eaten q2) in cc
  typed_behind (with_rest p q) f (untyped a b) g = absurd (g refl (kind_eaten q))
  typed_behind (with_rest {t = t} p q) f (with_def a) g = let b = keyword_eaten a in absurd (type_or_def t.place t.kind p (b.1))
  typed_behind (with_rest p q) f (with_type p2 q2) g = let a = ap is_name_token (kind_eaten q) in cc
  typed_behind (with_rest p q) f (with_rest p2 q2) g = same_rest q q2

  -- where the name stands
  pub typed_rest : {a b : Bool × Option VarType} {ts us vs : List Token} → IsTyped tokens a ts us → IsTyped tokens b ts vs → us ≡ vs
  typed_rest d e = typed_behind (d.is) (d.alone) (e.is) (e.alone)

  -- ---- one parameter

  rested : {r : Bool} {p : Param} {ts rest : List Token} → IsParam tokens r p ts rest → (out-Param p).is_rest ≡ r
  rested (param {final = f} {rested = r} {written = w} {n = n} {initial = i} {vs = vs} a t m d) =
      ap (λ q. q.is_rest) (out-roll-Param (record { ident = ident (place_of vs) n; is_final = f; written = w; is_rest = r; initial = i }))

  alone_of : {r : Bool} {p : Param} {ts rest : List Token} → IsParam tokens r p ts rest → 12 < reach (kind_of rest) → kind_of rest ≢ kind.Symbol symbol.Ellipsis → IsParamAlone tokens p ts rest
  alone_of {p = p} {ts = ts} {rest = rest} d h f = record { is = subst (λ r. IsParam tokens r p ts rest) (sym (rested d)) d; stops = h; alone = f }

  pub param_here : {final : Bool} {a : Bool × Option VarType} {i : Ident} {x : Option Expr} {ts us vs ws rest : List Token} → MayFinal tokens final ts us → IsTyped tokens a us vs → IsName i vs ws
      → Stopped (MayInitial tokens) x ws rest → kind_of rest ≢ kind.Symbol symbol.Ellipsis
      → IsParamAlone tokens (roll-Param (record { ident = i; is_final = final; written = a.1; is_rest = a.0; initial = x })) ts rest
  param_here p t (a_name n) d f = alone_of (param p (t.is) n (d.is)) (d.stops) f

  pub no_param_typed : {final : Bool} {ts us : List Token} → MayFinal tokens final ts us → Nothing (IsTyped tokens) us → Nothing (IsParamAlone tokens) ts
  no_param_typed {ts = ts} p f y after d = go (d.is) (d.alone)
    where
      go : {r : Bool} {y : Param} {after : List Token} → IsParam tokens r y ts after → kind_of after ≢ kind.Symbol symbol.Ellipsis → ⊥
      go (param {rested = r} {written = w} {vs = vs} q t n i) k =
          let a = final_once tokens p q in f (r, w) vs (along (λ zs. IsTyped tokens (r, w) zs vs) (a.rest) (typed_alone t n (initial_rest tokens i k)))

  pub no_param_name : {final : Bool} {b : Bool × Option VarType} {ts us vs : List Token} → MayFinal tokens final ts us → IsTyped tokens b us vs → Nothing IsName vs → Nothing (IsParamAlone tokens) ts
  no_param_name {ts = ts} p v f y after d = go (d.is) (d.alone)
    where
      go : {r : Bool} {y : Param} {after : List Token} → IsParam tokens r y ts after → kind_of after ≢ kind.Symbol symbol.Ellipsis → ⊥
      go (param {rested = r} {written = w} {n = m} {vs = vs2} {ws = ws2} q t n i) k =
          let a = final_once tokens p q in
          let b = typed_rest v (along (λ zs. IsTyped tokens (r, w) zs vs2) (a.rest) (typed_alone t n (initial_rest tokens i k))) in
          f _ ws2 (a_name (along (λ zs. EatsAs name_of m zs ws2) b n))

  -- where the name of a parameter ends
  name_behind : {final : Bool} {b : Bool × Option VarType} {i : Ident} {r : Bool} {w : Option VarType} {m : ℕ} {x : Option Expr} {f2 : Bool} {ts us vs ws us2 vs2 ws2 after : List Token}
      → MayFinal tokens final ts us → IsTyped tokens b us vs → IsName i vs ws
      → MayFinal tokens f2 ts us2 → MayTyped tokens r w us2 vs2 → EatsAs name_of m vs2 ws2 → MayInitial tokens x ws2 after → kind_of after ≢ kind.Symbol symbol.Ellipsis → ws ≡ ws2
  name_behind {r = r} {w = w} {m = m} {vs2 = vs2} {ws2 = ws2} p v j q t n i k =
      let a = final_once tokens p q in
      let b = typed_rest v (along (λ zs. IsTyped tokens (r, w) zs vs2) (a.rest) (typed_alone t n (initial_rest tokens i k))) in
      name_rest j (a_name (along (λ zs. EatsAs name_of m zs ws2) b n))

  pub no_param_initial : {final : Bool} {b : Bool × Option VarType} {i : Ident} {ts us vs ws : List Token} → MayFinal tokens final ts us → IsTyped tokens b us vs → IsName i vs ws
      → Nothing (Stopped (MayInitial tokens)) ws → Nothing (IsParamAlone tokens) ts
  no_param_initial {ts = ts} p v j f y after d = go (d.is) (d.stops) (d.alone)
    where
      go : {r : Bool} {y : Param} {after : List Token} → IsParam tokens r y ts after → 12 < reach (kind_of after) → kind_of after ≢ kind.Symbol symbol.Ellipsis → ⊥
      go (param {initial = x} {rest = after} q t n i) h k = f x after (record { is = along (λ zs. MayInitial tokens x zs after) (name_behind p v j q t n i k) i; stops = h })

  pub no_param_rest : {final : Bool} {b : Bool × Option VarType} {i : Ident} {x : Option Expr} {ts us vs ws rest : List Token} → MayFinal tokens final ts us → IsTyped tokens b us vs → IsName i vs ws
      → Stopped (MayInitial tokens) x ws rest → kind_of rest ≡ kind.Symbol symbol.Ellipsis → Nothing (IsParamAlone tokens) ts
  no_param_rest {ts = ts} p v j e l y after d = go (d.is) (d.stops) (d.alone)
    where
      go : {r : Bool} {y : Param} {after : List Token} → IsParam tokens r y ts after → 12 < reach (kind_of after) → kind_of after ≢ kind.Symbol symbol.Ellipsis → ⊥
      go (param {initial = x2} {rest = after} q t n i) h k =
          let a = initial_once tokens (e.is) (along (λ zs. MayInitial tokens x2 zs after) (name_behind p v j q t n i k) i) (e.stops) h in
          k (sym (ap kind_of (a.rest)) ∙ l)

  -- ---- parameters before what closes them

  same_param : {r : Bool} {p q : Param} {ts us vs : List Token} → IsParamAlone tokens p ts us → IsParam tokens r q ts vs → 12 < reach (kind_of vs) → kind_of vs ≢ kind.Symbol symbol.Ellipsis → (p ≡ q) × (us ≡ vs)
  same_param d e h k = let a = param_once tokens (d.is) e (record { stops = d.stops; no_rest = d.alone }) (record { stops = h; no_rest = k }) in (a.tree, a.rest)

  pub some_behind : {c : Symbol} {ts : List Token} → ((after : List Token) → Eats c ts after → ⊥) → Nothing (AreSomeParams tokens c) ts → Nothing (AreParams tokens c) ts
  some_behind f g y after (no_param p) = f after p
  some_behind f g y after (some_params d) = g y after d

  pub no_params_param : {c : Symbol} {ts : List Token} → Closes tokens c → Nothing (IsParamAlone tokens) ts → Nothing (AreSomeParams tokens c) ts
  no_params_param h f y after (last_param d c) = let b = closes tokens h c in f _ _ (alone_of d (b.stops) (b.no_rest))
  no_params_param h f y after (more_params d c g) = let b = comma_behind tokens c in f _ _ (alone_of d (b.stops) (b.no_rest))

  pub last_one : {c : Symbol} {p : Param} {ts us rest : List Token} → IsParamAlone tokens p ts us → Eats c us rest → AreSomeParams tokens c (p ∷ []) ts rest
  last_one d c = last_param (d.is) c

  pub one_more : {c : Symbol} {p : Param} {ps : List Param} {ts us vs rest : List Token} → IsParamAlone tokens p ts us → (out-Param p).is_rest ≡ false → Eats symbol.Comma us vs
      → AreSomeParams tokens c ps vs rest → AreSomeParams tokens c (p ∷ ps) ts rest
  one_more {p = p} {ts = ts} {us = us} d e c g = more_params (subst (λ r. IsParam tokens r p ts us) e (d.is)) c g

  pub no_params_behind : {c : Symbol} {p : Param} {ts us : List Token} → Closes tokens c → IsParamAlone tokens p ts us → ((after : List Token) → Eats c us after → ⊥)
      → ((out-Param p).is_rest ≡ true) ⊎ ((after : List Token) → Eats symbol.Comma us after → ⊥) → Nothing (AreSomeParams tokens c) ts
  no_params_behind {c = close} h d f g y after (last_param e c) =
      let b = closes tokens h c in let a = same_param d e (b.stops) (b.no_rest) in f after (along (λ zs. Eats close zs after) (a.1) c)
  no_params_behind h d f (inl g) y after (more_params e c j) =
      let b = comma_behind tokens c in let a = same_param d e (b.stops) (b.no_rest) in let k = ap (λ q. (out-Param q).is_rest) (a.0) in let l = rested e in cc
  no_params_behind h d f (inr g) y after (more_params {vs = vs} e c j) =
      let b = comma_behind tokens c in let a = same_param d e (b.stops) (b.no_rest) in g vs (along (λ zs. Eats symbol.Comma zs vs) (a.1) c)

  pub no_more_params : {c : Symbol} {p : Param} {ts us vs : List Token} → Closes tokens c → IsParamAlone tokens p ts us → Eats symbol.Comma us vs → Nothing (AreSomeParams tokens c) vs → Nothing (AreSomeParams tokens c) ts
  no_more_params h d p f y after (last_param e c) = let b = closes tokens h c in let a = same_param d e (b.stops) (b.no_rest) in close_or_comma tokens h (sym (a.1)) c p
  no_more_params {c = close} h d p f y after (more_params {ps = ps} {vs = vs2} e c g) =
      let b = comma_behind tokens c in let a = same_param d e (b.stops) (b.no_rest) in f ps after (along (λ zs. AreSomeParams tokens close ps zs after) (eaten_same (a.1) p c) g)
