-- The head of a `for` over the elements of a value, and where such a `for` goes no further.
use Rattle.std.proofs.Common.{◌≡◌, ◌≢◌, ℕ, Bool, true, false, List, drop, length, refl, sym, ap, subst, arith, MatchBool, Option, Some, None, ◌∙◌}
use Rattle.std.specs.Option.{is_some}
use Rattle.gv_spelling.specs.declared.kinds.Keyword.TheVariants as keyword
use Rattle.gv_spelling.specs.declared.kinds.Symbol.TheVariants as symbol
use Rattle.gv_lex.specs.declared.token.Token.{Token}
use Rattle.gv_lex.specs.declared.token.TokenKind.TheVariants as kind
use Rattle.gv_tree.specs.declared.expr.Expr.{Expr}
use Rattle.gv_tree.specs.declared.ops.Ident.{Ident}
use Rattle.gv_tree.specs.declared.ops.VarType.{VarType}
use Rattle.gv_tree.specs.declared.stmt.Stmt.{Stmt}
use Rattle.gv_tree.specs.declared.stmt.Stmt.TheVariants as stmt
use Rattle.gv_grammar.specs.Tokens.{Eats, EatsKeyword, EatsAs, eats_as, kind_of, place_of, name_of, reach}
use Rattle.gv_grammar.specs.Exprs.{IsExpr}
use Rattle.gv_grammar.specs.Meeting.{Meet, one, first_goes_on, second_goes_on, Level}
use Rattle.gv_grammar.specs.Phrases.{Longest, Nothing}
use Rattle.gv_grammar.specs.Stmts.{begins_typed, is_name_token, MayLine, MayTyped, untyped, with_def, with_type, with_rest, IsValue, value, IsStmt, for_in, for_parts, IsForIn, by_in, by_colon, MayBegin, begin_decl, begin_value, begin_nothing, var_def, var_typed, IsBody}
use Rattle.gv_grammar.proofs.Longest.{as_rest, symbol_eaten}
use Rattle.gv_grammar.proofs.Meets.{meet_expr}
use Rattle.gv_grammar.proofs.Single.{along, along2, eaten_same, kind_eaten, keyword_same, as_same}
use Rattle.gv_grammar.proofs.StmtFirsts.{keyword_eaten, keyword_at, typed_at, open_at, named_class, semicolon_at, stmt_first, decl_first}
use Rattle.gv_grammar.proofs.Stmts.{keyword_or_symbol, keyword_or_name, type_or_def, untyped_or_type, untyped_or_rest, decl_or_in, for_in_once, for_in_rest, typed_once, value_once, may_line_once}
use Rattle.gv_grammar.proofs.Tails.{Stops, at_paren}
use Rattle.gv_cursor.specs.Reading.{Stopped}
use Rattle.gv_decls.specs.Phrases.{IsName, a_name, IsTyped}
use Rattle.gv_blocks.specs.Phrases.{IsForInHead, for_in_head, BeginsParts, begins_parts}

semicolon_stops : {ts rest : List Token} → Eats symbol.Semicolon ts rest → Stops ts
semicolon_stops p = let e = ap reach (kind_eaten p) in omega arith

pub some_name : (o : Option ℕ) → is_some o ≡ true → (n : ℕ) × (o ≡ Some n)
some_name None e = cc
some_name (Some n) e = (n, refl)

pub none_name : (o : Option ℕ) → is_some o ≡ false → o ≡ None
none_name None e = refl
none_name (Some n) e = cc

module _ (tokens : List Token) where
  as_typed : {others : List Token} {w : Option VarType} {ts rest : List Token} → MayTyped others false w ts rest → MayTyped tokens false w ts rest
  as_typed (untyped p q) = untyped p q
  as_typed (with_def p) = with_def p
  as_typed (with_type p q) = with_type p q

  as_follows : {others : List Token} {ts rest : List Token} → IsForIn others ts rest → IsForIn tokens ts rest
  as_follows (by_in p) = by_in p
  as_follows (by_colon p) = by_colon p

  -- what stands behind the `(`
  pub record Head (vs : List Token) : Type 0 where
    pub w : Option VarType
    pub n : ℕ
    pub ws : List Token
    pub xs : List Token
    pub ys : List Token
    pub typed : MayTyped tokens false w vs ws
    pub named : EatsAs name_of n ws xs
    pub follows : IsForIn tokens xs ys

  pub head_of : {ts us vs : List Token} → IsForInHead ts → EatsKeyword keyword.For ts us → Eats symbol.LeftParen us vs → Head vs
  head_of (for_in_head {w = w} {n = n} {ws = ws} {xs = xs} {ys = ys} p2 q2 t m i) p q =
      record { w = w; n = n; ws = ws; xs = xs; ys = ys; typed = along (λ zs. MayTyped tokens false w zs ws) (eaten_same (keyword_same p p2) q q2) (as_typed t); named = m; follows = as_follows i }

  alone_of : {w : Option VarType} {n : ℕ} {vs ws xs ys : List Token} → MayTyped tokens false w vs ws → EatsAs name_of n ws xs → IsForIn tokens xs ys → w ≡ None → kind_of (drop 1 vs) ≢ kind.Symbol symbol.Ellipsis
  alone_of (untyped p q) m i h = let a = for_in_rest tokens i in let b = as_rest m in λ k. a (ap kind_of b ∙ k)
  alone_of (with_def p) m i h = cc
  alone_of (with_type p q) m i h = cc

  -- the type there isn't refused
  pub typed_there : {vs : List Token} → Head vs → Nothing (IsTyped tokens) vs → ⊥
  typed_there h f = f (false, h.w) (h.ws) (record { is = h.typed; alone = alone_of (h.typed) (h.named) (h.follows) })

  pub record Typed (r : Bool) (w : Option VarType) (vs us : List Token) : Type 0 where
    pub plain : r ≡ false
    pub n : ℕ
    pub xs : List Token
    pub ys : List Token
    pub typed : MayTyped tokens false w vs us
    pub named : EatsAs name_of n us xs
    pub follows : IsForIn tokens xs ys

  -- what is read as its type is that of the head
  pub typed_here : {r : Bool} {w : Option VarType} {vs us : List Token} → Head vs → MayTyped tokens r w vs us → Typed r w vs us
  typed_here {r = r} {w = w} {vs = vs} {us = us} h d = go (h.typed) (h.named) (h.follows) d
    where
      go : {r : Bool} {v w : Option VarType} {n : ℕ} {vs us ws xs ys : List Token} → MayTyped tokens false v vs ws → EatsAs name_of n ws xs → IsForIn tokens xs ys → MayTyped tokens r w vs us → Typed r w vs us
      go (untyped a b) m i (untyped a2 b2) = record { plain = refl; n = _; xs = _; ys = _; typed = untyped a2 b2; named = m; follows = i }
      go (untyped a b) m i (with_def p) = absurd (keyword_or_name p a)
      go (untyped a b) m i (with_type {t = t} {rest = rest} p q) = absurd (untyped_or_type tokens t rest a b p q)
      go (untyped a b) m i (with_rest p q) = absurd (untyped_or_rest tokens m (for_in_rest tokens i) q)
      go (with_def p) m i (untyped a b) = absurd (keyword_or_name p a)
      go {n = n} {xs = xs} (with_def p) m i (with_def q) = record { plain = refl; n = n; xs = xs; ys = _; typed = with_def q; named = along (λ zs. EatsAs name_of n zs xs) (keyword_same q p) m; follows = i }
      go (with_def p) m i (with_type {t = t} q a) = let b = keyword_eaten p in absurd (type_or_def t.place t.kind q (b.1))
      go (with_def p) m i (with_rest {t = t} q a) = let b = keyword_eaten p in absurd (type_or_def t.place t.kind q (b.1))
      go (with_type {t = t} {rest = rest} p q) m i (untyped a b) = absurd (untyped_or_type tokens t rest a b p q)
      go (with_type {t = t} p q) m i (with_def a) = let b = keyword_eaten a in absurd (type_or_def t.place t.kind p (b.1))
      go (with_type p q) m i (with_type p2 q2) = record { plain = refl; n = _; xs = _; ys = _; typed = with_type p2 q2; named = m; follows = i }
      go (with_type p q) m i (with_rest p2 q2) = let a = ap is_name_token (kind_eaten q2) in cc

  pub name_there : {r : Bool} {w : Option VarType} {vs us : List Token} → Typed r w vs us → Nothing IsName us → ⊥
  name_there t f = f _ (t.xs) (a_name (t.named))

  -- what is read as its name is that of the head
  pub record Named (w : Option VarType) (i : Ident) (vs ws xs : List Token) : Type 0 where
    pub n : ℕ
    pub ys : List Token
    pub typed : MayTyped tokens false w vs ws
    pub named : EatsAs name_of n ws xs
    pub is_name : i ≡ record { place = place_of ws; name = n }
    pub follows : IsForIn tokens xs ys

  pub named_here : {r : Bool} {w : Option VarType} {i : Ident} {vs ws xs : List Token} → Typed r w vs ws → IsName i ws xs → Named w i vs ws xs
  named_here t (a_name {n = n} q) =
      let a = as_same q (t.named) in record { n = n; ys = t.ys; typed = t.typed; named = q; is_name = refl; follows = along (λ ks. IsForIn tokens ks (t.ys)) (a.rest) (t.follows) }

  pub follows_there : {w : Option VarType} {i : Ident} {vs ws xs us : List Token} → Named w i vs ws xs → us ≡ xs → ((after : List Token) → EatsKeyword keyword.In xs after → ⊥) → ((after : List Token) → Eats symbol.Colon us after → ⊥) → ⊥
  follows_there m e f g = go (m.follows) e f g
    where
      go : {us xs ys : List Token} → IsForIn tokens xs ys → us ≡ xs → ((after : List Token) → EatsKeyword keyword.In xs after → ⊥) → ((after : List Token) → Eats symbol.Colon us after → ⊥) → ⊥
      go (by_in p) e f g = f _ p
      go {ys = ys} (by_colon p) e f g = g ys (along (λ ks. Eats symbol.Colon ks ys) e p)

  -- the head, up to the value
  pub record Headed (w : Option VarType) (i : Ident) (ts vs ws ys : List Token) : Type 0 where
    pub us : List Token
    pub xs : List Token
    pub n : ℕ
    pub no_parts : BeginsParts tokens ts → ⊥
    pub word : EatsKeyword keyword.For ts us
    pub opened : Eats symbol.LeftParen us vs
    pub typed : MayTyped tokens false w vs ws
    pub named : EatsAs name_of n ws xs
    pub is_name : i ≡ record { place = place_of ws; name = n }
    pub follows : IsForIn tokens xs ys

  -- what stands behind the head of each statement there
  record FromValue (ys after : List Token) : Type 0 where
    x : Expr
    b : Stmt
    zs : List Token
    qs : List Token
    bs : List Token
    read : IsValue tokens x ys zs
    close : Eats symbol.RightParen zs qs
    line : MayLine qs bs
    body : IsBody tokens b bs after

  -- a head and a beginning before a `;`
  head_or_begin : {w : Option VarType} {j : Option Stmt} {n : ℕ} {ts us vs ws xs ys es bs : List Token} → (BeginsParts tokens ts → ⊥) → EatsKeyword keyword.For ts us → Eats symbol.LeftParen us vs
      → MayTyped tokens false w vs ws → EatsAs name_of n ws xs → IsForIn tokens xs ys → MayBegin tokens j vs es → Eats symbol.Semicolon es bs → ⊥
  head_or_begin g p q t m i (begin_value f (value e r)) s = g (begins_parts p q f e s)
  head_or_begin {vs = vs} g p q (untyped a b) m i (begin_decl e) s = let c = decl_first tokens e in let f = open_at vs (let k = named_class (kind_of vs) a in omega arith) b in omega arith
  head_or_begin g p q (untyped a b) m i (begin_nothing k) s = let c = ap is_name_token k in cc
  head_or_begin g p q (with_def a) m i (begin_decl e) s = decl_or_in tokens e s (var_def a) m i
  head_or_begin g p q (with_def a) m i (begin_nothing k) s = keyword_or_symbol a s
  head_or_begin g p q (with_type a b) m i (begin_decl e) s = decl_or_in tokens e s (var_typed a) m i
  head_or_begin g p q (with_type {t = t} {rest = us} a b) m i (begin_nothing k) s = let c = typed_at t us a b in let d = semicolon_at s in omega arith

  at_value : {w : Option VarType} {i : Ident} {y : Stmt} {ts vs ws ys after : List Token} → Headed w i ts vs ws ys → IsStmt tokens y ts after → FromValue ys after
  at_value h (for_in {w = w} {n = n} {x = x} {b = b} {ws = ws} {xs = xs} {ys = ys} {zs = zs} {qs = qs} {bs = bs} p q t m i d r l e) =
      let a = typed_once tokens (h.typed) (h.named) (for_in_rest tokens (h.follows)) (along (λ ks. MayTyped tokens false w ks ws) (eaten_same (keyword_same (h.word) p) (h.opened) q) t) m (for_in_rest tokens i) in
      let c = as_same (h.named) (along (λ ks. EatsAs name_of n ks xs) (a.behind) m) in
      let f = for_in_once tokens (h.follows) (along (λ ks. IsForIn tokens ks ys) (c.rest) i) in
      record { x = x; b = b; zs = zs; qs = qs; bs = bs; read = along (λ ks. IsValue tokens x ks zs) f d; close = r; line = l; body = e }
  at_value h (for_parts {i = i} {ws = ws} p q b s c t u r e) =
      absurd (head_or_begin (h.no_parts) (h.word) (h.opened) (h.typed) (h.named) (h.follows) (along (λ ks. MayBegin tokens i ks ws) (eaten_same (keyword_same (h.word) p) (h.opened) q) b) s)
  at_value h d = let a = stmt_first tokens d in let b = keyword_at (h.word) in absurd (omega arith)

  pub no_in_value : {w : Option VarType} {i : Ident} {ts vs ws ys : List Token} → Headed w i ts vs ws ys → Nothing (Stopped (IsValue tokens)) ys → Nothing (Stopped (IsStmt tokens)) ts
  no_in_value h f y after d = let a = at_value h (d.is) in f (a.x) (a.zs) (record { is = a.read; stops = at_paren (a.close) })

  pub no_in_close : {w : Option VarType} {i : Ident} {x : Expr} {ts vs ws ys zs : List Token} → Headed w i ts vs ws ys → Stopped (IsValue tokens) x ys zs → ((after : List Token) → Eats symbol.RightParen zs after → ⊥)
      → Nothing (Stopped (IsStmt tokens)) ts
  no_in_close h v f y after d =
      let a = at_value h (d.is) in let b = value_once tokens (v.is) (a.read) (v.stops) (at_paren (a.close)) in f (a.qs) (along (λ ks. Eats symbol.RightParen ks (a.qs)) (b.rest) (a.close))

  pub no_in_body : {w : Option VarType} {i : Ident} {x : Expr} {ts vs ws ys zs qs bs : List Token} → Headed w i ts vs ws ys → Stopped (IsValue tokens) x ys zs → Eats symbol.RightParen zs qs → MayLine qs bs
      → Nothing (Stopped (IsBody tokens)) bs → Nothing (Stopped (IsStmt tokens)) ts
  no_in_body h v c l f y after d =
      let a = at_value h (d.is) in
      let b = value_once tokens (v.is) (a.read) (v.stops) (at_paren (a.close)) in
      let e = may_line_once l (along (λ ks. MayLine ks (a.bs)) (eaten_same (b.rest) c (a.close)) (a.line)) in
      f (a.b) after (record { is = along (λ ks. IsBody tokens (a.b) ks after) e (a.body); stops = d.stops })

  pub for_in_here : {w : Option VarType} {i : Ident} {x : Expr} {b : Stmt} {ts vs ws ys zs qs bs rest : List Token} → Headed w i ts vs ws ys → Stopped (IsValue tokens) x ys zs → Eats symbol.RightParen zs qs → MayLine qs bs
      → Stopped (IsBody tokens) b bs rest → Stopped (IsStmt tokens) (stmt.ForIn (place_of ts) w i x b) ts rest
  for_in_here {w = w} {x = x} {b = b} {ts = ts} {rest = rest} h v c l d =
      record { is = along2 (λ j zs. IsStmt tokens (stmt.ForIn (place_of ts) w j x b) ts zs) (h.is_name) refl (for_in (h.word) (h.opened) (h.typed) (h.named) (h.follows) (v.is) c l (d.is)); stops = d.stops }

  -- ---- where there is no head

  pub no_word : {ts : List Token} → ((us : List Token) → EatsKeyword keyword.For ts us → ⊥) → IsForInHead ts → ⊥
  no_word f (for_in_head p q t m i) = f _ p

  pub no_paren : {ts us : List Token} → EatsKeyword keyword.For ts us → ((vs : List Token) → Eats symbol.LeftParen us vs → ⊥) → IsForInHead ts → ⊥
  no_paren p f (for_in_head {vs = vs} p2 q t m i) = f vs (along (λ zs. Eats symbol.LeftParen zs vs) (keyword_same p p2) q)

  module _ {ts us vs : List Token} (p : EatsKeyword keyword.For ts us) (q : Eats symbol.LeftParen us vs) where
    pub no_type : Nothing (IsTyped tokens) vs → IsForInHead ts → ⊥
    no_type f h = typed_there (head_of h p q) f

    module _ {r : Bool} {w : Option VarType} {ws : List Token} (d : MayTyped tokens r w vs ws) where
      pub rested : r ≡ true → IsForInHead ts → ⊥
      rested e h = let t = typed_here (head_of h p q) d in let a = t.plain in cc

      pub no_name : name_of (kind_of ws) ≡ None → IsForInHead ts → ⊥
      no_name e h = let t = typed_here (head_of h p q) d in unnamed e (t.named)
        where
          unnamed : {n : ℕ} {ws xs : List Token} → name_of (kind_of ws) ≡ None → EatsAs name_of n ws xs → ⊥
          unnamed e (eats_as m) = cc

      pub neither : {xs us2 : List Token} → xs ≡ drop 1 ws → us2 ≡ xs → ((after : List Token) → EatsKeyword keyword.In xs after → ⊥) → ((after : List Token) → Eats symbol.Colon us2 after → ⊥) → IsForInHead ts → ⊥
      neither {xs = xs} {us2 = us2} e k f g h = let t = typed_here (head_of h p q) d in go (t.follows) (as_rest (t.named))
        where
          go : {zs ys : List Token} → IsForIn tokens zs ys → zs ≡ drop 1 ws → ⊥
          go {ys = ys} (by_in a) m = f ys (along (λ ks. EatsKeyword keyword.In ks ys) (e ∙ sym m) a)
          go {ys = ys} (by_colon a) m = g ys (along (λ ks. Eats symbol.Colon ks ys) (k ∙ (e ∙ sym m)) a)

      pub head_here : {n : ℕ} {xs ys : List Token} → r ≡ false → EatsAs name_of n ws xs → IsForIn tokens xs ys → IsForInHead ts
      head_here e m i = for_in_head p q (subst (λ s. MayTyped tokens s w vs ws) e d) m i

      pub follows_colon : (b : Bool) {n : ℕ} {xs us2 : List Token} (new : List Token) → r ≡ false → EatsAs name_of n ws xs → us2 ≡ xs → ((after : List Token) → EatsKeyword keyword.In xs after → ⊥)
          → MatchBool b (Eats symbol.Colon us2 new) ((new ≡ us2) × ((after : List Token) → Eats symbol.Colon us2 after → ⊥)) → MatchBool b (IsForInHead ts) (IsForInHead ts → ⊥)
      follows_colon true new e m k f h = head_here e m (by_colon (along (λ zs. Eats symbol.Colon zs new) (sym k) h))
      follows_colon false new e m k f h = neither (as_rest m) k f (h.1)

  -- ---- where there are parts, and where not

  expr_there : {x z : Expr} {ts rest us : List Token} → Longest (IsExpr (length tokens)) x ts rest → IsExpr (length tokens) z ts us → Stops us → rest ≡ us
  expr_there {x = x} {z = z} {ts = ts} {rest = rest} {us = us} l d f = go (meet_expr (length tokens) (l.is) d)
    where
      go : Meet (Level 12) x rest z us → rest ≡ us
      go (one p q) = q
      go (first_goes_on p q) = absurd (let a = p.by in omega arith)
      go (second_goes_on p q) = absurd (let a = l.longest z us d in omega arith)

  pub no_parts_word : {ts : List Token} → ((us : List Token) → EatsKeyword keyword.For ts us → ⊥) → BeginsParts tokens ts → ⊥
  no_parts_word f (begins_parts p q t d s) = f _ p

  pub no_parts_paren : {ts us : List Token} → EatsKeyword keyword.For ts us → ((vs : List Token) → Eats symbol.LeftParen us vs → ⊥) → BeginsParts tokens ts → ⊥
  no_parts_paren p f (begins_parts {vs = vs} p2 q t d s) = f vs (along (λ zs. Eats symbol.LeftParen zs vs) (keyword_same p p2) q)

  module _ {ts us vs : List Token} (p : EatsKeyword keyword.For ts us) (q : Eats symbol.LeftParen us vs) where
    pub no_parts_typed : begins_typed vs ≡ true → BeginsParts tokens ts → ⊥
    no_parts_typed e (begins_parts p2 q2 t d s) = let a = along (λ zs. begins_typed zs ≡ false) (eaten_same (keyword_same p p2) q q2) t in cc

    pub no_parts_expr : Nothing (IsExpr (length tokens)) vs → BeginsParts tokens ts → ⊥
    no_parts_expr f (begins_parts {x = x} {ws = ws} p2 q2 t d s) = f x ws (along (λ zs. IsExpr (length tokens) x zs ws) (eaten_same (keyword_same p p2) q q2) d)

    pub no_parts_semicolon : {x : Expr} {ws : List Token} → Longest (IsExpr (length tokens)) x vs ws → kind_of ws ≢ kind.Symbol symbol.Semicolon → BeginsParts tokens ts → ⊥
    no_parts_semicolon l f (begins_parts {x = x} {ws = ws} p2 q2 t d s) =
        let a = expr_there l (along (λ zs. IsExpr (length tokens) x zs ws) (eaten_same (keyword_same p p2) q q2) d) (semicolon_stops s) in f (ap kind_of a ∙ kind_eaten s)

    pub parts_here : {x : Expr} {ws : List Token} → begins_typed vs ≡ false → Longest (IsExpr (length tokens)) x vs ws → kind_of ws ≡ kind.Symbol symbol.Semicolon → BeginsParts tokens ts
    parts_here {ws = ws} e l f = begins_parts p q e (l.is) (symbol_eaten ws f)

    pub sees_parts : (b : Bool) {x : Expr} {ws : List Token} → begins_typed vs ≡ false → Longest (IsExpr (length tokens)) x vs ws
        → MatchBool b (kind_of ws ≡ kind.Symbol symbol.Semicolon) (kind_of ws ≢ kind.Symbol symbol.Semicolon) → MatchBool b (BeginsParts tokens ts) (BeginsParts tokens ts → ⊥)
    sees_parts true e l f = parts_here e l f
    sees_parts false e l f = no_parts_semicolon l f
