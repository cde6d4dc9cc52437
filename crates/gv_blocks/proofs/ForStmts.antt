-- The parts of a `for`, and where there are none.
use Rattle.std.proofs.Common.{◌≡◌, ◌≢◌, ◌<◌, ◌≤◌, ℕ, Bool, true, false, ◌&&◌, ◌||◌, List, ◌∷◌, length, refl, ap, arith, Option, Some, None}
use Rattle.gv_base.specs.declared.refusal.Place.{Place}
use Rattle.gv_spelling.specs.declared.kinds.Keyword.{Keyword}
use Rattle.gv_spelling.specs.declared.kinds.Keyword.TheVariants as keyword
use Rattle.gv_spelling.specs.declared.kinds.Symbol.TheVariants as symbol
use Rattle.gv_lex.specs.declared.token.Token.{Token}
use Rattle.gv_lex.specs.declared.token.TokenKind.{TokenKind}
use Rattle.gv_lex.specs.declared.token.TokenKind.TheVariants as kind
use Rattle.gv_lex.specs.declared.token.Word.TheVariants as word
use Rattle.gv_tree.specs.declared.expr.Expr.{Expr}
use Rattle.gv_tree.specs.declared.ops.TypeTree.{TypeTree}
use Rattle.gv_tree.specs.declared.ops.VarType.{VarType}
use Rattle.gv_tree.specs.declared.stmt.Decl.{Decl}
use Rattle.gv_tree.specs.declared.stmt.Stmt.{Stmt}
use Rattle.gv_tree.specs.declared.stmt.Stmt.TheVariants as stmt
use Rattle.gv_grammar.specs.Tokens.{Eats, EatsKeyword, EatsAs, name_of, kind_of, place_of, type_of, begins_expr, reach}
use Rattle.gv_grammar.specs.Exprs.{IsExpr}
use Rattle.gv_grammar.specs.Phrases.{Nothing}
use Rattle.gv_grammar.specs.Stmts.{is_name_token, is_type_name, begins_typed, MayLine, MayTyped, untyped, with_def, with_type, IsForIn, IsValue, value, IsDecl, decl, is_final, not_final, var_def, var_typed, IsStmt, for_in, for_parts, MayBegin, begin_decl, begin_value, begin_nothing, MayValue, some_value, no_value, IsLineAndBody, line_and_body, IsBody}
use Rattle.gv_grammar.proofs.Firsts.{class, begins_class, expr_first}
use Rattle.gv_grammar.proofs.Longest.{symbol_eaten}
use Rattle.gv_grammar.proofs.Single.{along, eaten_same, keyword_same}
use Rattle.gv_grammar.proofs.StmtFirsts.{keyword_eaten, keyword_at, typed_at, open_at, stmt_first, value_first, vars_named}
use Rattle.gv_grammar.proofs.Stmts.{at_semicolon, value_or_in, begin_once, may_value_once, may_line_once}
use Rattle.gv_grammar.proofs.Tails.{Stops, at_paren}
use Rattle.gv_cursor.specs.Reading.{Stopped}
use Rattle.gv_blocks.specs.Phrases.{keyword_begins_decl, word_begins_decl, begins_decl, IsForInHead, for_in_head, BeginsParts, begins_parts}

-- ---- what begins a declaration

keyword_plain : (k : Keyword) (n : ℕ) → keyword_begins_decl k ≡ true → class (kind.Word (word.Keyword k) n) ≡ 7
keyword_plain keyword.Final n p = refl
keyword_plain keyword.Def n p = refl
keyword_plain keyword.Int n p = refl
keyword_plain keyword.Long n p = refl
keyword_plain keyword.Boolean n p = refl
keyword_plain k n p = cc

word_plain : (c : TokenKind) → word_begins_decl c ≡ true → class c ≡ 7
word_plain (kind.Word (word.Keyword k) n) p = keyword_plain k n p
word_plain other p = cc

first_of : (a b : Bool) → a || b ≡ true → b ≡ false → a ≡ true
first_of true b p q = refl
first_of false b p q = cc

second_off : (a b : Bool) → a || b ≡ false → b ≡ false
second_off true b p = cc
second_off false b p = p

on_left : (a b : Bool) → a ≡ true → a || b ≡ true
on_left a b p = rw p refl

type_begins : (place : Place) (c : TokenKind) (b : Bool) {type : TypeTree} → type_of place c ≡ Some type → b ≡ true → word_begins_decl c || (is_type_name c && b) ≡ true
type_begins place (kind.Word (word.Keyword keyword.Int) n) b p q = refl
type_begins place (kind.Word (word.Keyword keyword.Long) n) b p q = refl
type_begins place (kind.Word (word.Keyword keyword.Boolean) n) b p q = refl
type_begins place (kind.Word word.TypeName n) b p q = q
type_begins place other b p q = cc

module _ (tokens : List Token) where
  decl_begins : {d : Decl} {ts rest : List Token} → IsDecl tokens d ts rest → begins_decl ts ≡ true
  decl_begins {ts = ts} (decl (is_final p) v d) = let a = keyword_eaten p in on_left _ _ (ap word_begins_decl (a.1))
  decl_begins (decl (not_final f) (var_def p) d) = let a = keyword_eaten p in on_left _ _ (ap word_begins_decl (a.1))
  decl_begins (decl (not_final f) (var_typed {t = t} {rest = us} p) d) = type_begins t.place t.kind (is_name_token (kind_of us)) p (vars_named tokens d)

  -- ---- how a `for` begins

  pub begin_none : {ts : List Token} → kind_of ts ≡ kind.Symbol symbol.Semicolon → Stopped (MayBegin tokens) None ts ts
  begin_none {ts = ts} p = record { is = begin_nothing p; stops = at_semicolon (symbol_eaten ts p) }

  pub begin_declared : {d : Decl} {ts rest : List Token} → Stopped (IsDecl tokens) d ts rest → Stopped (MayBegin tokens) (Some (stmt.Decl d)) ts rest
  begin_declared d = record { is = begin_decl (d.is); stops = d.stops }

  pub begin_valued : {x : Expr} {ts rest : List Token} → begins_decl ts ≡ false → Stopped (IsValue tokens) x ts rest → Stopped (MayBegin tokens) (Some (stmt.Expr x)) ts rest
  begin_valued {ts = ts} p d = record { is = begin_value (second_off (word_begins_decl (kind_of ts)) (begins_typed ts) p) (d.is); stops = d.stops }

  pub no_decl_begins : {ts : List Token} → kind_of ts ≢ kind.Symbol symbol.Semicolon → begins_decl ts ≡ true → Nothing (Stopped (IsDecl tokens)) ts → Nothing (Stopped (MayBegin tokens)) ts
  no_decl_begins n p f y after d = go n p f (d.is) (d.stops)
    where
      go : {y : Option Stmt} {ts after : List Token} → kind_of ts ≢ kind.Symbol symbol.Semicolon → begins_decl ts ≡ true → Nothing (Stopped (IsDecl tokens)) ts → MayBegin tokens y ts after → Stops after → ⊥
      go n p f (begin_decl e) h = f _ _ (record { is = e; stops = h })
      go {ts = ts} n p f (begin_value q e) h = let a = word_plain (kind_of ts) (first_of (word_begins_decl (kind_of ts)) (begins_typed ts) p q) in let b = value_first tokens e in omega arith
      go n p f (begin_nothing q) h = n q

  pub no_value_begins : {ts : List Token} → kind_of ts ≢ kind.Symbol symbol.Semicolon → begins_decl ts ≡ false → Nothing (Stopped (IsValue tokens)) ts → Nothing (Stopped (MayBegin tokens)) ts
  no_value_begins n p f y after d = go n p f (d.is) (d.stops)
    where
      go : {y : Option Stmt} {ts after : List Token} → kind_of ts ≢ kind.Symbol symbol.Semicolon → begins_decl ts ≡ false → Nothing (Stopped (IsValue tokens)) ts → MayBegin tokens y ts after → Stops after → ⊥
      go n p f (begin_decl e) h = let a = decl_begins e in cc
      go n p f (begin_value q e) h = f _ _ (record { is = e; stops = h })
      go n p f (begin_nothing q) h = n q

  -- ---- tests and steps

  pub one_value : {x : Expr} {ts rest : List Token} → Stopped (IsValue tokens) x ts rest → Stopped (MayValue tokens) (Some x) ts rest
  one_value d = record { is = some_value (d.is); stops = d.stops }

  pub none_valued : {ts us : List Token} → begins_expr (kind_of ts) ≡ false → 12 < reach (kind_of ts) → us ≡ ts → Stopped (MayValue tokens) None ts us
  none_valued {ts = ts} p h e = along (λ zs. Stopped (MayValue tokens) None ts zs) e (record { is = no_value p; stops = h })

  pub no_one_value : {ts : List Token} → begins_expr (kind_of ts) ≡ true → Nothing (Stopped (IsValue tokens)) ts → Nothing (Stopped (MayValue tokens)) ts
  no_one_value p f y after d = go p f (d.is) (d.stops)
    where
      go : {y : Option Expr} {ts after : List Token} → begins_expr (kind_of ts) ≡ true → Nothing (Stopped (IsValue tokens)) ts → MayValue tokens y ts after → Stops after → ⊥
      go p f (some_value e) h = f _ _ (record { is = e; stops = h })
      go p f (no_value q) h = cc

  pub none_goes_on : {ts : List Token} → begins_expr (kind_of ts) ≡ false → reach (kind_of ts) ≤ 12 → Nothing (Stopped (MayValue tokens)) ts
  none_goes_on p l y after d = go p l (d.is) (d.stops)
    where
      go : {y : Option Expr} {ts after : List Token} → begins_expr (kind_of ts) ≡ false → reach (kind_of ts) ≤ 12 → MayValue tokens y ts after → Stops after → ⊥
      go {ts = ts} p l (some_value e) h = let a = begins_class (kind_of ts) (value_first tokens e) in cc
      go p l (no_value q) h = omega arith

  -- ---- a `for` with a beginning, a test and a step

  -- what stands behind its `(`, behind its first `;`, behind its second one, and behind its `)`
  record FromBegin (vs after : List Token) : Type 0 where
    i : Option Stmt
    c : Option Expr
    s : Option Expr
    b : Stmt
    ws : List Token
    xs : List Token
    ys : List Token
    zs : List Token
    qs : List Token
    bs : List Token
    begin : MayBegin tokens i vs ws
    first : Eats symbol.Semicolon ws xs
    test : MayValue tokens c xs ys
    second : Eats symbol.Semicolon ys zs
    step : MayValue tokens s zs qs
    close : Eats symbol.RightParen qs bs
    body : IsLineAndBody tokens b bs after

  -- not both forms stand there
  parts_or_in : {w : Option VarType} {n : ℕ} {x : Expr} {ts us vs ws xs ys zs qs : List Token} → BeginsParts tokens ts → EatsKeyword keyword.For ts us → Eats symbol.LeftParen us vs → MayTyped tokens false w vs ws → EatsAs name_of n ws xs
      → IsForIn tokens xs ys → IsValue tokens x ys zs → Eats symbol.RightParen zs qs → ⊥
  parts_or_in (begins_parts {x = y} {ws = es} p2 q2 f e s) p q t n i d r =
      for_apart_expr t n i d r (along (λ ks. begins_typed ks ≡ false) (eaten_same (keyword_same p p2) q q2) f) (along (λ ks. IsExpr (length tokens) y ks es) (eaten_same (keyword_same p p2) q q2) e) s
    where
      for_apart_expr : {w : Option VarType} {n : ℕ} {x y : Expr} {vs ws xs ys zs qs es fs : List Token} → MayTyped tokens false w vs ws → EatsAs name_of n ws xs → IsForIn tokens xs ys → IsValue tokens x ys zs → Eats symbol.RightParen zs qs
          → begins_typed vs ≡ false → IsExpr (length tokens) y vs es → Eats symbol.Semicolon es fs → ⊥
      for_apart_expr (untyped a b) n i (value d u) r f e s = value_or_in tokens e s n i d r
      for_apart_expr (with_def p) n i d r f e s = let a = keyword_eaten p in let b = ap class (a.1) in let c = expr_first (length tokens) e in omega arith
      for_apart_expr (with_type {t = t} {rest = us} p q) n i d r f e s = let a = typed_at t us p q in let b = open_at (t ∷ us) (expr_first (length tokens) e) f in omega arith

  from_begin : {y : Stmt} {ts us vs after : List Token} → (IsForInHead ts → BeginsParts tokens ts) → EatsKeyword keyword.For ts us → Eats symbol.LeftParen us vs → IsStmt tokens y ts after → FromBegin vs after
  from_begin g p q (for_in p2 q2 t n i d r l b) = absurd (parts_or_in (g (for_in_head p2 q2 t n i)) p2 q2 t n i d r)
  from_begin {vs = vs} g p q (for_parts {i = i} {c = c} {s = s} {b = b} {ws = ws} {xs = xs} {ys = ys} {zs = zs} {qs = qs} {bs = bs} p2 q2 a f t e u r d) =
      record {
        i = i;
        c = c;
        s = s;
        b = b;
        ws = ws;
        xs = xs;
        ys = ys;
        zs = zs;
        qs = qs;
        bs = bs;
        begin = along (λ ks. MayBegin tokens i ks ws) (eaten_same (keyword_same p p2) q q2) a;
        first = f;
        test = t;
        second = e;
        step = u;
        close = r;
        body = d;
      }
  from_begin g p q d = let a = stmt_first tokens d in let b = keyword_at p in absurd (omega arith)

  record FromTest (xs after : List Token) : Type 0 where
    c : Option Expr
    s : Option Expr
    b : Stmt
    ys : List Token
    zs : List Token
    qs : List Token
    bs : List Token
    test : MayValue tokens c xs ys
    second : Eats symbol.Semicolon ys zs
    step : MayValue tokens s zs qs
    close : Eats symbol.RightParen qs bs
    body : IsLineAndBody tokens b bs after

  from_test : {i : Option Stmt} {vs ws xs after : List Token} → Stopped (MayBegin tokens) i vs ws → Eats symbol.Semicolon ws xs → FromBegin vs after → FromTest xs after
  from_test v p d =
      let a = begin_once tokens (v.is) (d.begin) (v.stops) (at_semicolon (d.first)) in
      record {
        c = d.c;
        s = d.s;
        b = d.b;
        ys = d.ys;
        zs = d.zs;
        qs = d.qs;
        bs = d.bs;
        test = along (λ ks. MayValue tokens (d.c) ks (d.ys)) (eaten_same (a.rest) p (d.first)) (d.test);
        second = d.second;
        step = d.step;
        close = d.close;
        body = d.body;
      }

  record FromStep (zs after : List Token) : Type 0 where
    s : Option Expr
    b : Stmt
    qs : List Token
    bs : List Token
    step : MayValue tokens s zs qs
    close : Eats symbol.RightParen qs bs
    body : IsLineAndBody tokens b bs after

  from_step : {c : Option Expr} {xs ys zs after : List Token} → Stopped (MayValue tokens) c xs ys → Eats symbol.Semicolon ys zs → FromTest xs after → FromStep zs after
  from_step v p d =
      let a = may_value_once tokens (v.is) (d.test) (v.stops) (at_semicolon (d.second)) in
      record { s = d.s; b = d.b; qs = d.qs; bs = d.bs; step = along (λ ks. MayValue tokens (d.s) ks (d.qs)) (eaten_same (a.rest) p (d.second)) (d.step); close = d.close; body = d.body }

  from_close : {s : Option Expr} {zs qs bs after : List Token} → Stopped (MayValue tokens) s zs qs → Eats symbol.RightParen qs bs → FromStep zs after → (b : Stmt) × IsLineAndBody tokens b bs after
  from_close {after = after} v p d =
      let a = may_value_once tokens (v.is) (d.step) (v.stops) (at_paren (d.close)) in (d.b, along (λ ks. IsLineAndBody tokens (d.b) ks after) (eaten_same (a.rest) p (d.close)) (d.body))

  -- what is read of it so far, up to each part
  pub record Begun (ts vs : List Token) : Type 0 where
    pub us : List Token
    pub no_head : IsForInHead ts → BeginsParts tokens ts
    pub word : EatsKeyword keyword.For ts us
    pub opened : Eats symbol.LeftParen us vs

  pub record Tested (i : Option Stmt) (ts vs ws xs : List Token) : Type 0 where
    pub begun : Begun ts vs
    pub begin : Stopped (MayBegin tokens) i vs ws
    pub first : Eats symbol.Semicolon ws xs

  pub record Stepped (i : Option Stmt) (c : Option Expr) (ts vs ws xs ys zs : List Token) : Type 0 where
    pub tested : Tested i ts vs ws xs
    pub test : Stopped (MayValue tokens) c xs ys
    pub second : Eats symbol.Semicolon ys zs

  at_begin : {y : Stmt} {ts vs after : List Token} → Begun ts vs → Stopped (IsStmt tokens) y ts after → FromBegin vs after
  at_begin r d = from_begin (r.no_head) (r.word) (r.opened) (d.is)

  at_test : {i : Option Stmt} {y : Stmt} {ts vs ws xs after : List Token} → Tested i ts vs ws xs → Stopped (IsStmt tokens) y ts after → FromTest xs after
  at_test r d = from_test (r.begin) (r.first) (at_begin (r.begun) d)

  at_step : {i : Option Stmt} {c : Option Expr} {y : Stmt} {ts vs ws xs ys zs after : List Token} → Stepped i c ts vs ws xs ys zs → Stopped (IsStmt tokens) y ts after → FromStep zs after
  at_step r d = from_step (r.test) (r.second) (at_test (r.tested) d)

  pub no_for_open : {ts us : List Token} → EatsKeyword keyword.For ts us → ((after : List Token) → Eats symbol.LeftParen us after → ⊥) → Nothing (Stopped (IsStmt tokens)) ts
  no_for_open {ts = ts} p f y after d = go (d.is)
    where
      go : {y : Stmt} {after : List Token} → IsStmt tokens y ts after → ⊥
      go (for_in {vs = vs} p2 q2 t n i d r l b) = f vs (along (λ zs. Eats symbol.LeftParen zs vs) (keyword_same p p2) q2)
      go (for_parts {vs = vs} p2 q2 a f2 t e u r b) = f vs (along (λ zs. Eats symbol.LeftParen zs vs) (keyword_same p p2) q2)
      go e = let a = stmt_first tokens e in let b = keyword_at p in omega arith

  pub no_for_begin : {ts vs : List Token} → Begun ts vs → Nothing (Stopped (MayBegin tokens)) vs → Nothing (Stopped (IsStmt tokens)) ts
  no_for_begin r f y after d = let a = at_begin r d in f (a.i) (a.ws) (record { is = a.begin; stops = at_semicolon (a.first) })

  pub no_for_first : {i : Option Stmt} {ts vs ws : List Token} → Begun ts vs → Stopped (MayBegin tokens) i vs ws → ((after : List Token) → Eats symbol.Semicolon ws after → ⊥) → Nothing (Stopped (IsStmt tokens)) ts
  no_for_first r v f y after d =
      let a = at_begin r d in let b = begin_once tokens (v.is) (a.begin) (v.stops) (at_semicolon (a.first)) in f (a.xs) (along (λ zs. Eats symbol.Semicolon zs (a.xs)) (b.rest) (a.first))

  pub no_for_test : {i : Option Stmt} {ts vs ws xs : List Token} → Tested i ts vs ws xs → Nothing (Stopped (MayValue tokens)) xs → Nothing (Stopped (IsStmt tokens)) ts
  no_for_test r f y after d = let a = at_test r d in f (a.c) (a.ys) (record { is = a.test; stops = at_semicolon (a.second) })

  pub no_for_second : {i : Option Stmt} {c : Option Expr} {ts vs ws xs ys : List Token} → Tested i ts vs ws xs → Stopped (MayValue tokens) c xs ys → ((after : List Token) → Eats symbol.Semicolon ys after → ⊥)
      → Nothing (Stopped (IsStmt tokens)) ts
  no_for_second r v f y after d =
      let a = at_test r d in let b = may_value_once tokens (v.is) (a.test) (v.stops) (at_semicolon (a.second)) in f (a.zs) (along (λ zs. Eats symbol.Semicolon zs (a.zs)) (b.rest) (a.second))

  pub no_for_step : {i : Option Stmt} {c : Option Expr} {ts vs ws xs ys zs : List Token} → Stepped i c ts vs ws xs ys zs → Nothing (Stopped (MayValue tokens)) zs → Nothing (Stopped (IsStmt tokens)) ts
  no_for_step r f y after d = let a = at_step r d in f (a.s) (a.qs) (record { is = a.step; stops = at_paren (a.close) })

  pub no_for_close : {i : Option Stmt} {c s : Option Expr} {ts vs ws xs ys zs qs : List Token} → Stepped i c ts vs ws xs ys zs → Stopped (MayValue tokens) s zs qs
      → ((after : List Token) → Eats symbol.RightParen qs after → ⊥) → Nothing (Stopped (IsStmt tokens)) ts
  no_for_close r v f y after d =
      let a = at_step r d in let b = may_value_once tokens (v.is) (a.step) (v.stops) (at_paren (a.close)) in f (a.bs) (along (λ zs. Eats symbol.RightParen zs (a.bs)) (b.rest) (a.close))

  pub no_for_body : {i : Option Stmt} {c s : Option Expr} {ts vs ws xs ys zs qs bs cs : List Token} → Stepped i c ts vs ws xs ys zs → Stopped (MayValue tokens) s zs qs
      → Eats symbol.RightParen qs bs → MayLine bs cs → Nothing (Stopped (IsBody tokens)) cs → Nothing (Stopped (IsStmt tokens)) ts
  no_for_body r v p l f y after d = let a = from_close v p (at_step r d) in go l f (a.1) (d.stops)
    where
      go : {b : Stmt} {bs cs after : List Token} → MayLine bs cs → Nothing (Stopped (IsBody tokens)) cs → IsLineAndBody tokens b bs after → Stops after → ⊥
      go {b = b} {after = after} l f (line_and_body m e) h = f b after (record { is = along (λ zs. IsBody tokens b zs after) (may_line_once l m) e; stops = h })

  pub for_here : {i : Option Stmt} {c s : Option Expr} {b : Stmt} {ts vs ws xs ys zs qs bs cs rest : List Token} → Stepped i c ts vs ws xs ys zs → Stopped (MayValue tokens) s zs qs
      → Eats symbol.RightParen qs bs → MayLine bs cs → Stopped (IsBody tokens) b cs rest → Stopped (IsStmt tokens) (stmt.For (place_of ts) i c s b) ts rest
  for_here r v p l d =
      let t = r.tested in let u = t.begun in
      record { is = for_parts (u.word) (u.opened) (t.begin.is) (t.first) (r.test.is) (r.second) (v.is) p (line_and_body l (d.is)); stops = d.stops }
