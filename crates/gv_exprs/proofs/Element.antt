-- Elements of comma lists: each, before what ends it, is one; and where there is none.
use Rattle.std.proofs.Common.{◌≡◌, ◌≢◌, ℕ, Bool, true, false, List, [], ◌∷◌, drop, refl, sym, ap, subst, arith, ◌⊎◌, inl, inr, Option, Some, None, ◌∙◌}
use Rattle.gv_base.specs.declared.refusal.Place.{Place}
use Rattle.gv_spelling.specs.declared.kinds.Symbol.TheVariants as symbol
use Rattle.gv_lex.specs.declared.token.Piece.TheVariants as piece
use Rattle.gv_lex.specs.declared.token.Token.{Token}
use Rattle.gv_lex.specs.declared.token.TokenKind.{TokenKind}
use Rattle.gv_lex.specs.declared.token.TokenKind.TheVariants as kind
use Rattle.gv_lex.specs.declared.token.Word.TheVariants as word
use Rattle.gv_tree.specs.declared.expr.Arg.TheOpen.{Expr-F}
use Rattle.gv_tree.specs.declared.expr.Arg.TheViews.{out-roll-Expr, roll-Expr}
use Rattle.gv_tree.specs.declared.expr.Expr.{Expr, out-Expr}
use denote.Hole.Carrier.{out}
use Rattle.gv_tree.specs.declared.expr.Expr.TheVariants as expr
use Rattle.gv_tree.specs.declared.expr.GString.{GString}
use Rattle.gv_tree.specs.declared.expr.Key.{Key}
use Rattle.gv_tree.specs.declared.expr.Key.TheVariants as key
use Rattle.gv_tree.specs.declared.expr.Label.TheVariants as label
use Rattle.gv_tree.specs.declared.ops.AssignOp.{AssignOp}
use Rattle.gv_tree.specs.declared.ops.BinaryOp.{BinaryOp}
use Rattle.gv_tree.specs.declared.ops.TypeTree.{TypeTree}
use Rattle.gv_tree.specs.declared.ops.TypeOp.{TypeOp}
use Rattle.gv_tree.specs.declared.ops.UnaryOp.{UnaryOp}
use Rattle.gv_grammar.specs.Tokens.{Eats, eats, eats_as, kind_of, place_of, reach, ident, key_name_of, text_of}
use Rattle.gv_grammar.specs.Phrases.{Longest, Nothing}
use Rattle.gv_grammar.specs.Meeting.{Meet, one, first_goes_on, second_goes_on, Level, Same}
use Rattle.gv_grammar.specs.Exprs.{Layer, unread, IsExpr, an_expr, GoesExpr, expr_ends, assigns, IsCond, a_cond, GoesCond, cond_ends, chooses, defaults, IsBin, tightest, a_bin, GoesBin, bin_ends, operator, typing, IsUnary, prefix, no_prefix, a_path, GoesPath, path_ends, suffix, IsSuffix, a_member, a_field, postfix, index, call, closures, IsKey, key_word, key_text, key_gstring, key_int, key_long, IsGString, IsPrimary, an_atom, a_gstring, parens, a_list, empty_map, a_map, a_closure, a_new}
use Rattle.gv_grammar.proofs.Single.{ap2, along, kind_eaten, same_rest, eaten_same}
use Rattle.gv_grammar.proofs.Firsts.{key_class, key_below, spread_class, expr_spread, key_spread}
use Rattle.gv_grammar.proofs.Tails.{Stops, at_colon, at_paren, ended, Ended, not_colon, string_expr, parens_expr}
use Rattle.gv_grammar.proofs.Meets.{meet_expr, meet_unary, meet_key, key_or_expr}
use Rattle.gv_grammar.proofs.Longest.{symbol_eaten, ended_there}
use Rattle.gv_cursor.specs.Reading.{Before}
use Rattle.gv_exprs.specs.declared.elements.Element.{Element}
use Rattle.gv_exprs.specs.declared.elements.Element.TheVariants as element
use Rattle.gv_exprs.specs.Elements.{ends_element, key_of, IsElement, plain_element, keyed_element, computed_element, spread_element, spread_map_element}

ends : (ts : List Token) (c : TokenKind) → kind_of ts ≡ c → ends_element c ≡ true → Ended ts
ends ts (kind.Symbol symbol.Comma) p h = record { stops = let e = ap reach p in omega arith; plain = λ q. cc }
ends ts (kind.Symbol symbol.RightParen) p h = record { stops = let e = ap reach p in omega arith; plain = λ q. cc }
ends ts (kind.Symbol symbol.RightBracket) p h = record { stops = let e = ap reach p in omega arith; plain = λ q. cc }
ends ts other p h = cc

-- what ends an element
pub ends_there : (ts : List Token) → ends_element (kind_of ts) ≡ true → Ended ts
ends_there ts h = ends ts (kind_of ts) refl h

-- a string with parts, or what stands in parentheses
data Own : Type 0 where
  in_string : Place → GString → Own
  in_parens : Place → Expr → Own

abbrev own_layer : Layer → Option Own
own_layer (Expr-F.Expr::GString p g) = Some (in_string p g)
own_layer (Expr-F.Paren p x) = Some (in_parens p x)
own_layer other = None

unfoldable own_of : Expr → Option Own
own_of x = own_layer (out-Expr x)

own_string : (p : Place) (g : GString) → own_of (expr.GString p g) ≡ Some (in_string p g)
unfolding own_of out-Expr out
own_string p g = refl

own_paren : (p : Place) (x : Expr) → own_of (expr.Paren p x) ≡ Some (in_parens p x)
unfolding own_of roll-Expr out-Expr denote.Hole.Carrier.roll
own_paren p x = ap own_layer (out-roll-Expr (Expr-F.Paren p x))

no_assign : (p : Place) (op : AssignOp) (x y : Expr) → own_of (expr.Assign p op x y) ≡ None
unfolding own_of out-Expr out
no_assign p op x y = refl

no_choice : (p : Place) (x : Expr) (y : Option Expr) (z : Expr) → own_of (expr.Choice p x y z) ≡ None
unfolding own_of out-Expr out
no_choice p x y z = refl

no_operator : (p : Place) (op : BinaryOp) (x y : Expr) → own_of (expr.Binary p op x y) ≡ None
unfolding own_of out-Expr out
no_operator p op x y = refl

no_typing : (p : Place) (op : TypeOp) (x : Expr) (type : TypeTree) → own_of (expr.Typed p op x type) ≡ None
unfolding own_of out-Expr out
no_typing p op x type = refl

no_unary : (p : Place) (op : UnaryOp) (x : Expr) → own_of (expr.Unary p op x) ≡ None
unfolding own_of out-Expr out
no_unary p op x = refl

module _ (all : ℕ) where
  abbrev element_number : {x : Element} {ts rest : List Token} → IsElement all x ts rest → ℕ
  element_number (plain_element d) = 0
  element_number (keyed_element k c d) = 0
  element_number (computed_element p d q c f) = 0
  element_number (spread_element p d) = 1
  element_number (spread_map_element p d) = 2

  element_first : {x : Element} {ts rest : List Token} (d : IsElement all x ts rest) → spread_class (kind_of ts) ≡ element_number d
  element_first (plain_element d) = expr_spread all d
  element_first (keyed_element k c d) = key_spread all k
  element_first (computed_element p d q c f) = ap spread_class (kind_eaten p)
  element_first (spread_element p d) = ap spread_class (kind_eaten p)
  element_first (spread_map_element p d) = ap spread_class (kind_eaten p)

  -- what stands in parentheses before a `:` isn't an expression that ends an element
  parens_or_expr : {x y : Expr} {ts us vs ws xs rest : List Token} → Eats symbol.LeftParen ts us → IsExpr all x us vs → Eats symbol.RightParen vs ws → Eats symbol.Colon ws xs
      → IsExpr all y ts rest → Ended rest → ⊥
  parens_or_expr p d q c d2 e = let a = ended (omega arith) (meet_expr all d2 (parens_expr all p d q)) e.stops (at_colon c) in not_colon (a.rest) e.plain c

  meets : {x y : Element} {ts us vs : List Token} → IsElement all x ts us → IsElement all y ts vs → Ended us → Ended vs → Same x us y vs
  meets (plain_element d) (plain_element d2) e e2 =
      let a = ended (omega arith) (meet_expr all d d2) e.stops e2.stops in record { tree = ap element.Plain (a.tree); rest = a.rest }
  meets (plain_element d) (keyed_element k2 c2 d2) e e2 = absurd (key_or_expr all k2 c2 d e.plain)
  meets (keyed_element k c d) (plain_element d2) e e2 = absurd (key_or_expr all k c d2 e2.plain)
  meets (plain_element d) (computed_element p2 d2 q2 c2 f2) e e2 = absurd (parens_or_expr p2 d2 q2 c2 d e)
  meets (computed_element p d q c f) (plain_element d2) e e2 = absurd (parens_or_expr p d q c d2 e2)
  meets (keyed_element k c d) (keyed_element {x = y} {rest = r2} k2 c2 d2) e e2 =
      let a = meet_key all k k2 in
      let b = ended (omega arith) (meet_expr all d (along (λ zs. IsExpr all y zs r2) (eaten_same (a.rest) c c2) d2)) e.stops e2.stops in
      record { tree = ap2 element.Keyed (a.tree) (b.tree); rest = b.rest }
  meets (keyed_element k c d) (computed_element p2 d2 q2 c2 f2) e e2 = let a = key_below all k in let b = ap key_class (kind_eaten p2) in absurd (omega arith)
  meets (computed_element p d q c f) (keyed_element k2 c2 d2) e e2 = let a = key_below all k2 in let b = ap key_class (kind_eaten p) in absurd (omega arith)
  meets {ts = ts} (computed_element p d q c f) (computed_element {x = x2} {y = y2} {vs = vs2} {rest = r2} p2 d2 q2 c2 f2) e e2 =
      let a = ended (omega arith) (meet_expr all d (along (λ zs. IsExpr all x2 zs vs2) (same_rest p p2) d2)) (at_paren q) (at_paren q2) in
      let h = eaten_same (eaten_same (a.rest) q q2) c c2 in
      let b = ended (omega arith) (meet_expr all f (along (λ zs. IsExpr all y2 zs r2) h f2)) e.stops e2.stops in
      record { tree = ap2 (element.Computed (place_of ts)) (a.tree) (b.tree); rest = b.rest }
  meets {ts = ts} (spread_element p d) (spread_element {x = y} {rest = r2} p2 d2) e e2 =
      let a = ended (omega arith) (meet_unary all d (along (λ zs. IsUnary all y zs r2) (same_rest p p2) d2)) e.stops e2.stops in
      record { tree = ap (element.Spread (place_of ts)) (a.tree); rest = a.rest }
  meets {ts = ts} (spread_map_element p d) (spread_map_element {x = y} {rest = r2} p2 d2) e e2 =
      let a = ended (omega arith) (meet_unary all d (along (λ zs. IsUnary all y zs r2) (same_rest p p2) d2)) e.stops e2.stops in
      record { tree = ap (element.SpreadMap (place_of ts)) (a.tree); rest = a.rest }
  meets d d2 e e2 = let a = element_first d in let b = element_first d2 in absurd (omega arith)

  pub meet_element : {x y : Element} {ts us vs : List Token} → IsElement all x ts us → IsElement all y ts vs → ends_element (kind_of us) ≡ true → ends_element (kind_of vs) ≡ true → Same x us y vs
  meet_element {us = us} {vs = vs} d d2 e e2 = meets d d2 (ends_there us e) (ends_there vs e2)

  -- ---- spread elements

  unary_there : {x y : Expr} {ts us vs : List Token} → Longest (IsUnary all) x ts us → IsUnary all y ts vs → Stops vs → us ≡ vs
  unary_there {x = x} {y = y} {us = us} {vs = vs} l d h = go (meet_unary all (l.is) d)
    where
      go : Meet (Level 0) x us y vs → us ≡ vs
      go (one p q) = q
      go (first_goes_on p q) = let a = p.by in absurd (omega arith)
      go (second_goes_on p q) = let a = l.longest y vs d in absurd (omega arith)

  -- a rest that is another one's ends an element as that does
  ended_same : {us vs : List Token} → us ≡ vs → ends_element (kind_of vs) ≡ true → ends_element (kind_of us) ≡ false → ⊥
  ended_same p q r = let a = along (λ zs. ends_element (kind_of zs) ≡ true) p q in cc

  spread_inside : {y : Element} {ts after : List Token} → IsElement all y ts after → kind_of ts ≡ kind.Symbol symbol.Star → (x : Expr) × IsUnary all x (drop 1 ts) after
  spread_inside {ts = ts} {after = r} (spread_element {x = x} p d) h = (x, along (λ zs. IsUnary all x zs r) (same_rest (symbol_eaten ts h) p) d)
  spread_inside d h = let a = element_first d in let b = ap spread_class h in absurd (omega arith)

  pub spread_here : {x : Expr} (ts us : List Token) → kind_of ts ≡ kind.Symbol symbol.Star → IsUnary all x (drop 1 ts) us → ends_element (kind_of us) ≡ true
      → Before ends_element (IsElement all) (element.Spread (place_of ts) x) ts us
  spread_here ts us h d e = record { is = spread_element (symbol_eaten ts h) d; ended = e }

  pub no_spread : (ts : List Token) → kind_of ts ≡ kind.Symbol symbol.Star → Nothing (IsUnary all) (drop 1 ts) → Nothing (Before ends_element (IsElement all)) ts
  no_spread ts h f = λ y after d. let a = spread_inside (d.is) h in f (a.0) after (a.1)

  pub no_spread_end : {x : Expr} (ts us : List Token) → kind_of ts ≡ kind.Symbol symbol.Star → Longest (IsUnary all) x (drop 1 ts) us → ends_element (kind_of us) ≡ false
      → Nothing (Before ends_element (IsElement all)) ts
  no_spread_end ts us h l e = λ y after d. let a = spread_inside (d.is) h in let b = ends_there after (d.ended) in ended_same (unary_there l (a.1) b.stops) (d.ended) e

  spread_map_inside : {y : Element} {ts after : List Token} → IsElement all y ts after → kind_of ts ≡ kind.Symbol symbol.SpreadColon → (x : Expr) × IsUnary all x (drop 1 ts) after
  spread_map_inside {ts = ts} {after = r} (spread_map_element {x = x} p d) h = (x, along (λ zs. IsUnary all x zs r) (same_rest (symbol_eaten ts h) p) d)
  spread_map_inside d h = let a = element_first d in let b = ap spread_class h in absurd (omega arith)

  pub spread_map_here : {x : Expr} (ts us : List Token) → kind_of ts ≡ kind.Symbol symbol.SpreadColon → IsUnary all x (drop 1 ts) us → ends_element (kind_of us) ≡ true
      → Before ends_element (IsElement all) (element.SpreadMap (place_of ts) x) ts us
  spread_map_here ts us h d e = record { is = spread_map_element (symbol_eaten ts h) d; ended = e }

  pub no_spread_map : (ts : List Token) → kind_of ts ≡ kind.Symbol symbol.SpreadColon → Nothing (IsUnary all) (drop 1 ts) → Nothing (Before ends_element (IsElement all)) ts
  no_spread_map ts h f = λ y after d. let a = spread_map_inside (d.is) h in f (a.0) after (a.1)

  pub no_spread_map_end : {x : Expr} (ts us : List Token) → kind_of ts ≡ kind.Symbol symbol.SpreadColon → Longest (IsUnary all) x (drop 1 ts) us → ends_element (kind_of us) ≡ false
      → Nothing (Before ends_element (IsElement all)) ts
  no_spread_map_end ts us h l e = λ y after d. let a = spread_map_inside (d.is) h in let b = ends_there after (d.ended) in ended_same (unary_there l (a.1) b.stops) (d.ended) e

  -- ---- keys

  token_key : {k : Key} (t : Token) (ts : List Token) (c : TokenKind) → t.kind ≡ c → key_of t.place c ≡ Some k → IsKey all k (t ∷ ts) ts
  token_key t ts (kind.Word (word.Refused r) n) p h = cc
  token_key {k = k} t ts (kind.Word w n) p h =
      let e : key.Label (label.Name (ident t.place n)) ≡ k = cc in subst (λ i. IsKey all i (t ∷ ts) ts) e (key_word (eats_as (ap key_name_of p)))
  token_key {k = k} t ts (kind.Text piece.Whole n) p h =
      let e : key.Label (label.Text (ident t.place n)) ≡ k = cc in subst (λ i. IsKey all i (t ∷ ts) ts) e (key_text (eats_as (ap text_of p)))
  token_key {k = k} t ts (kind.Int z) p h = let e : key.Int t.place z ≡ k = cc in subst (λ i. IsKey all i (t ∷ ts) ts) e (key_int p)
  token_key {k = k} t ts (kind.Long z) p h = let e : key.Long t.place z ≡ k = cc in subst (λ i. IsKey all i (t ∷ ts) ts) e (key_long p)
  token_key t ts other p h = cc

  pub key_here : {k : Key} (ts : List Token) → key_of (place_of ts) (kind_of ts) ≡ Some k → IsKey all k ts (drop 1 ts)
  key_here [] h = cc
  key_here (t ∷ ts) h = token_key t ts t.kind refl h

  word_key : (place : Place) (c : TokenKind) {n : ℕ} → key_name_of c ≡ Some n → key_of place c ≡ Some (key.Label (label.Name (ident place n)))
  word_key place (kind.Word (word.Refused r) m) p = cc
  word_key place (kind.Word w m) {n = n} p = let e : m ≡ n = cc in ap (λ i. Some (key.Label (label.Name (ident place i)))) e
  word_key place other p = cc

  text_key : (place : Place) (c : TokenKind) {n : ℕ} → text_of c ≡ Some n → key_of place c ≡ Some (key.Label (label.Text (ident place n)))
  text_key place (kind.Text piece.Whole m) {n = n} p = let e : m ≡ n = cc in ap (λ i. Some (key.Label (label.Text (ident place i)))) e
  text_key place other p = cc

  -- a key is one token, or a string with parts
  pub key_cases : {k : Key} {ts us : List Token} → IsKey all k ts us
      → ((key_of (place_of ts) (kind_of ts) ≡ Some k) × (us ≡ drop 1 ts)) ⊎ ((g : GString) × (k ≡ key.Label (label.GString (place_of ts) g)) × IsGString all g ts us)
  key_cases (key_word (eats_as {t = t} p)) = inl (word_key t.place t.kind p, refl)
  key_cases (key_text (eats_as {t = t} p)) = inl (text_key t.place t.kind p, refl)
  key_cases (key_gstring {g = g} d) = inr (g, refl, d)
  key_cases (key_int {t = t} p) = inl (ap (key_of t.place) p, refl)
  key_cases (key_long {t = t} p) = inl (ap (key_of t.place) p, refl)

  keyed_inside : {k : Key} {y : Element} {ts after : List Token} → IsElement all y ts after → Ended after → key_of (place_of ts) (kind_of ts) ≡ Some k → kind_of (drop 1 ts) ≡ kind.Symbol symbol.Colon
      → (x : Expr) × IsExpr all x (drop 1 (drop 1 ts)) after
  keyed_inside {ts = ts} (plain_element d) e h c = absurd (key_or_expr all (key_here ts h) (symbol_eaten (drop 1 ts) c) d e.plain)
  keyed_inside {ts = ts} {after = r} (keyed_element {x = x} k c2 d) e h c =
      let a = meet_key all (key_here ts h) k in (x, along (λ zs. IsExpr all x zs r) (eaten_same (a.rest) (symbol_eaten (drop 1 ts) c) c2) d)
  keyed_inside {ts = ts} (computed_element p d q c2 f) e h c = let a = key_below all (key_here ts h) in let b = ap key_class (kind_eaten p) in absurd (omega arith)
  keyed_inside {ts = ts} (spread_element p d) e h c = let a = key_spread all (key_here ts h) in let b = ap spread_class (kind_eaten p) in absurd (omega arith)
  keyed_inside {ts = ts} (spread_map_element p d) e h c = let a = key_spread all (key_here ts h) in let b = ap spread_class (kind_eaten p) in absurd (omega arith)

  pub keyed_here : {k : Key} {x : Expr} (ts us : List Token) → key_of (place_of ts) (kind_of ts) ≡ Some k → kind_of (drop 1 ts) ≡ kind.Symbol symbol.Colon
      → IsExpr all x (drop 1 (drop 1 ts)) us → ends_element (kind_of us) ≡ true → Before ends_element (IsElement all) (element.Keyed k x) ts us
  keyed_here ts us h c d e = record { is = keyed_element (key_here ts h) (symbol_eaten (drop 1 ts) c) d; ended = e }

  pub no_keyed : {k : Key} (ts : List Token) → key_of (place_of ts) (kind_of ts) ≡ Some k → kind_of (drop 1 ts) ≡ kind.Symbol symbol.Colon
      → Nothing (IsExpr all) (drop 1 (drop 1 ts)) → Nothing (Before ends_element (IsElement all)) ts
  no_keyed ts h c f = λ y after d. let a = keyed_inside (d.is) (ends_there after (d.ended)) h c in f (a.0) after (a.1)

  pub no_keyed_end : {k : Key} {x : Expr} (ts us : List Token) → key_of (place_of ts) (kind_of ts) ≡ Some k → kind_of (drop 1 ts) ≡ kind.Symbol symbol.Colon
      → Longest (IsExpr all) x (drop 1 (drop 1 ts)) us → ends_element (kind_of us) ≡ false → Nothing (Before ends_element (IsElement all)) ts
  no_keyed_end ts us h c l e = λ y after d.
      let b = ends_there after (d.ended) in
      let a = keyed_inside (d.is) b h c in
      let s = ended_there all l (a.1) b.stops in
      ended_same (s.rest) (d.ended) e

  -- ---- an expression, which may be a key

  -- an expression that is a key, a `:` and a value
  record KeyedBy (ts after : List Token) : Type 0 where
    tree : Expr
    value : Expr
    behind : List Token
    first : IsExpr all tree ts behind
    colon : kind_of behind ≡ kind.Symbol symbol.Colon
    second : IsExpr all value (drop 1 behind) after
    own : ((p : Place) × (g : GString) × (tree ≡ expr.GString p g)) ⊎ ((p : Place) × (x : Expr) × (tree ≡ expr.Paren p x))

  abbrev NoKey : List Token → Type 0
  NoKey ts = (kind_of (drop 1 ts) ≢ kind.Symbol symbol.Colon) ⊎ (key_of (place_of ts) (kind_of ts) ≡ None)

  not_key : {k : Key} {us vs : List Token} (ts : List Token) → NoKey ts → key_of (place_of ts) (kind_of ts) ≡ Some k → us ≡ drop 1 ts → Eats symbol.Colon us vs → ⊥
  not_key ts (inl f) h p c = f (along (λ zs. kind_of zs ≡ kind.Symbol symbol.Colon) (sym p) (kind_eaten c))
  not_key ts (inr e) h p c = cc

  behind_colon : {us vs : List Token} → Eats symbol.Colon us vs → vs ≡ drop 1 us
  behind_colon (eats p) = refl

  string_keyed : {g : GString} {x : Expr} {ts us vs after : List Token} → IsGString all g ts us → Eats symbol.Colon us vs → IsExpr all x vs after → KeyedBy ts after
  string_keyed {g = g} {x = x} {ts = ts} {us = us} {after = r} d c v = record {
    tree = expr.GString (place_of ts) g;
    value = x;
    behind = us;
    first = string_expr all d;
    colon = kind_eaten c;
    second = along (λ zs. IsExpr all x zs r) (sym (behind_colon c)) v;
    own = inl (place_of ts, g, refl);
  }

  with_key : {k : Key} {x : Expr} {ts us vs after : List Token} → NoKey ts
      → ((key_of (place_of ts) (kind_of ts) ≡ Some k) × (us ≡ drop 1 ts)) ⊎ ((g : GString) × (k ≡ key.Label (label.GString (place_of ts) g)) × IsGString all g ts us)
      → Eats symbol.Colon us vs → IsExpr all x vs after → KeyedBy ts after
  with_key {ts = ts} n (inl p) c d = absurd (not_key ts n (p.0) (p.1) c)
  with_key n (inr (g, p, s)) c d = string_keyed s c d

  begun : {y : Element} {ts after : List Token} → IsElement all y ts after → kind_of ts ≢ kind.Symbol symbol.Star → kind_of ts ≢ kind.Symbol symbol.SpreadColon → NoKey ts
      → ((x : Expr) × IsExpr all x ts after) ⊎ KeyedBy ts after
  begun (plain_element {x = x} d) s m n = inl (x, d)
  begun (keyed_element k c d) s m n = inr (with_key n (key_cases k) c d)
  begun {ts = ts} {after = r} (computed_element {x = x} {y = y} {ws = ws} p d q c v) s m n = inr (record {
    tree = expr.Paren (place_of ts) x;
    value = y;
    behind = ws;
    first = parens_expr all p d q;
    colon = kind_eaten c;
    second = along (λ zs. IsExpr all y zs r) (sym (behind_colon c)) v;
    own = inr (place_of ts, x, refl);
  })
  begun (spread_element p d) s m n = absurd (s (kind_eaten p))
  begun (spread_map_element p d) s m n = absurd (m (kind_eaten p))

  colon_stops : (ts : List Token) → kind_of ts ≡ kind.Symbol symbol.Colon → Stops ts
  colon_stops ts p = let e = ap reach p in omega arith

  -- what a token other than `*` and `*:`, and no key of one token before a `:`, begins
  module _ (ts : List Token) (s : kind_of ts ≢ kind.Symbol symbol.Star) (m : kind_of ts ≢ kind.Symbol symbol.SpreadColon) (n : NoKey ts) where
    pub no_first : Nothing (IsExpr all) ts → Nothing (Before ends_element (IsElement all)) ts
    no_first f = λ y after d. go after (begun (d.is) s m n)
      where
        go : (after : List Token) → ((x : Expr) × IsExpr all x ts after) ⊎ KeyedBy ts after → ⊥
        go after (inl (x, d)) = f x after d
        go after (inr k) = f (k.tree) (k.behind) (k.first)

    pub no_end : {x : Expr} (us : List Token) → Longest (IsExpr all) x ts us → kind_of us ≢ kind.Symbol symbol.Colon → ends_element (kind_of us) ≡ false
        → Nothing (Before ends_element (IsElement all)) ts
    no_end us l c e = λ y after d. go after (d.ended) (begun (d.is) s m n)
      where
        go : (after : List Token) → ends_element (kind_of after) ≡ true → ((x : Expr) × IsExpr all x ts after) ⊎ KeyedBy ts after → ⊥
        go after h (inl (x, d)) = let b = ends_there after h in let a = ended_there all l d b.stops in ended_same (a.rest) h e
        go after h (inr k) = let a = ended_there all l (k.first) (colon_stops (k.behind) (k.colon)) in c (along (λ zs. kind_of zs ≡ kind.Symbol symbol.Colon) (a.rest) (k.colon))

    -- behind the longest expression stands a `:`
    module _ {x : Expr} (us : List Token) (l : Longest (IsExpr all) x ts us) (c : kind_of us ≡ kind.Symbol symbol.Colon) where
      -- then there is no element without a key
      plain_there : {z : Expr} {after : List Token} → IsExpr all z ts after → ends_element (kind_of after) ≡ true → ⊥
      plain_there {after = after} d h =
          let b = ends_there after h in
          let a = ended_there all l d b.stops in
          b.plain (along (λ zs. kind_of zs ≡ kind.Symbol symbol.Colon) (sym (a.rest)) c)

      pub no_own_key : ((p : Place) (g : GString) → x ≡ expr.GString p g → ⊥) → ((p : Place) (z : Expr) → x ≡ expr.Paren p z → ⊥) → Nothing (Before ends_element (IsElement all)) ts
      no_own_key f g = λ y after d. go after (d.ended) (begun (d.is) s m n)
        where
          own : {z : Expr} → x ≡ z → ((p : Place) × (g : GString) × (z ≡ expr.GString p g)) ⊎ ((p : Place) × (w : Expr) × (z ≡ expr.Paren p w)) → ⊥
          own e (inl (p, h, q)) = f p h (e ∙ q)
          own e (inr (p, w, q)) = g p w (e ∙ q)

          go : (after : List Token) → ends_element (kind_of after) ≡ true → ((x : Expr) × IsExpr all x ts after) ⊎ KeyedBy ts after → ⊥
          go after h (inl (z, d)) = plain_there d h
          go after h (inr k) = let a = ended_there all l (k.first) (colon_stops (k.behind) (k.colon)) in own (a.tree) (k.own)

      pub no_value : Nothing (IsExpr all) (drop 1 us) → Nothing (Before ends_element (IsElement all)) ts
      no_value f = λ y after d. go after (d.ended) (begun (d.is) s m n)
        where
          go : (after : List Token) → ends_element (kind_of after) ≡ true → ((x : Expr) × IsExpr all x ts after) ⊎ KeyedBy ts after → ⊥
          go after h (inl (z, d)) = plain_there d h
          go after h (inr k) =
              let a = ended_there all l (k.first) (colon_stops (k.behind) (k.colon)) in
              f (k.value) after (along (λ zs. IsExpr all (k.value) (drop 1 zs) after) (a.rest) (k.second))

      pub no_value_end : {v : Expr} (vs : List Token) → Longest (IsExpr all) v (drop 1 us) vs → ends_element (kind_of vs) ≡ false → Nothing (Before ends_element (IsElement all)) ts
      no_value_end vs l2 e = λ y after d. go after (d.ended) (begun (d.is) s m n)
        where
          go : (after : List Token) → ends_element (kind_of after) ≡ true → ((x : Expr) × IsExpr all x ts after) ⊎ KeyedBy ts after → ⊥
          go after h (inl (z, d)) = plain_there d h
          go after h (inr k) =
              let a = ended_there all l (k.first) (colon_stops (k.behind) (k.colon)) in
              let b = ends_there after h in
              let i = ended_there all l2 (along (λ zs. IsExpr all (k.value) (drop 1 zs) after) (a.rest) (k.second)) b.stops in
              ended_same (i.rest) h e

  -- ---- expressions that are a string with parts, or stand in parentheses

  own_expr : {x y : Expr} {us rest : List Token} {w : Own} → GoesExpr all x y us rest → own_of y ≡ Some w → (x ≡ y) × (us ≡ rest)
  own_expr expr_ends h = (refl, refl)
  own_expr {x = x} (assigns {y = y} {t = t} {op = op} p q d) h = let a = no_assign t.place op x y in cc

  own_cond : {x y : Expr} {us rest : List Token} {w : Own} → GoesCond all x y us rest → own_of y ≡ Some w → (x ≡ y) × (us ≡ rest)
  own_cond cond_ends h = (refl, refl)
  own_cond {x = x} (chooses {p = p} {ts = ts} q d) h = let a = no_choice (place_of ts) x (Some p.0) p.1 in cc
  own_cond {x = x} (defaults {y = y} {ts = ts} q d) h = let a = no_choice (place_of ts) x None y in cc

  -- what isn't such an expression doesn't become one
  apart_own : {x y : Expr} {w : Own} → x ≡ y → own_of y ≡ Some w → own_of x ≡ None → ⊥
  apart_own p h e = let a = ap own_of p in cc

  own_bin_tail : {n : ℕ} {j : Bool} {x y : Expr} {us rest : List Token} {w : Own} → GoesBin all n j x y us rest → own_of y ≡ Some w → (x ≡ y) × (us ≡ rest)
  own_bin_tail bin_ends h = (refl, refl)
  own_bin_tail {x = x} (operator {op = op} {y = y} {t = t} p q r d g) h = let a = own_bin_tail g h in absurd (apart_own (a.0) h (no_operator t.place op x y))
  own_bin_tail {x = x} (typing {op = op} {type = type} {t = t} p q r g) h = let a = own_bin_tail g h in absurd (apart_own (a.0) h (no_typing t.place op x type))

  no_suffix : {x y : Expr} {us rest : List Token} → IsSuffix all x y us rest → own_of y ≡ None
  unfolding own_of out-Expr out
  no_suffix (a_member p d) = refl
  no_suffix (a_field p q) = refl
  no_suffix (postfix p) = refl
  no_suffix (index p d) = refl
  no_suffix (call p d f) = refl
  no_suffix (closures p c d) = refl

  own_path_tail : {x y : Expr} {us rest : List Token} {w : Own} → GoesPath all x y us rest → own_of y ≡ Some w → (x ≡ y) × (us ≡ rest)
  own_path_tail path_ends h = (refl, refl)
  own_path_tail (suffix s g) h = let a = own_path_tail g h in absurd (apart_own (a.0) h (no_suffix s))

  own_primary : {x y : Expr} {ts us rest : List Token} → IsPrimary all x ts us → (x ≡ y) × (us ≡ rest) → IsPrimary all y ts rest
  own_primary {x = x} {ts = ts} {rest = rest} d (p, q) = subst (λ e. IsPrimary all e ts rest) p (subst (λ zs. IsPrimary all x ts zs) q d)

  own_unary : {y : Expr} {ts rest : List Token} {w : Own} → IsUnary all y ts rest → own_of y ≡ Some w → IsPrimary all y ts rest
  own_unary (prefix {x = x} {op = op} {t = t} p d) h = let a = no_unary t.place op x in cc
  own_unary (no_prefix (a_path d g)) h = own_primary d (own_path_tail g h)

  own_bin : {n : ℕ} {y : Expr} {ts rest : List Token} {w : Own} → IsBin all n y ts rest → own_of y ≡ Some w → IsPrimary all y ts rest
  own_bin (tightest d) h = own_unary d h
  own_bin (a_bin d g) h = let a = own_bin_tail g h in own_primary (own_bin d (ap own_of (a.0) ∙ h)) a

  of_cond : {y : Expr} {ts rest : List Token} {w : Own} → IsCond all y ts rest → own_of y ≡ Some w → IsPrimary all y ts rest
  of_cond (a_cond d g) h = let a = own_cond g h in own_primary (own_bin d (ap own_of (a.0) ∙ h)) a

  of_expr : {y : Expr} {ts rest : List Token} {w : Own} → IsExpr all y ts rest → own_of y ≡ Some w → IsPrimary all y ts rest
  of_expr (an_expr d g) h = let a = own_expr g h in own_primary (of_cond d (ap own_of (a.0) ∙ h)) a

  -- the other primaries
  abbrev primary_number : {x : Expr} {ts rest : List Token} → IsPrimary all x ts rest → ℕ
  primary_number (a_gstring d) = 1
  primary_number (parens p d q) = 2
  primary_number other = 0

  other_primary : {x : Expr} {ts rest : List Token} (d : IsPrimary all x ts rest) → primary_number d ≡ 0 → own_of x ≡ None
  unfolding own_of out-Expr out
  other_primary (an_atom p) h = refl
  other_primary (a_gstring d) h = absurd (omega arith)
  other_primary (parens p d q) h = absurd (omega arith)
  other_primary (a_list p d) h = refl
  other_primary (empty_map p c q) h = refl
  other_primary (a_map p d) h = refl
  other_primary (a_closure (unread o m c)) h = refl
  other_primary (a_new p n o d) h = refl

  string_primary : {e : Expr} {p : Place} {g : GString} {ts us : List Token} → IsPrimary all e ts us → own_of e ≡ Some (in_string p g) → IsGString all g ts us × (p ≡ place_of ts)
  string_primary {p = p} {g = g} (a_gstring {g = g2} {ts = ts} {rest = rest} d) h =
      let a = own_string (place_of ts) g2 in
      let e : g2 ≡ g = cc in
      let q : p ≡ place_of ts = cc in
      (subst (λ w. IsGString all w ts rest) e d, q)
  string_primary (parens {x = x} {ts = ts} q d c) h = let a = own_paren (place_of ts) x in cc
  string_primary d h = let a = other_primary d refl in cc

  -- what stands in these parentheses
  pub record Inside (p : Place) (x : Expr) (ts us : List Token) : Type 0 where
    pub place : p ≡ place_of ts
    pub inner : List Token
    pub behind : List Token
    pub left : Eats symbol.LeftParen ts inner
    pub is : IsExpr all x inner behind
    pub right : Eats symbol.RightParen behind us

  paren_primary : {e : Expr} {p : Place} {x : Expr} {ts us : List Token} → IsPrimary all e ts us → own_of e ≡ Some (in_parens p x) → Inside p x ts us
  paren_primary {p = p} {x = x} (parens {x = y} {ts = ts} {us = us} {vs = vs} q d c) h =
      let a = own_paren (place_of ts) y in
      let e : y ≡ x = cc in
      let i : p ≡ place_of ts = cc in
      record { place = i; inner = us; behind = vs; left = q; is = subst (λ w. IsExpr all w us vs) e d; right = c }
  paren_primary (a_gstring {g = g} {ts = ts} d) h = let a = own_string (place_of ts) g in cc
  paren_primary d h = let a = other_primary d refl in cc

  pub gstring_of : {p : Place} {g : GString} {ts us : List Token} → IsExpr all (expr.GString p g) ts us → IsGString all g ts us × (p ≡ place_of ts)
  gstring_of {p = p} {g = g} d = let h = own_string p g in string_primary (of_expr d h) h

  pub gstring_of_cond : {p : Place} {g : GString} {ts us : List Token} → IsCond all (expr.GString p g) ts us → IsGString all g ts us × (p ≡ place_of ts)
  gstring_of_cond {p = p} {g = g} d = let h = own_string p g in string_primary (of_cond d h) h

  pub paren_of : {p : Place} {x : Expr} {ts us : List Token} → IsExpr all (expr.Paren p x) ts us → Inside p x ts us
  paren_of {p = p} {x = x} d = let h = own_paren p x in paren_primary (of_expr d h) h

  pub paren_of_cond : {p : Place} {x : Expr} {ts us : List Token} → IsCond all (expr.Paren p x) ts us → Inside p x ts us
  paren_of_cond {p = p} {x = x} d = let h = own_paren p x in paren_primary (of_cond d h) h

  -- ---- what is read there

  pub plain_here : {x : Expr} (ts us : List Token) → IsExpr all x ts us → ends_element (kind_of us) ≡ true → Before ends_element (IsElement all) (element.Plain x) ts us
  plain_here ts us d e = record { is = plain_element d; ended = e }

  pub string_here : {p : Place} {g : GString} {v : Expr} (ts us vs : List Token) → IsExpr all (expr.GString p g) ts us → kind_of us ≡ kind.Symbol symbol.Colon
      → IsExpr all v (drop 1 us) vs → ends_element (kind_of vs) ≡ true → Before ends_element (IsElement all) (element.Keyed (key.Label (label.GString p g)) v) ts vs
  string_here {g = g} {v = v} ts us vs d c f e = let a = gstring_of d in
      subst (λ q. Before ends_element (IsElement all) (element.Keyed (key.Label (label.GString q g)) v) ts vs) (sym (a.1))
      (record { is = keyed_element (key_gstring (a.0)) (symbol_eaten us c) f; ended = e })

  pub parens_here : {p : Place} {x v : Expr} (ts us vs : List Token) → IsExpr all (expr.Paren p x) ts us → kind_of us ≡ kind.Symbol symbol.Colon
      → IsExpr all v (drop 1 us) vs → ends_element (kind_of vs) ≡ true → Before ends_element (IsElement all) (element.Computed p x v) ts vs
  parens_here {x = x} {v = v} ts us vs d c f e = let a = paren_of d in
      subst (λ q. Before ends_element (IsElement all) (element.Computed q x v) ts vs) (sym a.place)
      (record { is = computed_element a.left a.is a.right (symbol_eaten us c) f; ended = e })
