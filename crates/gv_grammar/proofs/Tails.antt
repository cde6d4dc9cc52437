-- Where an expression can't go on, it ends; and how it begins.
use Rattle.std.proofs.Common.{◌≡◌, ℕ, zero, suc, ◌<◌, ◌≤◌, Bool, List, [], ◌∷◌, refl, sym, ap, arith, Some, ◌∙◌}
use Rattle.gv_spelling.specs.declared.kinds.Keyword.{Keyword}
use Rattle.gv_spelling.specs.declared.kinds.Keyword.TheVariants as keyword
use Rattle.gv_spelling.specs.declared.kinds.Symbol.TheVariants as symbol
use Rattle.gv_lex.specs.declared.token.Piece.TheVariants as piece
use Rattle.gv_lex.specs.declared.token.Token.{Token}
use Rattle.gv_lex.specs.declared.token.TokenKind.{TokenKind}
use Rattle.gv_lex.specs.declared.token.TokenKind.TheVariants as kind
use Rattle.gv_lex.specs.declared.token.Word.TheVariants as word
use Rattle.gv_tree.specs.declared.expr.Expr.{Expr}
use Rattle.gv_tree.specs.declared.expr.Expr.TheVariants as expr
use Rattle.gv_tree.specs.declared.expr.GString.{GString}
use Rattle.gv_tree.specs.declared.expr.Key.{Key}
use Rattle.gv_tree.specs.declared.ops.AssignOp.{AssignOp}
use Rattle.gv_tree.specs.declared.ops.BinaryOp.{BinaryOp}
use Rattle.gv_tree.specs.declared.ops.BinaryOp.TheVariants as binary
use Rattle.gv_tree.specs.declared.ops.TypeOp.{TypeOp}
use Rattle.gv_grammar.specs.Tokens.{Eats, EatsKeyword, eats_keyword, EatsEnd, EatsAs, eats_as, kind_of, place_of, type_name_of, binary_of, level_of, typing_of, assign_of, reach, reach_by}
use Rattle.gv_grammar.specs.Meeting.{Meet, one, first_goes_on, second_goes_on, Level, Same}
use Rattle.gv_grammar.specs.Exprs.{IsExpr, an_expr, GoesExpr, expr_ends, assigns, a_cond, GoesCond, cond_ends, chooses, defaults, IsBin, tightest, a_bin, GoesBin, bin_ends, operator, typing, IsUnary, prefix, no_prefix, a_path, GoesPath, path_ends, suffix, IsKey, key_word, key_text, key_gstring, key_int, key_long, IsGString, IsPrimary, an_atom, a_gstring, parens, a_list, empty_map, a_map, a_closure, a_new}
use Rattle.gv_grammar.proofs.Single.{along, kind_eaten, end_eaten, meant, same_rest}
use Rattle.gv_grammar.proofs.Firsts.{class, keyword_class, class_prefix, key_class, gstring_class, gstring_key, key_below, primary_first, closure_first, key_first, key_number, suffix_reach}

-- ---- with which tokens expressions go on

pub reach_operator : (c : TokenKind) {op : BinaryOp} → binary_of c ≡ Some op → reach c ≡ level_of op
reach_operator c p = ap (λ o. reach_by o (typing_of c) (assign_of c) c) p

pub level_below : (op : BinaryOp) → level_of op ≤ 10
level_below binary.Multiply = omega arith
level_below op = omega arith

pub reach_typing : (c : TokenKind) {op : TypeOp} → typing_of c ≡ Some op → reach c ≡ 4
reach_typing (kind.Word (word.Keyword keyword.InstanceOf) n) p = refl
reach_typing (kind.Word (word.Keyword keyword.As) n) p = refl
reach_typing other p = cc

-- no token is both
pub operator_or_typing : (c : TokenKind) {op : BinaryOp} {type : TypeOp} → binary_of c ≡ Some op → typing_of c ≡ Some type → ⊥
operator_or_typing (kind.Word (word.Keyword keyword.InstanceOf) n) p q = cc
operator_or_typing (kind.Word (word.Keyword keyword.As) n) p q = cc
operator_or_typing other p q = cc

pub reach_assign : (c : TokenKind) {op : AssignOp} → assign_of c ≡ Some op → reach c ≡ 12
reach_assign (kind.Symbol symbol.Assign) p = refl
reach_assign (kind.Symbol symbol.PlusAssign) p = refl
reach_assign (kind.Symbol symbol.MinusAssign) p = refl
reach_assign (kind.Symbol symbol.StarAssign) p = refl
reach_assign (kind.Symbol symbol.PercentAssign) p = refl
reach_assign (kind.Symbol symbol.ShiftLeftAssign) p = refl
reach_assign (kind.Symbol symbol.ShiftRightAssign) p = refl
reach_assign (kind.Symbol symbol.ShiftRightUnsignedAssign) p = refl
reach_assign (kind.Symbol symbol.AmpersandAssign) p = refl
reach_assign (kind.Symbol symbol.BarAssign) p = refl
reach_assign (kind.Symbol symbol.CaretAssign) p = refl
reach_assign other p = cc

-- no expression goes on with the next token
abbrev pub Stops : List Token → Type 0
Stops ts = 12 < reach (kind_of ts)

pub at_comma : {ts rest : List Token} → Eats symbol.Comma ts rest → Stops ts
at_comma p = let e = ap reach (kind_eaten p) in omega arith

pub at_colon : {ts rest : List Token} → Eats symbol.Colon ts rest → Stops ts
at_colon p = let e = ap reach (kind_eaten p) in omega arith

pub at_paren : {ts rest : List Token} → Eats symbol.RightParen ts rest → Stops ts
at_paren p = let e = ap reach (kind_eaten p) in omega arith

pub at_bracket : {ts rest : List Token} → Eats symbol.RightBracket ts rest → Stops ts
at_bracket p = let e = ap reach (kind_eaten p) in omega arith

pub at_end : {ts rest : List Token} → EatsEnd ts rest → Stops ts
at_end p = let e = ap reach (end_eaten p) in omega arith

-- two readings of which both end so are one
pub ended : {n : ℕ} {x y : Expr} {ts us : List Token} → n ≤ 12 → Meet (Level n) x ts y us → Stops ts → Stops us → Same x ts y us
ended h (one p q) f g = record { tree = p; rest = q }
ended h (first_goes_on p q) f g = let i = p.by in absurd (omega arith)
ended h (second_goes_on p q) f g = let i = p.by in absurd (omega arith)

-- behind an element: a token with which no expression goes on, and no `:`
pub record Ended (ts : List Token) : Type 0 where
  pub stops : Stops ts
  pub plain : kind_of ts ≡ kind.Symbol symbol.Colon → ⊥

pub ended_comma : {ts rest : List Token} → Eats symbol.Comma ts rest → Ended ts
ended_comma p = record { stops = at_comma p; plain = λ h. let e = kind_eaten p in cc }

pub ended_paren : {ts rest : List Token} → Eats symbol.RightParen ts rest → Ended ts
ended_paren p = record { stops = at_paren p; plain = λ h. let e = kind_eaten p in cc }

pub ended_bracket : {ts rest : List Token} → Eats symbol.RightBracket ts rest → Ended ts
ended_bracket p = record { stops = at_bracket p; plain = λ h. let e = kind_eaten p in cc }

-- what ends before no `:`
pub not_colon : {ts us vs : List Token} → ts ≡ us → (kind_of ts ≡ kind.Symbol symbol.Colon → ⊥) → Eats symbol.Colon us vs → ⊥
not_colon e f p = f (along (λ zs. kind_of zs ≡ kind.Symbol symbol.Colon) e (kind_eaten p))

-- ---- how an expression begins

module _ (all : ℕ) where
  expr_stop : {x y : Expr} {ts rest : List Token} → GoesExpr all x y ts rest → Stops ts → rest ≡ ts
  expr_stop expr_ends h = refl
  expr_stop (assigns {t = t} p q d) h = let e = reach_assign t.kind p in absurd (omega arith)

  cond_stop : {x y : Expr} {ts rest : List Token} → GoesCond all x y ts rest → Stops ts → rest ≡ ts
  cond_stop cond_ends h = refl
  cond_stop (chooses q d) h = let e = ap reach (kind_eaten q) in absurd (omega arith)
  cond_stop (defaults q d) h = let e = ap reach (kind_eaten q) in absurd (omega arith)

  bin_stop : {n : ℕ} {j : Bool} {x y : Expr} {ts rest : List Token} → GoesBin all n j x y ts rest → Stops ts → rest ≡ ts
  bin_stop bin_ends h = refl
  bin_stop (operator {op = op} {t = t} p q r d g) h = let e = reach_operator t.kind p in let f = level_below op in absurd (omega arith)
  bin_stop (typing {t = t} p q r g) h = let e = reach_typing t.kind p in absurd (omega arith)

  path_stop : {x y : Expr} {ts rest : List Token} → GoesPath all x y ts rest → Stops ts → rest ≡ ts
  path_stop path_ends h = refl
  path_stop (suffix s g) h = let e = suffix_reach all s in absurd (omega arith)

  -- It begins with a prefix, or with a primary; and where nothing can go on behind that primary, it ends there.
  data Head (ts rest : List Token) : Type 0 where
    by_prefix : class (kind_of ts) ≡ 6 → Head ts rest
    by_primary : {x : Expr} {us : List Token} → IsPrimary all x ts us → (Stops us → rest ≡ us) → Head ts rest

  longer : {ts us rest : List Token} → Head ts us → (Stops us → rest ≡ us) → Head ts rest
  longer (by_prefix p) g = by_prefix p
  longer (by_primary d f) g = by_primary d (λ h. g (along Stops (f h) h) ∙ f h)

  head_unary : {x : Expr} {ts rest : List Token} → IsUnary all x ts rest → Head ts rest
  head_unary (prefix p d) = by_prefix (class_prefix _ p)
  head_unary (no_prefix (a_path d g)) = by_primary d (path_stop g)

  head_bin : {n : ℕ} {x : Expr} {ts rest : List Token} → IsBin all n x ts rest → Head ts rest
  head_bin (tightest d) = head_unary d
  head_bin (a_bin d g) = longer (head_bin d) (bin_stop g)

  head : {x : Expr} {ts rest : List Token} → IsExpr all x ts rest → Head ts rest
  head (an_expr (a_cond d f) g) = longer (longer (head_bin d) (cond_stop f)) (expr_stop g)

  -- the expression in the parentheses with which one begins
  pub record Inner (us rest : List Token) : Type 0 where
    pub tree : Expr
    pub behind : List Token
    pub after : List Token
    pub inner : IsExpr all tree us behind
    pub close : Eats symbol.RightParen behind after
    pub ends : Stops after → rest ≡ after

  inner_primary : {x : Expr} {ts us vs rest : List Token} → IsPrimary all x ts vs → (Stops vs → rest ≡ vs) → Eats symbol.LeftParen ts us → Inner us rest
  inner_primary (parens {x = x} {us = us} {vs = ws} q e c) f p =
      record { tree = x; behind = ws; after = _; inner = along (λ zs. IsExpr all x zs ws) (same_rest p q) e; close = c; ends = f }
  inner_primary d f p = let a = primary_first all d in let b = ap class (kind_eaten p) in absurd (omega arith)

  inner_head : {ts us rest : List Token} → Head ts rest → Eats symbol.LeftParen ts us → Inner us rest
  inner_head (by_prefix q) p = let a = ap class (kind_eaten p) in absurd (omega arith)
  inner_head (by_primary d f) p = inner_primary d f p

  pub inner_of : {x : Expr} {ts us rest : List Token} → IsExpr all x ts rest → Eats symbol.LeftParen ts us → Inner us rest
  inner_of d p = inner_head (head d) p

  -- the string with parts with which one begins
  pub record Leading (ts rest : List Token) : Type 0 where
    pub string : GString
    pub after : List Token
    pub leading : IsGString all string ts after
    pub ends : Stops after → rest ≡ after

  leading_primary : {x : Expr} {ts vs rest : List Token} → IsPrimary all x ts vs → (Stops vs → rest ≡ vs) → class (kind_of ts) ≡ 1 → Leading ts rest
  leading_primary (a_gstring d) f p = record { string = _; after = _; leading = d; ends = f }
  leading_primary d f p = let a = primary_first all d in absurd (omega arith)

  leading_head : {ts rest : List Token} → Head ts rest → class (kind_of ts) ≡ 1 → Leading ts rest
  leading_head (by_prefix q) p = absurd (omega arith)
  leading_head (by_primary d f) p = leading_primary d f p

  pub leading_of : {x : Expr} {g : GString} {ts us rest : List Token} → IsExpr all x ts rest → IsGString all g ts us → Leading ts rest
  leading_of d g = leading_head (head d) (gstring_class all g)

  -- ---- a key isn't an expression before the end of an element

  abbrev behind_first : List Token → List Token
  behind_first [] = []
  behind_first (t ∷ ts) = ts

  behind_key : {k : Key} {ts rest : List Token} (d : IsKey all k ts rest) → (key_number all d ≡ 2 → ⊥) → rest ≡ behind_first ts
  behind_key (key_word (eats_as p)) h = refl
  behind_key (key_text (eats_as p)) h = refl
  behind_key (key_gstring d) h = absurd (h refl)
  behind_key (key_int p) h = refl
  behind_key (key_long p) h = refl

  keyword_no_prefix : (k : Keyword) → keyword_class k ≡ 6 → ⊥
  keyword_no_prefix keyword.Null p = omega arith
  keyword_no_prefix keyword.True p = omega arith
  keyword_no_prefix keyword.False p = omega arith
  keyword_no_prefix keyword.This p = omega arith
  keyword_no_prefix keyword.Super p = omega arith
  keyword_no_prefix keyword.New p = omega arith
  keyword_no_prefix k p = omega arith

  key_no_prefix : (c : TokenKind) → key_class c < 5 → class c ≡ 6 → ⊥
  key_no_prefix (kind.Word (word.Keyword k) n) h p = keyword_no_prefix k p
  key_no_prefix (kind.Word word.Name n) h p = omega arith
  key_no_prefix (kind.Word word.TypeName n) h p = omega arith
  key_no_prefix (kind.Text piece.Whole n) h p = omega arith
  key_no_prefix (kind.Text (piece.Head f) n) h p = omega arith
  key_no_prefix other h p = omega arith

  colon_stops : (ts : List Token) → kind_of ts ≡ kind.Symbol symbol.Colon → Stops ts
  colon_stops ts p = let e = ap reach p in omega arith

  no_type : {k : Keyword} {n : ℕ} {ts us vs : List Token} → EatsKeyword k ts us → EatsAs type_name_of n us vs → kind_of (behind_first ts) ≡ kind.Symbol symbol.Colon → ⊥
  no_type (eats_keyword p) q h = let a = ap type_name_of h in let b = meant q in cc

  key_primary : {x : Expr} {ts us rest : List Token} → IsPrimary all x ts us → (Stops us → rest ≡ us) → key_class (kind_of ts) < 5 → (key_class (kind_of ts) ≡ 2 → ⊥)
      → kind_of (behind_first ts) ≡ kind.Symbol symbol.Colon → (kind_of rest ≡ kind.Symbol symbol.Colon → ⊥) → ⊥
  key_primary (an_atom {rest = us} q) f h g c e = e (along (λ zs. kind_of zs ≡ kind.Symbol symbol.Colon) (f (colon_stops us c)) c)
  key_primary (a_gstring d) f h g c e = g (gstring_key all d)
  key_primary (parens p d q) f h g c e = let a = ap key_class (kind_eaten p) in omega arith
  key_primary (a_list p d) f h g c e = let a = ap key_class (kind_eaten p) in omega arith
  key_primary (empty_map p d q) f h g c e = let a = ap key_class (kind_eaten p) in omega arith
  key_primary (a_map p d) f h g c e = let a = ap key_class (kind_eaten p) in omega arith
  key_primary (a_closure d) f h g c e = let a = ap key_class (closure_first all d) in omega arith
  key_primary (a_new p n o d) f h g c e = no_type p n c

  key_head : {ts rest : List Token} → Head ts rest → key_class (kind_of ts) < 5 → (key_class (kind_of ts) ≡ 2 → ⊥)
      → kind_of (behind_first ts) ≡ kind.Symbol symbol.Colon → (kind_of rest ≡ kind.Symbol symbol.Colon → ⊥) → ⊥
  key_head (by_prefix p) h g c e = key_no_prefix _ h p
  key_head (by_primary d f) h g c e = key_primary d f h g c e

  pub key_apart : {x : Expr} {k : Key} {ts us vs rest : List Token} → IsExpr all x ts rest → (d : IsKey all k ts us) → (key_number all d ≡ 2 → ⊥) → Eats symbol.Colon us vs → (kind_of rest ≡ kind.Symbol symbol.Colon → ⊥) → ⊥
  key_apart d k h c e = let a = key_first all k in
      key_head (head d) (key_below all k) (λ i. h (sym a ∙ i)) (along (λ zs. kind_of zs ≡ kind.Symbol symbol.Colon) (sym (behind_key k h)) (kind_eaten c)) e

  -- ---- phrases as expressions

  pub raised : (n : ℕ) {x : Expr} {ts rest : List Token} → IsUnary all x ts rest → IsBin all n x ts rest
  raised zero d = tightest d
  raised (suc n) d = a_bin (raised n d) bin_ends

  pub unit_expr : {x : Expr} {ts rest : List Token} → IsUnary all x ts rest → IsExpr all x ts rest
  unit_expr d = an_expr (a_cond (raised 10 d) cond_ends) expr_ends

  pub as_expr : {x : Expr} {ts rest : List Token} → IsPrimary all x ts rest → IsExpr all x ts rest
  as_expr d = unit_expr (no_prefix (a_path d path_ends))

  pub string_expr : {g : GString} {ts rest : List Token} → IsGString all g ts rest → IsExpr all (expr.GString (place_of ts) g) ts rest
  string_expr d = as_expr (a_gstring d)

  pub parens_expr : {x : Expr} {ts us vs rest : List Token} → Eats symbol.LeftParen ts us → IsExpr all x us vs → Eats symbol.RightParen vs rest
      → IsExpr all (expr.Paren (place_of ts) x) ts rest
  parens_expr p d q = as_expr (parens p d q)
