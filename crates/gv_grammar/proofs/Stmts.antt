-- Statements are read in one way.
use Rattle.std.proofs.Common.{◌≡◌, ◌≢◌, ℕ, ◌<◌, Bool, true, false, List, [], ◌∷◌, length, refl, sym, ap, subst, arith, Option, Some, None, ◌∙◌}
use Rattle.gv_base.specs.declared.refusal.Place.{Place}
use Rattle.gv_spelling.specs.declared.kinds.Keyword.{Keyword}
use Rattle.gv_spelling.specs.declared.kinds.Keyword.TheVariants as keyword
use Rattle.gv_spelling.specs.declared.kinds.Symbol.{Symbol}
use Rattle.gv_spelling.specs.declared.kinds.Symbol.TheVariants as symbol
use Rattle.gv_lex.specs.declared.token.Token.{Token}
use Rattle.gv_lex.specs.declared.token.TokenKind.{TokenKind}
use Rattle.gv_lex.specs.declared.token.TokenKind.TheVariants as kind
use Rattle.gv_lex.specs.declared.token.Word.TheVariants as word
use Rattle.gv_tree.specs.declared.expr.Closure.{Closure}
use Rattle.gv_tree.specs.declared.expr.Closure.TheVariants as closure
use Rattle.gv_tree.specs.declared.expr.Expr.{Expr}
use Rattle.gv_tree.specs.declared.expr.Param.{Param, roll-Param}
use Rattle.gv_tree.specs.declared.ops.BinaryOp.TheVariants as binary
use Rattle.gv_tree.specs.declared.ops.Ident.{Ident}
use Rattle.gv_tree.specs.declared.ops.TypeTree.{TypeTree}
use Rattle.gv_tree.specs.declared.ops.VarType.{VarType}
use Rattle.gv_tree.specs.declared.ops.VarType.TheVariants as var
use Rattle.gv_tree.specs.declared.stmt.Case.{Case, roll-Case}
use Rattle.gv_tree.specs.declared.stmt.Catch.{Catch, roll-Catch}
use Rattle.gv_tree.specs.declared.stmt.Decl.{Decl, roll-Decl}
use Rattle.gv_tree.specs.declared.stmt.Stmt.{Stmt}
use Rattle.gv_tree.specs.declared.stmt.Stmt.TheVariants as stmt
use Rattle.gv_tree.specs.declared.stmt.Var.{Var, roll-Var}
use Rattle.gv_grammar.specs.Tokens.{Eats, EatsKeyword, eats_keyword, EatsLine, eats_line, EatsAs, eats_as, kind_of, place_of, name_of, key_name_of, type_of, ident, reach, binary_of, begins_expr}
use Rattle.gv_grammar.specs.Meeting.{Same}
use Rattle.gv_grammar.specs.Exprs.{IsExpr, key_word}
use Rattle.gv_grammar.specs.Stmts.{is_keyword, Separates, by_line, by_semicolon, MayLine, a_line, no_line, ends_stmts, is_name_token, is_bar, is_type_name, begins_typed, begins_types, Reads, reads, IsBodyOf, no_params, with_params, AreParams, no_param, some_params, AreSomeParams, last_param, more_params, IsParam, param, MayInitial, an_initial, no_initial, MayFinal, is_final, not_final, MayTyped, untyped, with_def, with_type, with_rest, IsValue, value, IsFullValue, full_value, IsDecl, decl, IsVarType, var_def, var_typed, AreVars, last_var, more_vars, IsVar, var_alone, var_initial, IsTest, test, AreNames, last_of_names, more_names, IsStmt, a_decl, multiple, a_value, if_alone, if_else, a_while, for_in, for_parts, a_switch, try_catch, try_finally, a_throw, return_value, return_alone, a_break, a_continue, assert_alone, assert_message, IsForIn, by_in, by_colon, MayBegin, begin_decl, begin_value, begin_nothing, MayValue, some_value, no_value, IsLineAndBody, line_and_body, IsBody, body_block, body_stmt, IsBlock, block, AreStmts, no_more, parted, a_stmt, AreAfter, ended as ended_here, goes_on, AreCases, case_parted, cases, AreSomeCases, no_case, a_case, a_default, AreCatches, no_catch, a_catch, MayTypes, no_types, some_types, AreTypes, last_type, more_types, MayFinally, a_finally, no_finally}
use Rattle.gv_grammar.proofs.Single.{same_rest, ap2, ap3, along, eaten_same, kind_eaten, meant, as_same, keyword_same, apart}
use Rattle.gv_grammar.proofs.Filling.{filled_same}
use Rattle.gv_grammar.proofs.Firsts.{class, begins_class}
use Rattle.gv_grammar.proofs.Tails.{Stops, at_comma, at_colon, at_paren, ended, key_apart}
use Rattle.gv_grammar.proofs.Meets.{meet_expr}
use Rattle.gv_grammar.proofs.Commands.{full_once}
use Rattle.gv_grammar.proofs.ForIn.{behind_in}
use Rattle.gv_grammar.proofs.StmtFirsts.{line_eaten, keyword_eaten, named_token, named_key, named_class, open_at, typed_at, ended_at, separated_at, brace_at, semicolon_at, semicolon_class, value_first, full_value_first, decl_first, stmt_first, no_stmt, is_word, param_first}

-- ---- single tokens

-- an expected keyword isn't missing
pub eaten_keyword : {k : Keyword} {ts rest : List Token} → EatsKeyword k ts rest → is_keyword k (kind_of ts)
eaten_keyword {k = k} (eats_keyword p) = subst (is_keyword k) (sym p) refl

pub keyword_missing : {k : Keyword} {ts us rest : List Token} → ts ≡ us → (is_keyword k (kind_of ts) → ⊥) → EatsKeyword k us rest → ⊥
keyword_missing {k = k} e f p = f (along (λ zs. is_keyword k (kind_of zs)) e (eaten_keyword p))

pub symbol_missing : {s : Symbol} {ts us rest : List Token} → ts ≡ us → kind_of ts ≢ kind.Symbol s → Eats s us rest → ⊥
symbol_missing {s = s} e f p = f (along (λ zs. kind_of zs ≡ kind.Symbol s) e (kind_eaten p))

pub keyword_or_symbol : {k : Keyword} {s : Symbol} {ts us vs : List Token} → EatsKeyword k ts us → Eats s ts vs → ⊥
keyword_or_symbol p q = let a = keyword_eaten p in let b = kind_eaten q in let c = a.1 in cc

pub keywords_agree : {k j : Keyword} {ts us vs : List Token} → EatsKeyword k ts us → EatsKeyword j ts vs → k ≡ j
keywords_agree (eats_keyword p) (eats_keyword q) = cc

pub keyword_or_name : {k : Keyword} {ts us : List Token} → EatsKeyword k ts us → is_name_token (kind_of ts) ≡ true → ⊥
keyword_or_name (eats_keyword p) q = let a = ap is_name_token p in cc

pub keyword_after : {k : Keyword} {ts us vs ws : List Token} → ts ≡ us → EatsKeyword k ts vs → EatsKeyword k us ws → vs ≡ ws
keyword_after {k = k} {ws = ws} e p q = keyword_same p (along (λ zs. EatsKeyword k zs ws) e q)

pub line_same : {ts us vs : List Token} → EatsLine ts us → EatsLine ts vs → us ≡ vs
line_same (eats_line p) (eats_line q) = refl

pub at_else : {ts rest : List Token} → EatsKeyword keyword.Else ts rest → Stops ts
at_else (eats_keyword p) = let a = ap reach p in omega arith

pub at_semicolon : {ts rest : List Token} → Eats symbol.Semicolon ts rest → Stops ts
at_semicolon p = let a = ap reach (kind_eaten p) in omega arith

pub separates_once : {ts us vs : List Token} → Separates ts us → Separates ts vs → us ≡ vs
separates_once (by_line p) (by_line q) = line_same p q
separates_once (by_semicolon p) (by_semicolon q) = same_rest p q
separates_once (by_line p) (by_semicolon q) = let a = line_eaten p in let b = kind_eaten q in cc
separates_once (by_semicolon p) (by_line q) = let a = kind_eaten p in let b = line_eaten q in cc

pub separates_stops : {ts us : List Token} → Separates ts us → Stops ts
separates_stops (by_line p) = let a = ap reach (line_eaten p) in omega arith
separates_stops (by_semicolon p) = at_semicolon p

pub may_line_once : {ts us vs : List Token} → MayLine ts us → MayLine ts vs → us ≡ vs
may_line_once (a_line p d) (a_line {rest = r} q e) = may_line_once d (along (λ zs. MayLine zs r) (line_same p q) e)
may_line_once (no_line p) (no_line q) = refl
may_line_once (a_line p d) (no_line q) = absurd (q (line_eaten p))
may_line_once (no_line p) (a_line q e) = absurd (p (line_eaten q))

pub keyword_ends_stops : (k : Keyword) (n : ℕ) → ends_stmts (kind.Word (word.Keyword k) n) ≡ true → reach (kind.Word (word.Keyword k) n) ≡ 13
keyword_ends_stops keyword.Case n p = refl
keyword_ends_stops keyword.Default n p = refl
keyword_ends_stops k n p = cc

pub ends_stops : (c : TokenKind) → ends_stmts c ≡ true → reach c ≡ 13
ends_stops (kind.Symbol symbol.RightBrace) p = refl
ends_stops (kind.Word (word.Keyword k) n) p = keyword_ends_stops k n p
ends_stops kind.End p = refl
ends_stops other p = cc

-- statements don't end before what separates them
pub ends_or_separates : {ts us : List Token} → ends_stmts (kind_of ts) ≡ true → Separates ts us → ⊥
ends_or_separates p (by_line q) = let a = ap ends_stmts (line_eaten q) in cc
ends_or_separates p (by_semicolon q) = let a = ap ends_stmts (kind_eaten q) in cc

pub type_or_def : (place : Place) (c : TokenKind) {n : ℕ} {type : TypeTree} → type_of place c ≡ Some type → c ≡ kind.Word (word.Keyword keyword.Def) n → ⊥
type_or_def place c p q = let a = ap (type_of place) q in cc

pub type_or_final : (place : Place) (c : TokenKind) {n : ℕ} {type : TypeTree} → type_of place c ≡ Some type → c ≡ kind.Word (word.Keyword keyword.Final) n → ⊥
type_or_final place c p q = let a = ap (type_of place) q in cc

-- a type that is a name too is a class's
pub type_name : (place : Place) (c : TokenKind) {type : TypeTree} → type_of place c ≡ Some type → is_name_token c ≡ true → is_type_name c ≡ true
type_name place (kind.Word word.TypeName n) p q = refl
type_name place (kind.Word (word.Keyword k) n) p q = cc
type_name place other p q = cc

pub in_operator : {ts rest : List Token} → EatsKeyword keyword.In ts rest → binary_of (kind_of ts) ≡ Some binary.In
in_operator (eats_keyword p) = ap binary_of p

module _ (tokens : List Token) where
  -- ---- types and names

  pub final_once : {a b : Bool} {ts us vs : List Token} → MayFinal tokens a ts us → MayFinal tokens b ts vs → Same a us b vs
  final_once (is_final p) (is_final q) = record { tree = refl; rest = keyword_same p q }
  final_once (not_final p) (not_final q) = record { tree = refl; rest = refl }
  final_once (is_final p) (not_final q) = absurd (keyword_missing refl q p)
  final_once (not_final p) (is_final q) = absurd (keyword_missing refl p q)

  pub var_type_once : {a b : VarType} {ts us vs : List Token} → IsVarType tokens a ts us → IsVarType tokens b ts vs → Same a us b vs
  var_type_once (var_def p) (var_def q) = record { tree = refl; rest = keyword_same p q }
  var_type_once (var_typed {type = a} p) (var_typed {type = b} q) = let h : a ≡ b = cc in record { tree = ap var.Typed h; rest = refl }
  var_type_once (var_def p) (var_typed {t = t} q) = let a = keyword_eaten p in absurd (type_or_def t.place t.kind q (a.1))
  var_type_once (var_typed {t = t} p) (var_def q) = let a = keyword_eaten q in absurd (type_or_def t.place t.kind p (a.1))

  pub record SameTyped (r : Bool) (w : Option VarType) (ts : List Token) (s : Bool) (v : Option VarType) (us : List Token) : Type 0 where
    pub is_rest : r ≡ s
    pub written : w ≡ v
    pub behind : ts ≡ us

  -- a type's name before a name is no name of a parameter
  pub untyped_or_type : (t : Token) (ts : List Token) {type : TypeTree} → is_name_token t.kind ≡ true → begins_typed (t ∷ ts) ≡ false → type_of t.place t.kind ≡ Some type → is_name_token (kind_of ts) ≡ true → ⊥
  untyped_or_type t ts n f p q = let a = type_name t.place t.kind p n in cc

  pub untyped_or_rest : {t : Token} {ts us ws : List Token} {n : ℕ} → EatsAs name_of n (t ∷ ts) ws → kind_of ws ≢ kind.Symbol symbol.Ellipsis → Eats symbol.Ellipsis ts us → ⊥
  untyped_or_rest (eats_as p) f q = f (kind_eaten q)

  pub typed_once : {r s : Bool} {w v : Option VarType} {n m : ℕ} {ts us vs ws xs : List Token} → MayTyped tokens r w ts us → EatsAs name_of n us ws → kind_of ws ≢ kind.Symbol symbol.Ellipsis
      → MayTyped tokens s v ts vs → EatsAs name_of m vs xs → kind_of xs ≢ kind.Symbol symbol.Ellipsis → SameTyped r w us s v vs
  typed_once (untyped a b) n f (untyped a2 b2) n2 f2 = record { is_rest = refl; written = refl; behind = refl }
  typed_once (untyped a b) n f (with_def p) n2 f2 = absurd (keyword_or_name p a)
  typed_once (untyped a b) n f (with_type {t = t} {rest = rest} p q) n2 f2 = absurd (untyped_or_type t rest a b p q)
  typed_once (untyped a b) n f (with_rest p q) n2 f2 = absurd (untyped_or_rest n f q)
  typed_once (with_def p) n f (untyped a b) n2 f2 = absurd (keyword_or_name p a)
  typed_once (with_def p) n f (with_def q) n2 f2 = record { is_rest = refl; written = refl; behind = keyword_same p q }
  typed_once (with_def p) n f (with_type {t = t} q a) n2 f2 = let b = keyword_eaten p in absurd (type_or_def t.place t.kind q (b.1))
  typed_once (with_def p) n f (with_rest {t = t} q a) n2 f2 = let b = keyword_eaten p in absurd (type_or_def t.place t.kind q (b.1))
  typed_once (with_type {t = t} {rest = rest} p q) n f (untyped a b) n2 f2 = absurd (untyped_or_type t rest a b p q)
  typed_once (with_type {t = t} p q) n f (with_def a) n2 f2 = let b = keyword_eaten a in absurd (type_or_def t.place t.kind p (b.1))
  typed_once (with_type {type = a} p q) n f (with_type {type = b} p2 q2) n2 f2 = let h : a ≡ b = cc in record { is_rest = refl; written = ap (λ c. Some (var.Typed c)) h; behind = refl }
  typed_once (with_type p q) n f (with_rest p2 q2) n2 f2 = let a = ap is_name_token (kind_eaten q2) in cc
  typed_once (with_rest p q) n f (untyped a b) n2 f2 = absurd (untyped_or_rest n2 f2 q)
  typed_once (with_rest {t = t} p q) n f (with_def a) n2 f2 = let b = keyword_eaten a in absurd (type_or_def t.place t.kind p (b.1))
  typed_once (with_rest p q) n f (with_type p2 q2) n2 f2 = let a = ap is_name_token (kind_eaten q) in cc
  typed_once (with_rest {type = a} p q) n f (with_rest {type = b} p2 q2) n2 f2 =
      let h : a ≡ b = cc in record { is_rest = refl; written = ap (λ c. Some (var.Typed c)) h; behind = same_rest q q2 }

  pub names_once : {xs ys : List Ident} {ts us vs : List Token} → AreNames tokens xs ts us → AreNames tokens ys ts vs → Same xs us ys vs
  names_once {ts = ts} (last_of_names p c) (last_of_names p2 c2) = let a = as_same p p2 in record { tree = ap (λ n. ident (place_of ts) n ∷ []) (a.tree); rest = eaten_same (a.rest) c c2 }
  names_once {ts = ts} (more_names p c d) (more_names {ns = ns} {rest = r} p2 c2 d2) =
      let a = as_same p p2 in
      let b = names_once d (along (λ zs. AreNames tokens ns zs r) (eaten_same (a.rest) c c2) d2) in
      record { tree = ap2 (λ n is. ident (place_of ts) n ∷ is) (a.tree) (b.tree); rest = b.rest }
  names_once (last_of_names p c) (more_names p2 c2 d2) = let a = as_same p p2 in let b = apart (a.rest) c c2 in cc
  names_once (more_names p c d) (last_of_names p2 c2) = let a = as_same p p2 in let b = apart (a.rest) c c2 in cc

  pub for_in_once : {ts us vs : List Token} → IsForIn tokens ts us → IsForIn tokens ts vs → us ≡ vs
  for_in_once (by_in p) (by_in q) = keyword_same p q
  for_in_once (by_colon p) (by_colon q) = same_rest p q
  for_in_once (by_in p) (by_colon q) = absurd (keyword_or_symbol p q)
  for_in_once (by_colon p) (by_in q) = absurd (keyword_or_symbol q p)

  pub for_in_plain : {s : Symbol} {ts us vs ws : List Token} → ts ≡ us → IsForIn tokens ts vs → Eats s us ws → kind.Symbol s ≡ kind.Symbol symbol.Colon
  for_in_plain {s = s} {ws = ws} e i q = go i (along (λ zs. Eats s zs ws) e q)
    where
      go : {s : Symbol} {ts us vs : List Token} → IsForIn tokens ts us → Eats s ts vs → kind.Symbol s ≡ kind.Symbol symbol.Colon
      go (by_in p) q = absurd (keyword_or_symbol p q)
      go (by_colon p) q = sym (kind_eaten q) ∙ kind_eaten p

  pub for_in_rest : {ts us : List Token} → IsForIn tokens ts us → kind_of ts ≢ kind.Symbol symbol.Ellipsis
  for_in_rest (by_in p) h = let a = keyword_eaten p in let b = a.1 in cc
  for_in_rest (by_colon p) h = let a = kind_eaten p in cc

  -- a name or `|` stands behind a type, if there is one
  pub types_once : {xs ys : List TypeTree} {ts us vs : List Token} → AreTypes tokens xs ts us → AreTypes tokens ys ts vs → Same xs us ys vs
  types_once (last_type {type = a} p q) (last_type {type = b} p2 q2) = let h : a ≡ b = cc in record { tree = ap (λ w. w ∷ []) h; rest = refl }
  types_once (more_types {type = a} p c d) (more_types {type = b} {types = ys} {rest = r} p2 c2 d2) =
      let h : a ≡ b = cc in
      let e = types_once d (along (λ zs. AreTypes tokens ys zs r) (same_rest c c2) d2) in
      record { tree = ap2 (λ w v. w ∷ v) h (e.tree); rest = e.rest }
  types_once (last_type p q) (more_types p2 c d) = let a = ap is_name_token (kind_eaten c) in cc
  types_once (more_types p c d) (last_type p2 q) = let a = ap is_name_token (kind_eaten c) in cc

  pub untyped_or_types : {xs : List TypeTree} {ts us : List Token} → is_name_token (kind_of ts) ≡ true → begins_types ts ≡ false → AreTypes tokens xs ts us → ⊥
  untyped_or_types n f (last_type {t = t} p q) = let a = type_name t.place t.kind p n in cc
  untyped_or_types n f (more_types {t = t} {us = us} p c d) = let a = type_name t.place t.kind p n in let b = ap is_bar (kind_eaten c) in let e = ap is_name_token (kind_eaten c) in cc

  pub may_types_once : {xs ys : List TypeTree} {ts us vs : List Token} → MayTypes tokens xs ts us → MayTypes tokens ys ts vs → Same xs us ys vs
  may_types_once (no_types p q) (no_types p2 q2) = record { tree = refl; rest = refl }
  may_types_once (some_types d) (some_types d2) = types_once d d2
  may_types_once (no_types p q) (some_types d) = absurd (untyped_or_types p q d)
  may_types_once (some_types d) (no_types p q) = absurd (untyped_or_types p q d)

  -- ---- two forms of `for`

  -- `in` or `:` doesn't follow the name of a declared variable
  pub vars_or_in : {vs : List Var} {n : ℕ} {ts us ws xs ys : List Token} → AreVars tokens vs ts us → Eats symbol.Semicolon us ws → EatsAs name_of n ts xs → IsForIn tokens xs ys → ⊥
  vars_or_in (last_var (var_alone p f) g) s n i = let a = as_same n p in let b = for_in_plain (a.rest) i s in cc
  vars_or_in (last_var (var_initial p e d) g) s n i = let a = as_same n p in let b = for_in_plain (a.rest) i e in cc
  vars_or_in (more_vars (var_alone p f) c d) s n i = let a = as_same n p in let b = for_in_plain (a.rest) i c in cc
  vars_or_in (more_vars (var_initial p e g) c d) s n i = let a = as_same n p in let b = for_in_plain (a.rest) i e in cc

  pub decl_or_in : {d : Decl} {w : VarType} {n : ℕ} {ts us vs ws xs ys : List Token} → IsDecl tokens d ts us → Eats symbol.Semicolon us vs → IsVarType tokens w ts ws → EatsAs name_of n ws xs → IsForIn tokens xs ys → ⊥
  decl_or_in (decl (is_final p) v d) s (var_def q) n i = let a = keywords_agree p q in cc
  decl_or_in (decl (is_final p) v d) s (var_typed {t = t} q) n i = let a = keyword_eaten p in type_or_final t.place t.kind q (a.1)
  decl_or_in (decl {vs = vs} {rest = r} (not_final p) v d) s w n i = let a = var_type_once w v in vars_or_in (along (λ zs. AreVars tokens vs zs r) (a.rest) d) s n i

  -- the name of the loop is no expression before a semicolon
  pub value_or_in : {x y : Expr} {n : ℕ} {ts us vs xs ys zs ws : List Token} → IsExpr (length tokens) x ts us → Eats symbol.Semicolon us vs → EatsAs name_of n ts xs → IsForIn tokens xs ys
      → IsExpr (length tokens) y ys zs → Eats symbol.RightParen zs ws → ⊥
  value_or_in {ts = ts} d s n (by_colon c) e r = key_apart _ d (key_word (eats_key n)) (λ h. omega arith) c (λ h. let a = kind_eaten s in cc)
    where
      eats_key : {n : ℕ} {ts us : List Token} → EatsAs name_of n ts us → EatsAs key_name_of n ts us
      eats_key (eats_as p) = eats_as (named_key _ p)
  value_or_in d s (eats_as {t = t} p) (by_in (eats_keyword {t = u} q)) e r =
      let a = behind_in _ d (named_class t.kind (named_token t.kind p)) (ap binary_of q) (at_semicolon s) in
      let b = ended (omega arith) (meet_expr _ (a.1) e) (at_semicolon s) (at_paren r) in
      let c = apart (b.rest) s r in cc

  pub for_apart : {w : Option VarType} {j : Option Stmt} {n : ℕ} {y : Expr} {ts us vs ws xs ys zs qs : List Token} → MayTyped tokens false w ts ws → EatsAs name_of n ws xs → IsForIn tokens xs ys
      → IsValue tokens y ys zs → Eats symbol.RightParen zs qs → MayBegin tokens j ts us → Eats symbol.Semicolon us vs → ⊥
  for_apart {ts = ts} (untyped a b) n i (value d q) r (begin_decl e) s = let c = decl_first tokens e in let f = open_at ts (let g = named_class (kind_of ts) a in omega arith) b in omega arith
  for_apart (untyped a b) n i (value d q) r (begin_value f (value e q2)) s = value_or_in e s n i d r
  for_apart (untyped a b) n i (value d q) r (begin_nothing p) s = let c = ap is_name_token p in cc
  for_apart (with_def p) n i d r (begin_decl e) s = decl_or_in e s (var_def p) n i
  for_apart {ts = ts} (with_def p) n i d r (begin_value f e) s = let a = keyword_eaten p in let b = ap class (a.1) in let c = value_first tokens e in omega arith
  for_apart (with_def p) n i d r (begin_nothing q) s = absurd (keyword_or_symbol p s)
  for_apart (with_type p q) n i d r (begin_decl e) s = decl_or_in e s (var_typed p) n i
  for_apart (with_type {t = t} {rest = us} p q) n i d r (begin_value f e) s = let a = typed_at t us p q in let b = open_at (t ∷ us) (value_first tokens e) f in omega arith
  for_apart (with_type {t = t} {rest = us} p q) n i d r (begin_nothing a) s = let b = typed_at t us p q in let c = semicolon_at s in omega arith

  -- ---- where a parameter ends

  pub record Behind (ts : List Token) : Type 0 where
    pub stops : Stops ts
    pub no_rest : kind_of ts ≢ kind.Symbol symbol.Ellipsis

  -- what closes parameters
  pub data Closes : Symbol → Type 0 where
    by_arrow : Closes symbol.Arrow
    by_paren : Closes symbol.RightParen

  pub closes : {c : Symbol} {ts rest : List Token} → Closes c → Eats c ts rest → Behind ts
  closes by_arrow p = let a = ap reach (kind_eaten p) in record { stops = omega arith; no_rest = λ h. let b = kind_eaten p in cc }
  closes by_paren p = let a = ap reach (kind_eaten p) in record { stops = omega arith; no_rest = λ h. let b = kind_eaten p in cc }

  pub comma_behind : {ts rest : List Token} → Eats symbol.Comma ts rest → Behind ts
  comma_behind p = record { stops = at_comma p; no_rest = λ h. let b = kind_eaten p in cc }

  pub close_or_comma : {c : Symbol} {ts us vs ws : List Token} → Closes c → ts ≡ us → Eats c ts vs → Eats symbol.Comma us ws → ⊥
  close_or_comma by_arrow e p q = let a = apart e p q in cc
  close_or_comma by_paren e p q = let a = apart e p q in cc

  pub close_or_word : {c : Symbol} {ts rest : List Token} → Eats c ts rest → is_word tokens (kind_of ts) ≡ true → ⊥
  close_or_word p h = let a = ap (is_word tokens) (kind_eaten p) in cc

  pub initial_rest : {i : Option Expr} {ts rest : List Token} → MayInitial tokens i ts rest → kind_of rest ≢ kind.Symbol symbol.Ellipsis → kind_of ts ≢ kind.Symbol symbol.Ellipsis
  initial_rest (an_initial p d r) f h = let a = kind_eaten p in cc
  initial_rest (no_initial g) f h = f h

  abbrev param_of : Bool → Bool → Option VarType → List Token → ℕ → Option Expr → Param
  param_of final rested written vs n initial = roll-Param (record { ident = ident (place_of vs) n; is_final = final; written = written; is_rest = rested; initial = initial })

  abbrev decl_of : List Token → Bool → VarType → List Var → Decl
  decl_of ts final written vs = roll-Decl (record { place = place_of ts; is_final = final; written = written; vars = vs })

  abbrev var_of : List Token → ℕ → Option Expr → Var
  var_of ts n initial = roll-Var (record { ident = ident (place_of ts) n; initial = initial })

  abbrev case_of : List Token → Option Expr → List Stmt → Case
  case_of ts x b = roll-Case (record { place = place_of ts; value = x; body = b })

  abbrev catch_of : List Token → List TypeTree → List Token → ℕ → List Stmt → Catch
  catch_of ts types ws n b = roll-Catch (record { place = place_of ts; types = types; ident = ident (place_of ws) n; body = b })

  -- no statement begins with a brace
  pub block_or_stmt : {b : List Stmt} {x : Stmt} {ts us vs : List Token} → IsBlock tokens b ts us → IsStmt tokens x ts vs → ⊥
  block_or_stmt (block p d q) e = no_stmt tokens e (brace_at p)

  pub after_stops : {b : List Stmt} {ts rest : List Token} → AreAfter tokens b ts rest → Stops ts
  after_stops {ts = ts} (ended_here p) = let a = ends_stops (kind_of ts) p in omega arith
  after_stops (goes_on p d) = separates_stops p

  pub begins_nothing : (ts : List Token) → class (kind_of ts) < 7 → begins_expr (kind_of ts) ≡ false → ⊥
  begins_nothing ts p q = let a = begins_class (kind_of ts) p in cc

  pub decl_or_multiple : {d : Decl} {ts us vs rest : List Token} → IsDecl tokens d ts rest → EatsKeyword keyword.Def ts us → Eats symbol.LeftParen us vs → ⊥
  decl_or_multiple (decl (is_final p) v d) q o = let a = keywords_agree p q in cc
  decl_or_multiple (decl (not_final f) (var_typed {t = t} p) d) q o = let a = keyword_eaten q in type_or_def t.place t.kind p (a.1)
  decl_or_multiple (decl {vs = vs} {rest = r} (not_final f) (var_def p) d) q o = named d (keyword_same p q) o
    where
      named : {vs : List Var} {ts us rest ws : List Token} → AreVars tokens vs ts rest → ts ≡ us → Eats symbol.LeftParen us ws → ⊥
      named (last_var (var_alone p f) g) e q = let a = ap name_of (ap kind_of e ∙ kind_eaten q) in let b = meant p in cc
      named (last_var (var_initial p c d) g) e q = let a = ap name_of (ap kind_of e ∙ kind_eaten q) in let b = meant p in cc
      named (more_vars (var_alone p f) c d) e q = let a = ap name_of (ap kind_of e ∙ kind_eaten q) in let b = meant p in cc
      named (more_vars (var_initial p g h) c d) e q = let a = ap name_of (ap kind_of e ∙ kind_eaten q) in let b = meant p in cc

  pub some_params_word : {c : Symbol} {xs : List Param} {ts rest : List Token} → AreSomeParams tokens c xs ts rest → is_word tokens (kind_of ts) ≡ true
  some_params_word (last_param d c) = param_first tokens d
  some_params_word (more_params d c g) = param_first tokens d

  pub case_or_separates : {x : List Case} {ts us rest : List Token} → AreSomeCases tokens x ts rest → Separates ts us → ⊥
  case_or_separates (no_case p) s = ends_or_separates (ap ends_stmts (kind_eaten p)) s
  case_or_separates (a_case p d c b g) s = let a = keyword_eaten p in ends_or_separates (ap ends_stmts (a.1)) s
  case_or_separates (a_default p c b g) s = let a = keyword_eaten p in ends_or_separates (ap ends_stmts (a.1)) s

  mutual
    -- ---- closures, and the expressions that hold them

    pub reads_once : {x y z : Expr} → Reads tokens x y → Reads tokens x z → y ≡ z
    reads_once {x = x} (reads f h) (reads g i) = filled_same f g x (λ from to u. let a = body_of_once (h from to u) (i from to u) in a.tree)

    pub body_of_once : {x y : Closure} {ts us vs : List Token} → IsBodyOf tokens x ts us → IsBodyOf tokens y ts vs → Same x us y vs
    body_of_once (no_params f d) (no_params g e) = let a = stmts_once d e in record { tree = ap (closure.Read None) (a.tree); rest = a.rest }
    body_of_once (no_params f d) (with_params g p e) = cc
    body_of_once (with_params f p d) (no_params g e) = cc
    body_of_once (with_params f p d) (with_params {b = b} {rest = r} g q e) =
        let a = params_once by_arrow p q in
        let c = stmts_once d (along (λ zs. AreStmts tokens b zs r) (a.rest) e) in
        record { tree = ap2 (λ w v. closure.Read (Some w) v) (a.tree) (c.tree); rest = c.rest }

    pub params_once : {c : Symbol} {xs ys : List Param} {ts us vs : List Token} → Closes c → AreParams tokens c xs ts us → AreParams tokens c ys ts vs → Same xs us ys vs
    params_once h (no_param p) (no_param q) = record { tree = refl; rest = same_rest p q }
    params_once h (some_params d) (some_params e) = some_params_once h d e
    params_once h (no_param p) (some_params e) = absurd (close_or_word p (some_params_word e))
    params_once h (some_params d) (no_param q) = absurd (close_or_word q (some_params_word d))

    pub some_params_once : {c : Symbol} {xs ys : List Param} {ts us vs : List Token} → Closes c → AreSomeParams tokens c xs ts us → AreSomeParams tokens c ys ts vs → Same xs us ys vs
    some_params_once h (last_param d c) (last_param e c2) =
        let a = param_once d e (closes h c) (closes h c2) in record { tree = ap (λ w. w ∷ []) (a.tree); rest = eaten_same (a.rest) c c2 }
    some_params_once h (last_param d c) (more_params e c2 g) = let a = param_once d e (closes h c) (comma_behind c2) in absurd (close_or_comma h (a.rest) c c2)
    some_params_once h (more_params d c g) (last_param e c2) = let a = param_once d e (comma_behind c) (closes h c2) in absurd (close_or_comma h (sym (a.rest)) c2 c)
    some_params_once {c = close} h (more_params d c g) (more_params {ps = ys} {rest = r} e c2 g2) =
        let a = param_once d e (comma_behind c) (comma_behind c2) in
        let b = some_params_once h g (along (λ zs. AreSomeParams tokens close ys zs r) (eaten_same (a.rest) c c2) g2) in
        record { tree = ap2 (λ w v. w ∷ v) (a.tree) (b.tree); rest = b.rest }

    pub param_once : {r s : Bool} {x y : Param} {ts us vs : List Token} → IsParam tokens r x ts us → IsParam tokens s y ts vs → Behind us → Behind vs → Same x us y vs
    param_once {r = r} {s = s} (param {final = f} {written = w} {n = n} {initial = i} {vs = vs} p t m d) (param {final = f2} {written = w2} {n = n2} {initial = i2} {us = us2} {vs = vs2} {ws = ws2} {rest = r2} p2 t2 m2 d2) h k =
        let a = final_once p p2 in
        let b = typed_once t m (initial_rest d h.no_rest) (along (λ zs. MayTyped tokens s w2 zs vs2) (a.rest) t2) m2 (initial_rest d2 k.no_rest) in
        let c = as_same m (along (λ zs. EatsAs name_of n2 zs ws2) (b.behind) m2) in
        let e = initial_once d (along (λ zs. MayInitial tokens i2 zs r2) (c.rest) d2) h.stops k.stops in
        record { tree = ap3 (λ f r w. param_of f r w vs n i) (a.tree) (b.is_rest) (b.written) ∙ ap3 (λ vs n i. param_of f2 s w2 vs n i) (b.behind) (c.tree) (e.tree); rest = e.rest }

    pub initial_once : {x y : Option Expr} {ts us vs : List Token} → MayInitial tokens x ts us → MayInitial tokens y ts vs → Stops us → Stops vs → Same x us y vs
    initial_once (an_initial p d r) (an_initial {x = x} {y = y} {rest = rest} q e r2) h i =
        let a = ended (omega arith) (meet_expr _ d (along (λ zs. IsExpr (length tokens) x zs rest) (same_rest p q) e)) h i in
        record { tree = ap Some (reads_once r (subst (λ w. Reads tokens w y) (sym (a.tree)) r2)); rest = a.rest }
    initial_once (no_initial f) (no_initial g) h i = record { tree = refl; rest = refl }
    initial_once (an_initial p d r) (no_initial g) h i = absurd (symbol_missing refl g p)
    initial_once (no_initial f) (an_initial q e r2) h i = absurd (symbol_missing refl f q)

    pub value_once : {x y : Expr} {ts us vs : List Token} → IsValue tokens x ts us → IsValue tokens y ts vs → Stops us → Stops vs → Same x us y vs
    value_once (value d r) (value {y = y} e r2) h i =
        let a = ended (omega arith) (meet_expr _ d e) h i in record { tree = reads_once r (subst (λ w. Reads tokens w y) (sym (a.tree)) r2); rest = a.rest }

    pub full_value_once : {x y : Expr} {ts us vs : List Token} → IsFullValue tokens x ts us → IsFullValue tokens y ts vs → Stops us → Stops vs → Same x us y vs
    full_value_once (full_value d r) (full_value {y = y} e r2) h i =
        let a = full_once _ d e h i in record { tree = reads_once r (subst (λ w. Reads tokens w y) (sym (a.tree)) r2); rest = a.rest }

    -- ---- declarations

    pub decl_once : {x y : Decl} {ts us vs : List Token} → IsDecl tokens x ts us → IsDecl tokens y ts vs → Stops us → Stops vs → Same x us y vs
    decl_once {ts = ts} (decl p v d) (decl {written = w} {vs = vs} {ws = ws} {rest = r} p2 v2 d2) h i =
        let a = final_once p p2 in
        let b = var_type_once v (along (λ zs. IsVarType tokens w zs ws) (a.rest) v2) in
        let c = vars_once d (along (λ zs. AreVars tokens vs zs r) (b.rest) d2) h i in
        record { tree = ap3 (decl_of ts) (a.tree) (b.tree) (c.tree); rest = c.rest }

    pub vars_once : {xs ys : List Var} {ts us vs : List Token} → AreVars tokens xs ts us → AreVars tokens ys ts vs → Stops us → Stops vs → Same xs us ys vs
    vars_once (last_var d f) (last_var e g) h i = let a = var_once d e h i in record { tree = ap (λ w. w ∷ []) (a.tree); rest = a.rest }
    vars_once (last_var d f) (more_vars e c g) h i = let a = var_once d e h (at_comma c) in absurd (symbol_missing (a.rest) f c)
    vars_once (more_vars d c g) (last_var e f) h i = let a = var_once d e (at_comma c) i in absurd (symbol_missing (sym (a.rest)) f c)
    vars_once (more_vars d c g) (more_vars {vs = ys} {rest = r} e c2 g2) h i =
        let a = var_once d e (at_comma c) (at_comma c2) in
        let b = vars_once g (along (λ zs. AreVars tokens ys zs r) (eaten_same (a.rest) c c2) g2) h i in
        record { tree = ap2 (λ w v. w ∷ v) (a.tree) (b.tree); rest = b.rest }

    pub var_once : {x y : Var} {ts us vs : List Token} → IsVar tokens x ts us → IsVar tokens y ts vs → Stops us → Stops vs → Same x us y vs
    var_once {ts = ts} (var_alone p f) (var_alone q g) h i = let a = as_same p q in record { tree = ap (λ n. var_of ts n None) (a.tree); rest = a.rest }
    var_once (var_alone p f) (var_initial q c e) h i = let a = as_same p q in absurd (symbol_missing (a.rest) f c)
    var_once (var_initial p c d) (var_alone q g) h i = let a = as_same p q in absurd (symbol_missing (sym (a.rest)) g c)
    var_once {ts = ts} (var_initial p c d) (var_initial {x = y} {rest = r} q c2 e) h i =
        let a = as_same p q in
        let b = full_value_once d (along (λ zs. IsFullValue tokens y zs r) (eaten_same (a.rest) c c2) e) h i in
        record { tree = ap2 (λ n x. var_of ts n (Some x)) (a.tree) (b.tree); rest = b.rest }

    -- ---- statements

    pub test_once : {x y : Expr} {ts us vs : List Token} → IsTest tokens x ts us → IsTest tokens y ts vs → Same x us y vs
    test_once (test p d q l) (test {x = y} {vs = vs} {rest = r} p2 e q2 l2) =
        let a = value_once d (along (λ zs. IsValue tokens y zs vs) (same_rest p p2) e) (at_paren q) (at_paren q2) in
        record { tree = a.tree; rest = may_line_once l (along (λ zs. MayLine zs r) (eaten_same (a.rest) q q2) l2) }

    pub begin_once : {x y : Option Stmt} {ts us vs : List Token} → MayBegin tokens x ts us → MayBegin tokens y ts vs → Stops us → Stops vs → Same x us y vs
    begin_once (begin_decl d) (begin_decl e) h i = let a = decl_once d e h i in record { tree = ap (λ w. Some (stmt.Decl w)) (a.tree); rest = a.rest }
    begin_once (begin_value f d) (begin_value g e) h i = let a = value_once d e h i in record { tree = ap (λ w. Some (stmt.Expr w)) (a.tree); rest = a.rest }
    begin_once (begin_nothing p) (begin_nothing q) h i = record { tree = refl; rest = refl }
    begin_once {ts = ts} (begin_decl d) (begin_value g e) h i = let a = decl_first tokens d in let b = open_at ts (value_first tokens e) g in absurd (omega arith)
    begin_once {ts = ts} (begin_value f d) (begin_decl e) h i = let a = decl_first tokens e in let b = open_at ts (value_first tokens d) f in absurd (omega arith)
    begin_once {ts = ts} (begin_decl d) (begin_nothing q) h i = let a = decl_first tokens d in let b = semicolon_class ts q in absurd (omega arith)
    begin_once {ts = ts} (begin_nothing p) (begin_decl e) h i = let a = decl_first tokens e in let b = semicolon_class ts p in absurd (omega arith)
    begin_once (begin_value f d) (begin_nothing q) h i = let a = value_first tokens d in let b = ap class q in absurd (omega arith)
    begin_once (begin_nothing p) (begin_value g e) h i = let a = value_first tokens e in let b = ap class p in absurd (omega arith)

    pub may_value_once : {x y : Option Expr} {ts us vs : List Token} → MayValue tokens x ts us → MayValue tokens y ts vs → Stops us → Stops vs → Same x us y vs
    may_value_once (some_value d) (some_value e) h i = let a = value_once d e h i in record { tree = ap Some (a.tree); rest = a.rest }
    may_value_once (no_value f) (no_value g) h i = record { tree = refl; rest = refl }
    may_value_once {ts = ts} (some_value d) (no_value g) h i = absurd (begins_nothing ts (value_first tokens d) g)
    may_value_once {ts = ts} (no_value f) (some_value e) h i = absurd (begins_nothing ts (value_first tokens e) f)

    pub line_and_body_once : {x y : Stmt} {ts us vs : List Token} → IsLineAndBody tokens x ts us → IsLineAndBody tokens y ts vs → Stops us → Stops vs → Same x us y vs
    line_and_body_once (line_and_body l b) (line_and_body {b = y} {rest = r} l2 c) h i = body_once b (along (λ zs. IsBody tokens y zs r) (may_line_once l l2) c) h i

    pub stmt_once : {x y : Stmt} {ts us vs : List Token} → IsStmt tokens x ts us → IsStmt tokens y ts vs → Stops us → Stops vs → Same x us y vs
    stmt_once (a_decl d) (a_decl e) h i = let a = decl_once d e h i in record { tree = ap stmt.Decl (a.tree); rest = a.rest }
    stmt_once (a_decl d) (multiple p q e r f) h i = absurd (decl_or_multiple d p q)
    stmt_once (multiple p q e r f) (a_decl d) h i = absurd (decl_or_multiple d p q)
    stmt_once {ts = ts} (multiple p q d c e) (multiple {ns = ns} {x = y} {us = us2} {vs = vs2} {ws = ws2} {xs = xs2} {rest = r2} p2 q2 d2 c2 e2) h i =
        let a = names_once d (along (λ zs. AreNames tokens ns zs ws2) (eaten_same (keyword_same p p2) q q2) d2) in
        let b = full_value_once e (along (λ zs. IsFullValue tokens y zs r2) (eaten_same (a.rest) c c2) e2) h i in
        record { tree = ap2 (stmt.Multiple (place_of ts)) (a.tree) (b.tree); rest = b.rest }
    stmt_once (a_value p q d) (a_value p2 q2 e) h i = let a = full_value_once d e h i in record { tree = ap stmt.Expr (a.tree); rest = a.rest }
    stmt_once {ts = ts} (if_alone p t b f) (if_alone {x = y} {b = c} {vs = vs2} {rest = r2} p2 t2 e g) h i =
        let a = test_once t (along (λ zs. IsTest tokens y zs vs2) (keyword_same p p2) t2) in
        let d = body_once b (along (λ zs. IsBody tokens c zs r2) (a.rest) e) h i in
        record { tree = ap2 (λ w v. stmt.If (place_of ts) w v None) (a.tree) (d.tree); rest = d.rest }
    stmt_once {ts = ts} (if_else p t b o d) (if_else {x = y} {b = b2} {d = d2} {vs = vs2} {ws = ws2} {rest = r2} p2 t2 e o2 f) h i =
        let a = test_once t (along (λ zs. IsTest tokens y zs vs2) (keyword_same p p2) t2) in
        let c = body_once b (along (λ zs. IsBody tokens b2 zs ws2) (a.rest) e) (at_else o) (at_else o2) in
        let g = body_once d (along (λ zs. IsBody tokens d2 zs r2) (keyword_after (c.rest) o o2) f) h i in
        record { tree = ap3 (λ w v u. stmt.If (place_of ts) w v (Some u)) (a.tree) (c.tree) (g.tree); rest = g.rest }
    stmt_once (if_alone p t b f) (if_else {x = y} {b = b2} {vs = vs2} {ws = ws2} p2 t2 e o2 d2) h i =
        let a = test_once t (along (λ zs. IsTest tokens y zs vs2) (keyword_same p p2) t2) in
        let c = body_once b (along (λ zs. IsBody tokens b2 zs ws2) (a.rest) e) h (at_else o2) in
        absurd (keyword_missing (c.rest) f o2)
    stmt_once (if_else p t b o d) (if_alone {x = y} {b = b2} {vs = vs2} {rest = r2} p2 t2 e f) h i =
        let a = test_once t (along (λ zs. IsTest tokens y zs vs2) (keyword_same p p2) t2) in
        let c = body_once b (along (λ zs. IsBody tokens b2 zs r2) (a.rest) e) (at_else o) i in
        absurd (keyword_missing (sym (c.rest)) f o)
    stmt_once {ts = ts} (a_while p t b) (a_while {x = y} {b = c} {vs = vs2} {rest = r2} p2 t2 e) h i =
        let a = test_once t (along (λ zs. IsTest tokens y zs vs2) (keyword_same p p2) t2) in
        let d = body_once b (along (λ zs. IsBody tokens c zs r2) (a.rest) e) h i in
        record { tree = ap2 (stmt.While (place_of ts)) (a.tree) (d.tree); rest = d.rest }
    stmt_once {ts = ts} (for_in {w = w} {n = n} {x = x} {b = o} {ws = ws} p q t m k d r l b) (for_in {w = w2} {n = n2} {x = y} {b = c} {ws = ws2} {xs = xs2} {ys = ys2} {zs = zs2} {bs = bs2} {rest = r2} p2 q2 t2 m2 k2 e u2 l2 c2) h i =
        let a = typed_once t m (for_in_rest k) (along (λ zs. MayTyped tokens false w2 zs ws2) (eaten_same (keyword_same p p2) q q2) t2) m2 (for_in_rest k2) in
        let f = as_same m (along (λ zs. EatsAs name_of n2 zs xs2) (a.behind) m2) in
        let g = for_in_once k (along (λ zs. IsForIn tokens zs ys2) (f.rest) k2) in
        let v = value_once d (along (λ zs. IsValue tokens y zs zs2) g e) (at_paren r) (at_paren u2) in
        let u = body_once b (along (λ zs. IsBody tokens c zs r2) (may_line_once l (along (λ zs. MayLine zs bs2) (eaten_same (v.rest) r u2) l2)) c2) h i in
        record { tree = ap3 (λ w zs n. stmt.ForIn (place_of ts) w (ident (place_of zs) n) x o) (a.written) (a.behind) (f.tree) ∙ ap2 (stmt.ForIn (place_of ts) w2 (ident (place_of ws2) n2)) (v.tree) (u.tree); rest = u.rest }
    stmt_once {ts = ts} (for_parts {c = s} {s = v} {b = o} p q d r c k u x b) (for_parts {i = j2} {c = s2} {s = v2} {b = y} {ws = ws2} {ys = ys2} {qs = qs2} {rest = r2} p2 q2 d2 r3 c2 k2 u2 x2 b2) h i =
        let a = begin_once d (along (λ zs. MayBegin tokens j2 zs ws2) (eaten_same (keyword_same p p2) q q2) d2) (at_semicolon r) (at_semicolon r3) in
        let e = may_value_once c (along (λ zs. MayValue tokens s2 zs ys2) (eaten_same (a.rest) r r3) c2) (at_semicolon k) (at_semicolon k2) in
        let f = may_value_once u (along (λ zs. MayValue tokens v2 zs qs2) (eaten_same (e.rest) k k2) u2) (at_paren x) (at_paren x2) in
        let g = line_and_body_once b (along (λ zs. IsLineAndBody tokens y zs r2) (eaten_same (f.rest) x x2) b2) h i in
        record { tree = ap2 (λ w z. stmt.For (place_of ts) w z v o) (a.tree) (e.tree) ∙ ap2 (stmt.For (place_of ts) j2 s2) (f.tree) (g.tree); rest = g.rest }
    stmt_once (for_in p q t m k d r l b) (for_parts {i = j} {ws = ws2} p2 q2 d2 r2 c2 k2 u2 x2 b2) h i =
        absurd (for_apart t m k d r (along (λ zs. MayBegin tokens j zs ws2) (eaten_same (keyword_same p p2) q q2) d2) r2)
    stmt_once (for_parts {i = j} {ws = ws} p q d r c k u x b) (for_in p2 q2 t m k2 e r2 l b2) h i =
        absurd (for_apart t m k2 e r2 (along (λ zs. MayBegin tokens j zs ws) (eaten_same (keyword_same p2 p) q2 q) d) r)
    stmt_once {ts = ts} (a_switch p t o d) (a_switch {x = y} {cs = cs} {vs = vs2} {rest = r2} p2 t2 o2 d2) h i =
        let a = test_once t (along (λ zs. IsTest tokens y zs vs2) (keyword_same p p2) t2) in
        let b = cases_once d (along (λ zs. AreCases tokens cs zs r2) (eaten_same (a.rest) o o2) d2) in
        record { tree = ap2 (stmt.Switch (place_of ts)) (a.tree) (b.tree); rest = b.rest }
    stmt_once {ts = ts} (try_catch {c = x} {cs = xs} p b c f) (try_catch {b = b2} {c = y} {cs = ys} {f = f2} {vs = vs2} {ws = ws2} {rest = r2} p2 d e g) h i =
        let a = block_once b (along (λ zs. IsBlock tokens b2 zs vs2) (keyword_same p p2) d) in
        let k = catches_once c (along (λ zs. AreCatches tokens (y ∷ ys) zs ws2) (a.rest) e) in
        let l = finally_once f (along (λ zs. MayFinally tokens f2 zs r2) (k.rest) g) in
        record { tree = ap3 (stmt.Try (place_of ts)) (a.tree) (k.tree) (l.tree); rest = l.rest }
    stmt_once {ts = ts} (try_finally p b q f) (try_finally {b = b2} {f = f2} {vs = vs2} {rest = r2} p2 d q2 g) h i =
        let a = block_once b (along (λ zs. IsBlock tokens b2 zs vs2) (keyword_same p p2) d) in
        let k = block_once f (along (λ zs. IsBlock tokens f2 zs r2) (keyword_after (a.rest) q q2) g) in
        record { tree = ap2 (λ w v. stmt.Try (place_of ts) w [] (Some v)) (a.tree) (k.tree); rest = k.rest }
    stmt_once (try_catch p b (a_catch c o t n q k g) f) (try_finally {b = b2} {vs = vs2} {ws = ws2} p2 d q2 e) h i =
        let a = block_once b (along (λ zs. IsBlock tokens b2 zs vs2) (keyword_same p p2) d) in
        let l = keywords_agree c (along (λ zs. EatsKeyword keyword.Finally zs ws2) (a.rest) q2) in cc
    stmt_once (try_finally {ws = ws} p b q f) (try_catch {b = b2} {vs = vs2} p2 d (a_catch c o t n q2 k g) e) h i =
        let a = block_once b (along (λ zs. IsBlock tokens b2 zs vs2) (keyword_same p p2) d) in
        let l = keywords_agree c (along (λ zs. EatsKeyword keyword.Finally zs ws) (sym (a.rest)) q) in cc
    stmt_once {ts = ts} (a_throw p d) (a_throw {x = y} {rest = r2} p2 e) h i =
        let a = value_once d (along (λ zs. IsValue tokens y zs r2) (keyword_same p p2) e) h i in record { tree = ap (stmt.Throw (place_of ts)) (a.tree); rest = a.rest }
    stmt_once {ts = ts} (return_value p d) (return_value {x = y} {rest = r2} p2 e) h i =
        let a = full_value_once d (along (λ zs. IsFullValue tokens y zs r2) (keyword_same p p2) e) h i in record { tree = ap (λ w. stmt.Return (place_of ts) (Some w)) (a.tree); rest = a.rest }
    stmt_once (return_alone p f) (return_alone p2 g) h i = record { tree = refl; rest = keyword_same p p2 }
    stmt_once (return_value {us = us} p d) (return_alone p2 g) h i = absurd (begins_nothing us (full_value_first tokens d) (along (λ zs. begins_expr (kind_of zs) ≡ false) (keyword_same p p2) g))
    stmt_once (return_alone p f) (return_value {us = us} p2 e) h i = absurd (begins_nothing us (full_value_first tokens e) (along (λ zs. begins_expr (kind_of zs) ≡ false) (keyword_same p2 p) f))
    stmt_once (a_break p) (a_break p2) h i = record { tree = refl; rest = keyword_same p p2 }
    stmt_once (a_continue p) (a_continue p2) h i = record { tree = refl; rest = keyword_same p p2 }
    stmt_once {ts = ts} (assert_alone p d f) (assert_alone {x = y} {rest = r2} p2 e g) h i =
        let a = value_once d (along (λ zs. IsValue tokens y zs r2) (keyword_same p p2) e) h i in record { tree = ap (λ w. stmt.Assert (place_of ts) w None) (a.tree); rest = a.rest }
    stmt_once {ts = ts} (assert_message p d c e) (assert_message {x = x2} {y = y2} {vs = vs2} {rest = r2} p2 d2 c2 e2) h i =
        let a = value_once d (along (λ zs. IsValue tokens x2 zs vs2) (keyword_same p p2) d2) (at_colon c) (at_colon c2) in
        let b = value_once e (along (λ zs. IsValue tokens y2 zs r2) (eaten_same (a.rest) c c2) e2) h i in
        record { tree = ap2 (λ w v. stmt.Assert (place_of ts) w (Some v)) (a.tree) (b.tree); rest = b.rest }
    stmt_once (assert_alone p d f) (assert_message {x = x2} {vs = vs2} p2 d2 c2 e2) h i =
        let a = value_once d (along (λ zs. IsValue tokens x2 zs vs2) (keyword_same p p2) d2) h (at_colon c2) in absurd (symbol_missing (a.rest) f c2)
    stmt_once (assert_message p d c e) (assert_alone {x = x2} {rest = r2} p2 d2 f) h i =
        let a = value_once d (along (λ zs. IsValue tokens x2 zs r2) (keyword_same p p2) d2) (at_colon c) i in absurd (symbol_missing (sym (a.rest)) f c)
    stmt_once d e h i = let a = stmt_first tokens d in let b = stmt_first tokens e in absurd (omega arith)

    pub body_once : {x y : Stmt} {ts us vs : List Token} → IsBody tokens x ts us → IsBody tokens y ts vs → Stops us → Stops vs → Same x us y vs
    body_once {ts = ts} (body_block d) (body_block e) h i = let a = block_once d e in record { tree = ap (stmt.Block (place_of ts)) (a.tree); rest = a.rest }
    body_once (body_stmt d) (body_stmt e) h i = stmt_once d e h i
    body_once (body_block d) (body_stmt e) h i = absurd (block_or_stmt d e)
    body_once (body_stmt d) (body_block e) h i = absurd (block_or_stmt e d)

    pub block_once : {x y : List Stmt} {ts us vs : List Token} → IsBlock tokens x ts us → IsBlock tokens y ts vs → Same x us y vs
    block_once (block p d q) (block {b = b} {vs = vs} p2 e q2) =
        let a = stmts_once d (along (λ zs. AreStmts tokens b zs vs) (same_rest p p2) e) in record { tree = a.tree; rest = eaten_same (a.rest) q q2 }

    pub stmts_once : {x y : List Stmt} {ts us vs : List Token} → AreStmts tokens x ts us → AreStmts tokens y ts vs → Same x us y vs
    stmts_once (no_more p) (no_more q) = record { tree = refl; rest = refl }
    stmts_once (parted p d) (parted {b = b} {rest = r} q e) = stmts_once d (along (λ zs. AreStmts tokens b zs r) (separates_once p q) e)
    stmts_once (a_stmt d g) (a_stmt {b = b} {rest = r} e f) =
        let a = stmt_once d e (after_stops g) (after_stops f) in
        let c = after_once g (along (λ zs. AreAfter tokens b zs r) (a.rest) f) in
        record { tree = ap2 (λ v w. v ∷ w) (a.tree) (c.tree); rest = c.rest }
    stmts_once (no_more p) (parted q e) = absurd (ends_or_separates p q)
    stmts_once (parted p d) (no_more q) = absurd (ends_or_separates q p)
    stmts_once {ts = ts} (no_more p) (a_stmt e f) = absurd (no_stmt tokens e (ended_at ts p))
    stmts_once {ts = ts} (a_stmt d g) (no_more q) = absurd (no_stmt tokens d (ended_at ts q))
    stmts_once (parted p d) (a_stmt e f) = absurd (no_stmt tokens e (separated_at p))
    stmts_once (a_stmt d g) (parted q e) = absurd (no_stmt tokens d (separated_at q))

    pub after_once : {x y : List Stmt} {ts us vs : List Token} → AreAfter tokens x ts us → AreAfter tokens y ts vs → Same x us y vs
    after_once (ended_here p) (ended_here q) = record { tree = refl; rest = refl }
    after_once (goes_on p d) (goes_on {b = b} {rest = r} q e) = stmts_once d (along (λ zs. AreStmts tokens b zs r) (separates_once p q) e)
    after_once (ended_here p) (goes_on q e) = absurd (ends_or_separates p q)
    after_once (goes_on p d) (ended_here q) = absurd (ends_or_separates q p)

    -- ---- cases and catches

    pub cases_once : {x y : List Case} {ts us vs : List Token} → AreCases tokens x ts us → AreCases tokens y ts vs → Same x us y vs
    cases_once (case_parted p d) (case_parted {cs = cs} {rest = r} q e) = cases_once d (along (λ zs. AreCases tokens cs zs r) (separates_once p q) e)
    cases_once (cases d) (cases e) = some_cases_once d e
    cases_once (case_parted p d) (cases e) = absurd (case_or_separates e p)
    cases_once (cases d) (case_parted p e) = absurd (case_or_separates d p)

    pub some_cases_once : {x y : List Case} {ts us vs : List Token} → AreSomeCases tokens x ts us → AreSomeCases tokens y ts vs → Same x us y vs
    some_cases_once (no_case p) (no_case q) = record { tree = refl; rest = same_rest p q }
    some_cases_once {ts = ts} (a_case p d c b g) (a_case {x = x2} {b = b2} {cs = cs2} {vs = vs2} {xs = xs2} {rest = r2} p2 d2 c2 e f) =
        let a = value_once d (along (λ zs. IsValue tokens x2 zs vs2) (keyword_same p p2) d2) (at_colon c) (at_colon c2) in
        let h = stmts_once b (along (λ zs. AreStmts tokens b2 zs xs2) (eaten_same (a.rest) c c2) e) in
        let i = some_cases_once g (along (λ zs. AreSomeCases tokens cs2 zs r2) (h.rest) f) in
        record { tree = ap3 (λ w v u. case_of ts (Some w) v ∷ u) (a.tree) (h.tree) (i.tree); rest = i.rest }
    some_cases_once {ts = ts} (a_default p c b g) (a_default {b = b2} {cs = cs2} {ws = ws2} {rest = r2} p2 c2 e f) =
        let h = stmts_once b (along (λ zs. AreStmts tokens b2 zs ws2) (eaten_same (keyword_same p p2) c c2) e) in
        let i = some_cases_once g (along (λ zs. AreSomeCases tokens cs2 zs r2) (h.rest) f) in
        record { tree = ap2 (λ v u. case_of ts None v ∷ u) (h.tree) (i.tree); rest = i.rest }
    some_cases_once (no_case p) (a_case q d c b g) = absurd (keyword_or_symbol q p)
    some_cases_once (no_case p) (a_default q c b g) = absurd (keyword_or_symbol q p)
    some_cases_once (a_case q d c b g) (no_case p) = absurd (keyword_or_symbol q p)
    some_cases_once (a_default q c b g) (no_case p) = absurd (keyword_or_symbol q p)
    some_cases_once (a_case p d c b g) (a_default q c2 e f) = let a = keywords_agree p q in cc
    some_cases_once (a_default p c b g) (a_case q d c2 e f) = let a = keywords_agree p q in cc

    pub catches_once : {x y : List Catch} {ts us vs : List Token} → AreCatches tokens x ts us → AreCatches tokens y ts vs → Same x us y vs
    catches_once (no_catch f) (no_catch g) = record { tree = refl; rest = refl }
    catches_once (no_catch f) (a_catch p o t n c b g) = absurd (keyword_missing refl f p)
    catches_once (a_catch p o t n c b g) (no_catch f) = absurd (keyword_missing refl f p)
    catches_once {ts = ts} (a_catch {b = k} p o t m c b g) (a_catch {types = types2} {n = n2} {b = b2} {cs = cs2} {ws = ws2} {xs = xs2} {zs = zs2} {rest = r2} p2 o2 t2 m2 c2 e f) =
        let a = may_types_once t (along (λ zs. MayTypes tokens types2 zs ws2) (eaten_same (keyword_same p p2) o o2) t2) in
        let d = as_same m (along (λ zs. EatsAs name_of n2 zs xs2) (a.rest) m2) in
        let h = block_once b (along (λ zs. IsBlock tokens b2 zs zs2) (eaten_same (d.rest) c c2) e) in
        let i = catches_once g (along (λ zs. AreCatches tokens cs2 zs r2) (h.rest) f) in
        record { tree = ap2 (λ w v. w ∷ v) (ap3 (λ x y z. catch_of ts x y z k) (a.tree) (a.rest) (d.tree) ∙ ap (catch_of ts types2 ws2 n2) (h.tree)) (i.tree); rest = i.rest }

    pub finally_once : {x y : Option (List Stmt)} {ts us vs : List Token} → MayFinally tokens x ts us → MayFinally tokens y ts vs → Same x us y vs
    finally_once (a_finally p d) (a_finally {b = b} {rest = r} q e) =
        let a = block_once d (along (λ zs. IsBlock tokens b zs r) (keyword_same p q) e) in record { tree = ap Some (a.tree); rest = a.rest }
    finally_once (no_finally f) (no_finally g) = record { tree = refl; rest = refl }
    finally_once (a_finally p d) (no_finally g) = absurd (keyword_missing refl g p)
    finally_once (no_finally f) (a_finally q e) = absurd (keyword_missing refl f q)
