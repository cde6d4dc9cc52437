-- A script is read in one way.
use Rattle.std.proofs.Common.{◌≡◌, ℕ, Bool, true, false, List, [], ◌∷◌, refl, sym, ap, arith, Option, Some, None, ◌∙◌}
use Rattle.gv_base.specs.declared.refusal.Place.{Place}
use Rattle.gv_spelling.specs.declared.kinds.Keyword.{Keyword}
use Rattle.gv_spelling.specs.declared.kinds.Keyword.TheVariants as keyword
use Rattle.gv_spelling.specs.declared.kinds.Symbol.TheVariants as symbol
use Rattle.gv_lex.specs.declared.token.Token.{Token}
use Rattle.gv_lex.specs.declared.token.TokenKind.{TokenKind}
use Rattle.gv_lex.specs.declared.token.TokenKind.TheVariants as kind
use Rattle.gv_lex.specs.declared.token.Word.TheVariants as word
use Rattle.gv_tree.specs.declared.expr.Expr.{Expr}
use Rattle.gv_tree.specs.declared.expr.Param.{Param}
use Rattle.gv_tree.specs.declared.ops.Ident.{Ident}
use Rattle.gv_tree.specs.declared.ops.Modifiers.{Modifiers}
use Rattle.gv_tree.specs.declared.ops.TypeTree.{TypeTree}
use Rattle.gv_tree.specs.declared.ops.VarType.{VarType}
use Rattle.gv_tree.specs.declared.stmt.Decl.{Decl}
use Rattle.gv_tree.specs.declared.stmt.Stmt.{Stmt}
use Rattle.gv_tree.specs.declared.stmt.Var.{Var}
use Rattle.gv_tree.specs.declared.top.Annotation.{Annotation}
use Rattle.gv_tree.specs.declared.top.Answer.{Answer}
use Rattle.gv_tree.specs.declared.top.Answer.TheVariants as answer
use Rattle.gv_tree.specs.declared.top.ClassTree.{ClassTree}
use Rattle.gv_tree.specs.declared.top.Import.{Import}
use Rattle.gv_tree.specs.declared.top.Member.{Member}
use Rattle.gv_tree.specs.declared.top.Member.TheVariants as member
use Rattle.gv_tree.specs.declared.top.Method.{Method}
use Rattle.gv_tree.specs.declared.top.Setting.{Setting}
use Rattle.gv_tree.specs.declared.top.Script.{Script}
use Rattle.gv_tree.specs.declared.top.Top.{Top}
use Rattle.gv_tree.specs.declared.top.Top.TheVariants as top
use Rattle.gv_grammar.specs.Tokens.{Eats, EatsKeyword, eats_keyword, EatsEnd, eats_end, EatsAs, eats_as, kind_of, place_of, name_of, type_name_of, ident, type_of, reach}
use Rattle.gv_grammar.specs.Meeting.{Same}
use Rattle.gv_grammar.specs.Stmts.{ends_stmts, Separates, by_line, by_semicolon, MayLine, AreParams, IsVarType, var_def, var_typed, AreVars, last_var, more_vars, var_alone, var_initial, IsValue, IsDecl, decl, is_final, not_final, IsStmt, a_decl, multiple, IsBlock}
use Rattle.gv_grammar.specs.Scripts.{no_modifiers, with_modifier, modified, AreModifiers, no_modifier, a_modifier, IsDotted, last_dotted, more_dotted, MayAll, is_all, not_all, IsImport, an_import, MayName, a_name, no_name, AreSettings, last_setting, more_settings, MaySettings, no_parens, empty_parens, settings, AreAnnotations, no_annotation, an_annotation, IsAnswer, a_void, an_answer, IsRoutine, routine, IsMethod, method, IsMember, a_method, a_constructor, a_field, AreMembers, no_member, member_parted, one_member, AreBehindMember, members_end, members_go_on, IsClass, a_class, IsTop, top_import, top_class, top_method, top_decl, top_stmt, AreTops, no_top, top_parted, one_top, AreBehindTop, tops_end, tops_go_on, IsScript}
use Rattle.gv_grammar.proofs.Single.{same_rest, ap2, ap3, along, along2, eaten_same, kind_eaten, end_eaten, meant, as_same, keyword_same, apart}
use Rattle.gv_grammar.proofs.Tails.{Stops, at_comma, at_paren, at_end}
use Rattle.gv_grammar.proofs.StmtFirsts.{line_eaten, keyword_eaten, stmt_class, keyword_at, symbol_at, typed_at, named_token, ended_at, separated_at, stmt_first, no_stmt}
use Rattle.gv_grammar.proofs.Stmts.{symbol_missing, keyword_or_symbol, keywords_agree, separates_once, separates_stops, may_line_once, var_type_once, by_paren, params_once, value_once, decl_once, vars_once, stmt_once, block_once}

pub end_once : {ts us vs : List Token} → EatsEnd ts us → EatsEnd ts vs → us ≡ vs
end_once (eats_end p) (eats_end q) = refl

-- ---- words before a declaration

pub keyword_modifies : (k : Keyword) (m : Modifiers) {n : Modifiers} → with_modifier k m ≡ Some n → with_modifier k no_modifiers ≡ None → ⊥
keyword_modifies keyword.Public m p q = cc
keyword_modifies keyword.Private m p q = cc
keyword_modifies keyword.Protected m p q = cc
keyword_modifies keyword.Static m p q = cc
keyword_modifies keyword.Final m p q = cc
keyword_modifies k m p q = cc

-- a word that modifies anything modifies everything
pub modifies : (c : TokenKind) (m : Modifiers) {n : Modifiers} → modified c m ≡ Some n → modified c no_modifiers ≡ None → ⊥
modifies (kind.Word (word.Keyword k) n) m p q = keyword_modifies k m p q
modifies other m p q = cc

pub modifiers_once : {a b : Modifiers} {ts us vs : List Token} → AreModifiers a ts us → AreModifiers b ts vs → Same a us b vs
modifiers_once (no_modifier p) (no_modifier q) = record { tree = refl; rest = refl }
modifiers_once (no_modifier p) (a_modifier {m = m} {t = t} d q) = absurd (modifies t.kind m q p)
modifiers_once (a_modifier {m = m} {t = t} d q) (no_modifier p) = absurd (modifies t.kind m q p)
modifiers_once (a_modifier {n = n} {t = t} d p) (a_modifier {n = n2} e q) =
    let a = modifiers_once d e in
    let b = ap (modified t.kind) (a.tree) in
    let c : n ≡ n2 = cc in
    record { tree = c; rest = a.rest }

-- the first word doesn't modify
pub unmodified : {m : Modifiers} {ts us : List Token} → AreModifiers m ts us → modified (kind_of ts) no_modifiers ≡ None → us ≡ ts
unmodified (no_modifier p) h = refl
unmodified (a_modifier {m = m} {t = t} d q) h = absurd (modifies t.kind m q h)

pub keyword_unmodified : {k : Keyword} {ts us : List Token} → EatsKeyword k ts us → with_modifier k no_modifiers ≡ None → modified (kind_of ts) no_modifiers ≡ None
keyword_unmodified (eats_keyword p) h = ap (λ c. modified c no_modifiers) p ∙ h

-- ---- imports

pub dotted_once : {xs ys : List Ident} {ts us vs : List Token} → IsDotted xs ts us → IsDotted ys ts vs → Same xs us ys vs
dotted_once {ts = ts} (last_dotted p f) (last_dotted q g) = let a = as_same p q in record { tree = ap (λ n. ident (place_of ts) n ∷ []) (a.tree); rest = a.rest }
dotted_once (last_dotted p f) (more_dotted q c d) = let a = as_same p q in absurd (symbol_missing (a.rest) f c)
dotted_once (more_dotted p c d) (last_dotted q f) = let a = as_same p q in absurd (symbol_missing (sym (a.rest)) f c)
dotted_once {ts = ts} (more_dotted p c d) (more_dotted {ns = ns} {rest = r} q c2 e) =
    let a = as_same p q in
    let b = dotted_once d (along (λ zs. IsDotted ns zs r) (eaten_same (a.rest) c c2) e) in
    record { tree = ap2 (λ n is. ident (place_of ts) n ∷ is) (a.tree) (b.tree); rest = b.rest }

pub all_once : {a b : Bool} {ts us vs : List Token} → MayAll a ts us → MayAll b ts vs → Same a us b vs
all_once (is_all p) (is_all q) = record { tree = refl; rest = same_rest p q }
all_once (not_all f) (not_all g) = record { tree = refl; rest = refl }
all_once (is_all p) (not_all g) = absurd (symbol_missing refl g p)
all_once (not_all f) (is_all q) = absurd (symbol_missing refl f q)

pub import_once : {x y : Import} {ts us vs : List Token} → IsImport x ts us → IsImport y ts vs → Same x us y vs
import_once {ts = ts} (an_import p d m) (an_import {path = path} {all = b} {vs = vs2} {rest = r} q e n) =
    let a = dotted_once d (along (λ zs. IsDotted path zs vs2) (keyword_same p q) e) in
    let c = all_once m (along (λ zs. MayAll b zs r) (a.rest) n) in
    record { tree = ap2 (λ is w. record { place = place_of ts; path = is; is_all = w }) (a.tree) (c.tree); rest = c.rest }

pub name_once : {k : Keyword} {x y : Option Ident} {ts us vs : List Token} → MayName k x ts us → MayName k y ts vs → Same x us y vs
name_once (a_name p n) (a_name {n = m} {us = us} {rest = r} q n2) =
    let h = keyword_same p q in
    let a = as_same n (along (λ zs. EatsAs type_name_of m zs r) h n2) in
    record { tree = ap2 (λ zs w. Some (ident (place_of zs) w)) h (a.tree); rest = a.rest }
name_once (no_name f) (no_name g) = record { tree = refl; rest = refl }
name_once (a_name p n) (no_name g) = let a = keyword_eaten p in absurd (g a.0 (a.1))
name_once (no_name f) (a_name q n) = let a = keyword_eaten q in absurd (f a.0 (a.1))

-- ---- the first token of a declaration with modifiers

-- no statement begins here, or a declaration
pub data Begun (ts : List Token) : Type 0 where
  none_begun : stmt_class ts ≡ 0 → Begun ts
  decl_begun : stmt_class ts ≡ 2 → Begun ts

pub modifier_begun : (t : Token) (ts : List Token) (c : TokenKind) (m : Modifiers) {n : Modifiers} → t.kind ≡ c → modified c m ≡ Some n → Begun (t ∷ ts)
modifier_begun t ts (kind.Word (word.Keyword keyword.Public) n) m e p = none_begun (keyword_at (eats_keyword {t = t} {rest = ts} e))
modifier_begun t ts (kind.Word (word.Keyword keyword.Private) n) m e p = none_begun (keyword_at (eats_keyword {t = t} {rest = ts} e))
modifier_begun t ts (kind.Word (word.Keyword keyword.Protected) n) m e p = none_begun (keyword_at (eats_keyword {t = t} {rest = ts} e))
modifier_begun t ts (kind.Word (word.Keyword keyword.Static) n) m e p = none_begun (keyword_at (eats_keyword {t = t} {rest = ts} e))
modifier_begun t ts (kind.Word (word.Keyword keyword.Final) n) m e p = decl_begun (keyword_at (eats_keyword {t = t} {rest = ts} e))
modifier_begun t ts c m e p = cc

-- whether a class, a member or a top of its own may begin with this
abbrev opens : TokenKind → Bool
opens (kind.Word w n) = true
opens (kind.Symbol symbol.At) = true
opens other = false

pub keyword_opens : {k : Keyword} {ts rest : List Token} → EatsKeyword k ts rest → opens (kind_of ts) ≡ true
keyword_opens (eats_keyword p) = ap opens p

pub modifier_opens : (c : TokenKind) (m : Modifiers) {n : Modifiers} → modified c m ≡ Some n → opens c ≡ true
modifier_opens (kind.Word w n) m p = refl
modifier_opens other m p = cc

pub name_opens : (c : TokenKind) {n : ℕ} → type_name_of c ≡ Some n → opens c ≡ true
name_opens (kind.Word w n) p = refl
name_opens other p = cc

pub type_kind_opens : (place : Place) (c : TokenKind) {type : TypeTree} → type_of place c ≡ Some type → opens c ≡ true
type_kind_opens place (kind.Word w n) p = refl
type_kind_opens place other p = cc

pub type_kind_unmodified : (place : Place) (c : TokenKind) {type : TypeTree} → type_of place c ≡ Some type → modified c no_modifiers ≡ None
type_kind_unmodified place (kind.Word (word.Keyword keyword.Int) n) p = refl
type_kind_unmodified place (kind.Word (word.Keyword keyword.Long) n) p = refl
type_kind_unmodified place (kind.Word (word.Keyword keyword.Boolean) n) p = refl
type_kind_unmodified place (kind.Word word.TypeName n) p = refl
type_kind_unmodified place other p = cc

pub separator_opens : {ts us : List Token} → Separates ts us → opens (kind_of ts) ≡ false
separator_opens (by_line p) = ap opens (line_eaten p)
separator_opens (by_semicolon p) = ap opens (kind_eaten p)

pub separator_or_brace : {ts us vs : List Token} → Separates ts us → Eats symbol.RightBrace ts vs → ⊥
separator_or_brace (by_line p) q = let a = line_eaten p in let b = kind_eaten q in cc
separator_or_brace (by_semicolon p) q = let a = apart refl p q in cc

pub separator_or_end : {ts us vs : List Token} → Separates ts us → EatsEnd ts vs → ⊥
separator_or_end (by_line p) q = let a = line_eaten p in let b = end_eaten q in cc
separator_or_end (by_semicolon p) q = let a = kind_eaten p in let b = end_eaten q in cc

module _ (tokens : List Token) where
  -- ---- annotations

  abbrev setting_of : List Token → ℕ → Expr → Setting
  setting_of ts n x = record { ident = ident (place_of ts) n; value = x }

  pub settings_once : {xs ys : List Setting} {ts us vs : List Token} → AreSettings tokens xs ts us → AreSettings tokens ys ts vs → Same xs us ys vs
  settings_once {ts = ts} (last_setting p e d c) (last_setting {x = y} {ws = ws} q e2 d2 c2) =
      let a = as_same p q in
      let b = value_once tokens d (along (λ zs. IsValue tokens y zs ws) (eaten_same (a.rest) e e2) d2) (at_paren c) (at_paren c2) in
      record { tree = ap2 (λ n x. setting_of ts n x ∷ []) (a.tree) (b.tree); rest = eaten_same (b.rest) c c2 }
  settings_once (last_setting p e d c) (more_settings {x = y} {ws = ws} q e2 d2 c2 g) =
      let a = as_same p q in
      let b = value_once tokens d (along (λ zs. IsValue tokens y zs ws) (eaten_same (a.rest) e e2) d2) (at_paren c) (at_comma c2) in
      let h = apart (b.rest) c c2 in cc
  settings_once (more_settings p e d c g) (last_setting {x = y} {ws = ws} q e2 d2 c2) =
      let a = as_same p q in
      let b = value_once tokens d (along (λ zs. IsValue tokens y zs ws) (eaten_same (a.rest) e e2) d2) (at_comma c) (at_paren c2) in
      let h = apart (b.rest) c c2 in cc
  settings_once {ts = ts} (more_settings p e d c g) (more_settings {x = y} {ss = ss} {ws = ws} {rest = r} q e2 d2 c2 g2) =
      let a = as_same p q in
      let b = value_once tokens d (along (λ zs. IsValue tokens y zs ws) (eaten_same (a.rest) e e2) d2) (at_comma c) (at_comma c2) in
      let h = settings_once g (along (λ zs. AreSettings tokens ss zs r) (eaten_same (b.rest) c c2) g2) in
      record { tree = ap3 (λ n x w. setting_of ts n x ∷ w) (a.tree) (b.tree) (h.tree); rest = h.rest }

  pub settings_or_close : {xs : List Setting} {ts us vs ws : List Token} → ts ≡ us → AreSettings tokens xs ts vs → Eats symbol.RightParen us ws → ⊥
  settings_or_close e (last_setting p q d c) r = let a = meant p in let b = ap name_of (ap kind_of e ∙ kind_eaten r) in cc
  settings_or_close e (more_settings p q d c g) r = let a = meant p in let b = ap name_of (ap kind_of e ∙ kind_eaten r) in cc

  pub may_settings_once : {xs ys : List Setting} {ts us vs : List Token} → MaySettings tokens xs ts us → MaySettings tokens ys ts vs → Same xs us ys vs
  may_settings_once (no_parens f) (no_parens g) = record { tree = refl; rest = refl }
  may_settings_once (no_parens f) (empty_parens p q) = absurd (symbol_missing refl f p)
  may_settings_once (no_parens f) (settings p d) = absurd (symbol_missing refl f p)
  may_settings_once (empty_parens p q) (no_parens g) = absurd (symbol_missing refl g p)
  may_settings_once (settings p d) (no_parens g) = absurd (symbol_missing refl g p)
  may_settings_once (empty_parens p q) (empty_parens p2 q2) = record { tree = refl; rest = eaten_same (same_rest p p2) q q2 }
  may_settings_once (empty_parens p q) (settings p2 d) = absurd (settings_or_close (same_rest p2 p) d q)
  may_settings_once (settings p d) (empty_parens p2 q) = absurd (settings_or_close (same_rest p p2) d q)
  may_settings_once (settings p d) (settings {ss = ss} {rest = r} p2 e) = settings_once d (along (λ zs. AreSettings tokens ss zs r) (same_rest p p2) e)

  pub notes_once : {xs ys : List Annotation} {ts us vs : List Token} → AreAnnotations tokens xs ts us → AreAnnotations tokens ys ts vs → Same xs us ys vs
  notes_once (no_annotation f) (no_annotation g) = record { tree = refl; rest = refl }
  notes_once (no_annotation f) (an_annotation p d s l g) = absurd (symbol_missing refl f p)
  notes_once (an_annotation p d s l g) (no_annotation f) = absurd (symbol_missing refl f p)
  notes_once {ts = ts} (an_annotation p d s l g) (an_annotation {path = path} {ss = ss} {notes = ns} {vs = vs} {ws = ws} {xs = xs} {rest = r} q e s2 l2 g2) =
      let a = dotted_once d (along (λ zs. IsDotted path zs vs) (same_rest p q) e) in
      let b = may_settings_once s (along (λ zs. MaySettings tokens ss zs ws) (a.rest) s2) in
      let c = notes_once g (along (λ zs. AreAnnotations tokens ns zs r) (may_line_once l (along (λ zs. MayLine zs xs) (b.rest) l2)) g2) in
      record { tree = ap3 (λ is w v. record { place = place_of ts; path = is; settings = w } ∷ v) (a.tree) (b.tree) (c.tree); rest = c.rest }

  -- ---- methods

  pub void_or_type : {w : VarType} {ts us vs : List Token} → EatsKeyword keyword.Void ts us → IsVarType tokens w ts vs → ⊥
  void_or_type p (var_def q) = let a = keywords_agree p q in cc
  void_or_type p (var_typed {t = t} q) = let a = keyword_eaten p in let b = ap (type_of t.place) (a.1) in cc

  pub answer_once : {x y : Answer} {ts us vs : List Token} → IsAnswer tokens x ts us → IsAnswer tokens y ts vs → Same x us y vs
  answer_once (a_void p) (a_void q) = record { tree = refl; rest = keyword_same p q }
  answer_once (an_answer d) (an_answer e) = let a = var_type_once tokens d e in record { tree = ap answer.Value (a.tree); rest = a.rest }
  answer_once (a_void p) (an_answer e) = absurd (void_or_type p e)
  answer_once (an_answer d) (a_void q) = absurd (void_or_type q d)

  pub record SameRoutine (p : List Param) (b : List Stmt) (ts : List Token) (q : List Param) (c : List Stmt) (us : List Token) : Type 0 where
    pub params : p ≡ q
    pub body : b ≡ c
    pub rest : ts ≡ us

  pub routine_once : {p q : List Param} {b c : List Stmt} {ts us vs : List Token} → IsRoutine tokens p b ts us → IsRoutine tokens q c ts vs → SameRoutine p b us q c vs
  routine_once (routine o d l b) (routine {ps = ps} {b = b2} {vs = vs} {ws = ws} {rest = r} o2 d2 l2 c) =
      let a = params_once tokens by_paren d (along (λ zs. AreParams tokens symbol.RightParen ps zs vs) (same_rest o o2) d2) in
      let e = block_once tokens b (along (λ zs. IsBlock tokens b2 zs r) (may_line_once l (along (λ zs. MayLine zs ws) (a.rest) l2)) c) in
      record { params = a.tree; body = e.tree; rest = e.rest }

  abbrev method_of : List Annotation → Modifiers → Answer → List Token → ℕ → List Param → List Stmt → Method
  method_of notes m a ws n ps b = record { annotations = notes; modifiers = m; answer = a; ident = ident (place_of ws) n; params = ps; body = b }

  pub method_once : {x y : Method} {ts us vs : List Token} → IsMethod tokens x ts us → IsMethod tokens y ts vs → Same x us y vs
  method_once (method {n = n} {ps = ps} {b = b} {ws = ws} p m d i e) (method {notes = ns} {m = m2} {a = a2} {n = n2} {ps = ps2} {b = b2} {us = us2} {vs = vs2} {ws = ws2} {xs = xs2} {rest = r2} p2 k d2 i2 e2) =
      let a = notes_once p p2 in
      let c = modifiers_once m (along (λ zs. AreModifiers m2 zs vs2) (a.rest) k) in
      let f = answer_once d (along (λ zs. IsAnswer tokens a2 zs ws2) (c.rest) d2) in
      let g = as_same i (along (λ zs. EatsAs name_of n2 zs xs2) (f.rest) i2) in
      let h = routine_once e (along (λ zs. IsRoutine tokens ps2 b2 zs r2) (g.rest) e2) in
      record { tree = ap3 (λ x y z. method_of x y z ws n ps b) (a.tree) (c.tree) (f.tree) ∙ (ap2 (λ zs w. method_of ns m2 a2 zs w ps b) (f.rest) (g.tree) ∙ ap2 (method_of ns m2 a2 ws2 n2) (h.params) (h.body)); rest = h.rest }

  -- ---- members

  pub routine_or_stop : {ps : List Param} {b : List Stmt} {ts us : List Token} → IsRoutine tokens ps b ts us → Stops ts → ⊥
  routine_or_stop (routine o d l b) h = let a = ap reach (kind_eaten o) in omega arith

  -- the name of a routine isn't that of a variable
  pub vars_or_routine : {vs : List Var} {ps : List Param} {b : List Stmt} {n : ℕ} {ts us xs ys : List Token} → AreVars tokens vs ts us → Stops us → EatsAs name_of n ts xs → IsRoutine tokens ps b xs ys → ⊥
  vars_or_routine (last_var (var_alone p f) g) h n r = let a = as_same n p in routine_or_stop r (along Stops (a.rest) h)
  vars_or_routine (last_var (var_initial p c d) g) h n (routine o e l b) = let a = as_same n p in let k = apart (a.rest) o c in cc
  vars_or_routine (more_vars (var_alone p f) c d) h n (routine o e l b) = let a = as_same n p in let k = apart (a.rest) o c in cc
  vars_or_routine (more_vars (var_initial p c g) c2 d) h n (routine o e l b) = let a = as_same n p in let k = apart (a.rest) o c in cc

  pub vars_or_parens : {vs : List Var} {ps : List Param} {b : List Stmt} {ts us xs : List Token} → AreVars tokens vs ts us → IsRoutine tokens ps b ts xs → ⊥
  vars_or_parens (last_var (var_alone p f) g) (routine o e l b) = let a = meant p in let k = ap name_of (kind_eaten o) in cc
  vars_or_parens (last_var (var_initial p c d) g) (routine o e l b) = let a = meant p in let k = ap name_of (kind_eaten o) in cc
  vars_or_parens (more_vars (var_alone p f) c d) (routine o e l b) = let a = meant p in let k = ap name_of (kind_eaten o) in cc
  vars_or_parens (more_vars (var_initial p c g) c2 d) (routine o e l b) = let a = meant p in let k = ap name_of (kind_eaten o) in cc

  -- a class's name, as a type, ends where it ends as the name of a constructor
  pub type_behind : {w : VarType} {n : ℕ} {ts us vs : List Token} → IsVarType tokens w ts us → EatsAs type_name_of n ts vs → us ≡ vs
  type_behind (var_typed q) (eats_as p) = refl
  type_behind (var_def q) p = let a = keyword_eaten q in let b = ap type_name_of (a.1) in let c = meant p in cc

  pub answer_behind : {x : Answer} {n : ℕ} {ts us vs : List Token} → IsAnswer tokens x ts us → EatsAs type_name_of n ts vs → us ≡ vs
  answer_behind (an_answer d) p = type_behind d p
  answer_behind (a_void q) p = let a = keyword_eaten q in let b = ap type_name_of (a.1) in let c = meant p in cc

  pub answer_type : {x : Answer} {w : VarType} {ts us vs : List Token} → IsAnswer tokens x ts us → IsVarType tokens w ts vs → us ≡ vs
  answer_type d e = let a = answer_once d (an_answer e) in a.rest

  pub method_or_constructor : {x : Answer} {ps : List Param} {b : List Stmt} {n m : ℕ} {ts us vs ws xs : List Token} → IsAnswer tokens x ts us → EatsAs name_of n us vs → EatsAs type_name_of m ts ws → IsRoutine tokens ps b ws xs → ⊥
  method_or_constructor d i c (routine o e l b) = let a = answer_behind d c in let f = meant i in let g = ap name_of (ap kind_of a ∙ kind_eaten o) in cc

  pub member_once : {class : ℕ} {x y : Member} {ts us vs : List Token} → IsMember tokens class x ts us → IsMember tokens class y ts vs → Stops us → Stops vs → Same x us y vs
  member_once (a_method d) (a_method e) h k = let a = method_once d e in record { tree = ap member.Method (a.tree); rest = a.rest }
  member_once {class = class} (a_constructor {ps = ps} {b = b} {vs = vs} p m n d) (a_constructor {notes = ns} {m = m2} {ps = ps2} {b = b2} {us = us2} {vs = vs2} {ws = ws2} {rest = r2} p2 k n2 e) h j =
      let a = notes_once p p2 in
      let c = modifiers_once m (along (λ zs. AreModifiers m2 zs vs2) (a.rest) k) in
      let f = as_same n (along (λ zs. EatsAs type_name_of class zs ws2) (c.rest) n2) in
      let g = routine_once d (along (λ zs. IsRoutine tokens ps2 b2 zs r2) (f.rest) e) in
      record {
        tree = ap3 (λ x y zs. member.Constructor (record { annotations = x; modifiers = y; ident = ident (place_of zs) class; params = ps; body = b })) (a.tree) (c.tree) (c.rest)
            ∙ ap2 (λ x y. member.Constructor (record { annotations = ns; modifiers = m2; ident = ident (place_of vs2) class; params = x; body = y })) (g.params) (g.body);
        rest = g.rest;
      }
  member_once (a_field {vars = vars} p m d e) (a_field {notes = ns} {m = m2} {v = v2} {vars = vars2} {us = us2} {vs = vs2} {ws = ws2} {rest = r2} p2 k d2 e2) h j =
      let a = notes_once p p2 in
      let c = modifiers_once m (along (λ zs. AreModifiers m2 zs vs2) (a.rest) k) in
      let f = var_type_once tokens d (along (λ zs. IsVarType tokens v2 zs ws2) (c.rest) d2) in
      let g = vars_once tokens e (along (λ zs. AreVars tokens vars2 zs r2) (f.rest) e2) h j in
      record {
        tree = ap3 (λ x y z. member.Field (record { annotations = x; modifiers = y; written = z; vars = vars })) (a.tree) (c.tree) (f.tree)
            ∙ ap (λ w. member.Field (record { annotations = ns; modifiers = m2; written = v2; vars = w })) (g.tree);
        rest = g.rest;
      }
  member_once {class = class} (a_method (method p m d i e)) (a_constructor {m = m2} {vs = vs2} {ws = ws2} p2 k n e2) h j =
      let a = notes_once p p2 in
      let c = modifiers_once m (along (λ zs. AreModifiers m2 zs vs2) (a.rest) k) in
      absurd (method_or_constructor d i (along (λ zs. EatsAs type_name_of class zs ws2) (c.rest) n) e2)
  member_once (a_constructor {class = class} {ws = ws} p m n e) (a_method (method {m = m2} {a = a2} {vs = vs2} {ws = ws2} p2 k d i e2)) h j =
      let a = notes_once p p2 in
      let c = modifiers_once m (along (λ zs. AreModifiers m2 zs vs2) (a.rest) k) in
      absurd (method_or_constructor (along (λ zs. IsAnswer tokens a2 zs ws2) (c.rest) d) i n e)
  member_once (a_method (method p m d i e)) (a_field {m = m2} {v = v2} {vars = vars2} {vs = vs2} {ws = ws2} {rest = r2} p2 k d2 e2) h j =
      let a = notes_once p p2 in
      let c = modifiers_once m (along (λ zs. AreModifiers m2 zs vs2) (a.rest) k) in
      let f = answer_type d (along (λ zs. IsVarType tokens v2 zs ws2) (c.rest) d2) in
      absurd (vars_or_routine (along (λ zs. AreVars tokens vars2 zs r2) f e2) j i e)
  member_once (a_field {vars = vars} {rest = r} p m d e) (a_method (method {m = m2} {a = a2} {n = n2} {vs = vs2} {ws = ws2} {xs = xs2} p2 k d2 i e2)) h j =
      let a = notes_once p p2 in
      let c = modifiers_once m (along (λ zs. AreModifiers m2 zs vs2) (a.rest) k) in
      let f = answer_type (along (λ zs. IsAnswer tokens a2 zs ws2) (c.rest) d2) d in
      absurd (vars_or_routine (along (λ zs. AreVars tokens vars zs r) f e) h i e2)
  member_once (a_constructor {ps = ps} {b = b} {rest = r} p m n e) (a_field {m = m2} {v = v2} {vars = vars2} {vs = vs2} {ws = ws2} {rest = r2} p2 k d2 e2) h j =
      let a = notes_once p p2 in
      let c = modifiers_once m (along (λ zs. AreModifiers m2 zs vs2) (a.rest) k) in
      let f = type_behind (along (λ zs. IsVarType tokens v2 zs ws2) (c.rest) d2) n in
      absurd (vars_or_parens e2 (along (λ zs. IsRoutine tokens ps b zs r) f e))
  member_once (a_field {vars = vars} {rest = r} p m d e) (a_constructor {class = class} {m = m2} {ps = ps2} {b = b2} {vs = vs2} {ws = ws2} {rest = r2} p2 k n e2) h j =
      let a = notes_once p p2 in
      let c = modifiers_once m (along (λ zs. AreModifiers m2 zs vs2) (a.rest) k) in
      let f = type_behind d (along (λ zs. EatsAs type_name_of class zs ws2) (c.rest) n) in
      absurd (vars_or_parens e (along (λ zs. IsRoutine tokens ps2 b2 zs r2) f e2))

  -- ---- with what a class, a member and a top begin

  pub type_opens : {w : VarType} {ts us : List Token} → IsVarType tokens w ts us → opens (kind_of ts) ≡ true
  type_opens (var_def p) = keyword_opens p
  type_opens (var_typed {t = t} p) = type_kind_opens t.place t.kind p

  pub answer_opens : {x : Answer} {ts us : List Token} → IsAnswer tokens x ts us → opens (kind_of ts) ≡ true
  answer_opens (a_void p) = keyword_opens p
  answer_opens (an_answer d) = type_opens d

  pub modified_opens : {m : Modifiers} {ts us : List Token} → AreModifiers m ts us → opens (kind_of us) ≡ true → opens (kind_of ts) ≡ true
  modified_opens (no_modifier p) h = h
  modified_opens (a_modifier {m = m} {t = t} d q) h = modifier_opens t.kind m q

  pub noted_opens : {xs : List Annotation} {ts us : List Token} → AreAnnotations tokens xs ts us → opens (kind_of us) ≡ true → opens (kind_of ts) ≡ true
  noted_opens (no_annotation f) h = h
  noted_opens (an_annotation p d s l g) h = ap opens (kind_eaten p)

  pub method_opens : {x : Method} {ts us : List Token} → IsMethod tokens x ts us → opens (kind_of ts) ≡ true
  method_opens (method p m d i e) = noted_opens p (modified_opens m (answer_opens d))

  pub member_opens : {class : ℕ} {x : Member} {ts us : List Token} → IsMember tokens class x ts us → opens (kind_of ts) ≡ true
  member_opens (a_method d) = method_opens d
  member_opens (a_constructor p m n e) = noted_opens p (modified_opens m (name_opens _ (meant n)))
  member_opens (a_field p m d e) = noted_opens p (modified_opens m (type_opens d))

  pub behind_member_stops : {class : ℕ} {ms : List Member} {ts us : List Token} → AreBehindMember tokens class ms ts us → Stops ts
  behind_member_stops (members_end p) = let a = ap reach (kind_eaten p) in omega arith
  behind_member_stops (members_go_on p d) = separates_stops p

  mutual
    pub members_once : {class : ℕ} {xs ys : List Member} {ts us vs : List Token} → AreMembers tokens class xs ts us → AreMembers tokens class ys ts vs → Same xs us ys vs
    members_once (no_member p) (no_member q) = record { tree = refl; rest = same_rest p q }
    members_once {class = class} (member_parted p d) (member_parted {ms = ms} {rest = r} q e) = members_once d (along (λ zs. AreMembers tokens class ms zs r) (separates_once p q) e)
    members_once {class = class} (one_member d g) (one_member {ms = ms} {rest = r} e f) =
        let a = member_once d e (behind_member_stops g) (behind_member_stops f) in
        let b = behind_members_once g (along (λ zs. AreBehindMember tokens class ms zs r) (a.rest) f) in
        record { tree = ap2 (λ w v. w ∷ v) (a.tree) (b.tree); rest = b.rest }
    members_once (no_member p) (member_parted q e) = absurd (separator_or_brace q p)
    members_once (member_parted q e) (no_member p) = absurd (separator_or_brace q p)
    members_once (no_member p) (one_member e f) = let a = member_opens e in let b = ap opens (kind_eaten p) in cc
    members_once (one_member e f) (no_member p) = let a = member_opens e in let b = ap opens (kind_eaten p) in cc
    members_once (member_parted q d) (one_member e f) = let a = member_opens e in let b = separator_opens q in cc
    members_once (one_member e f) (member_parted q d) = let a = member_opens e in let b = separator_opens q in cc

    pub behind_members_once : {class : ℕ} {xs ys : List Member} {ts us vs : List Token} → AreBehindMember tokens class xs ts us → AreBehindMember tokens class ys ts vs → Same xs us ys vs
    behind_members_once (members_end p) (members_end q) = record { tree = refl; rest = same_rest p q }
    behind_members_once {class = class} (members_go_on p d) (members_go_on {ms = ms} {rest = r} q e) = members_once d (along (λ zs. AreMembers tokens class ms zs r) (separates_once p q) e)
    behind_members_once (members_end p) (members_go_on q e) = absurd (separator_or_brace q p)
    behind_members_once (members_go_on q e) (members_end p) = absurd (separator_or_brace q p)

  abbrev class_of : List Annotation → Modifiers → List Token → ℕ → Option Ident → Option Ident → List Member → ClassTree
  class_of notes m ws n super interface ms = record { annotations = notes; modifiers = m; ident = ident (place_of ws) n; superclass = super; interface = interface; members = ms }

  pub class_once : {x y : ClassTree} {ts us vs : List Token} → IsClass tokens x ts us → IsClass tokens y ts vs → Same x us y vs
  class_once (a_class {n = n} {super = s} {interface = i} {ms = ms} {ws = ws} p m k c e f l o d) (a_class {notes = ns} {m = m2} {n = n2} {super = s2} {interface = i2} {ms = ms2} {us = us2} {vs = vs2} {ws = ws2} {xs = xs2} {ys = ys2} {zs = zs2} {qs = qs2} {rs = rs2} {rest = r2} p2 m3 k2 c2 e2 f2 l2 o2 d2) =
      let a = notes_once p p2 in
      let b = modifiers_once m (along (λ zs. AreModifiers m2 zs vs2) (a.rest) m3) in
      let g = keyword_same k (along (λ zs. EatsKeyword keyword.Class zs ws2) (b.rest) k2) in
      let h = as_same c (along (λ zs. EatsAs type_name_of n2 zs xs2) g c2) in
      let j = name_once e (along (λ zs. MayName keyword.Extends s2 zs ys2) (h.rest) e2) in
      let q = name_once f (along (λ zs. MayName keyword.Implements i2 zs zs2) (j.rest) f2) in
      let t = may_line_once l (along (λ zs. MayLine zs qs2) (q.rest) l2) in
      let u = members_once d (along2 (λ w zs. AreMembers tokens w ms2 zs r2) (h.tree) (eaten_same t o o2) d2) in
      record { tree = ap3 (λ x y zs. class_of x y zs n s i ms) (a.tree) (b.tree) g ∙ (ap3 (λ w x y. class_of ns m2 ws2 w x y ms) (h.tree) (j.tree) (q.tree) ∙ ap (class_of ns m2 ws2 n2 s2 i2) (u.tree)); rest = u.rest }

  -- ---- tops apart from each other

  -- a statement where only a declaration can begin
  pub data Declares (ts rest : List Token) : Type 0 where
    by_decl : {d : Decl} → IsDecl tokens d ts rest → Declares ts rest
    by_names : {us vs : List Token} → EatsKeyword keyword.Def ts us → Eats symbol.LeftParen us vs → Declares ts rest

  pub declares : {x : Stmt} {ts rest : List Token} → IsStmt tokens x ts rest → Begun ts → Declares ts rest
  declares d (none_begun p) = absurd (no_stmt tokens d p)
  declares (a_decl d) (decl_begun p) = by_decl d
  declares (multiple p q d c e) (decl_begun r) = by_names p q
  declares d (decl_begun p) = let a = stmt_first tokens d in absurd (omega arith)

  pub modified_begun : {m : Modifiers} {ts us : List Token} → AreModifiers m ts us → Begun us → Begun ts
  modified_begun (no_modifier p) b = b
  modified_begun (a_modifier {m = m} {t = t} {ts = ts} d q) b = modifier_begun t ts t.kind m refl q

  pub answer_begun : {x : Answer} {n : ℕ} {ts us vs : List Token} → IsAnswer tokens x ts us → EatsAs name_of n us vs → Begun ts
  answer_begun (a_void p) i = none_begun (keyword_at p)
  answer_begun (an_answer (var_def p)) i = decl_begun (keyword_at p)
  answer_begun (an_answer (var_typed {t = t} {rest = us} p)) i = decl_begun (typed_at t us p (named_token _ (meant i)))

  -- a type or `def` doesn't modify
  pub type_unmodified : {w : VarType} {ts us : List Token} → IsVarType tokens w ts us → modified (kind_of ts) no_modifiers ≡ None
  type_unmodified (var_def p) = keyword_unmodified p refl
  type_unmodified (var_typed {t = t} p) = type_kind_unmodified t.place t.kind p

  pub decl_or_method : {d : Decl} {m : Modifiers} {x : Answer} {ps : List Param} {b : List Stmt} {n : ℕ} {ts rest us vs ws xs : List Token} → IsDecl tokens d ts rest → Stops rest
      → AreModifiers m ts us → IsAnswer tokens x us vs → EatsAs name_of n vs ws → IsRoutine tokens ps b ws xs → ⊥
  decl_or_method (decl (is_final p) v d) h (no_modifier q) a n r = let e = keyword_eaten p in let f = ap (λ c. modified c no_modifiers) (e.1) in cc
  decl_or_method {x = x} {rest = rest} {vs = vs} (decl {vs = vars} (is_final (eats_keyword p)) v d) h (a_modifier m q) a n r =
      let e = unmodified m (type_unmodified v) in
      let f = answer_type (along (λ zs. IsAnswer tokens x zs vs) (sym e) a) v in
      vars_or_routine (along (λ zs. AreVars tokens vars zs rest) f d) h n r
  decl_or_method {x = x} {rest = rest} {vs = vs} (decl {vs = vars} (not_final g) v d) h m a n r =
      let e = unmodified m (type_unmodified v) in
      let f = answer_type (along (λ zs. IsAnswer tokens x zs vs) (sym e) a) v in
      vars_or_routine (along (λ zs. AreVars tokens vars zs rest) f d) h n r

  pub type_or_class : {w : VarType} {ts us vs ws : List Token} → ts ≡ us → IsVarType tokens w ts vs → EatsKeyword keyword.Class us ws → ⊥
  type_or_class {ws = ws} e v k = go v (along (λ zs. EatsKeyword keyword.Class zs ws) e k)
    where
      go : {w : VarType} {ts us vs : List Token} → IsVarType tokens w ts us → EatsKeyword keyword.Class ts vs → ⊥
      go (var_def p) k = let a = keywords_agree p k in cc
      go (var_typed {t = t} p) k = let a = keyword_eaten k in let b = ap (type_of t.place) (a.1) in cc

  pub decl_or_class : {d : Decl} {m : Modifiers} {ts rest us vs : List Token} → IsDecl tokens d ts rest → AreModifiers m ts us → EatsKeyword keyword.Class us vs → ⊥
  decl_or_class (decl (is_final p) v d) (no_modifier q) k = let a = keywords_agree p k in cc
  decl_or_class (decl (is_final (eats_keyword p)) v d) (a_modifier m q) k = type_or_class (sym (unmodified m (type_unmodified v))) v k
  decl_or_class (decl (not_final g) v d) m k = type_or_class (sym (unmodified m (type_unmodified v))) v k

  pub names_or_method : {m : Modifiers} {x : Answer} {n : ℕ} {ts us vs ws xs ys : List Token} → EatsKeyword keyword.Def ts us → Eats symbol.LeftParen us vs → AreModifiers m ts ws → IsAnswer tokens x ws xs → EatsAs name_of n xs ys → ⊥
  names_or_method {x = x} {xs = xs} p q m a n =
      let e = unmodified m (keyword_unmodified p refl) in
      let f = answer_type (along (λ zs. IsAnswer tokens x zs xs) (sym e) a) (var_def p) in
      let g = meant n in
      let h = ap name_of (ap kind_of f ∙ kind_eaten q) in cc

  pub names_or_class : {m : Modifiers} {ts us vs ws : List Token} → EatsKeyword keyword.Def ts us → AreModifiers m ts vs → EatsKeyword keyword.Class vs ws → ⊥
  names_or_class {ws = ws} p m k =
      let e = unmodified m (keyword_unmodified p refl) in
      let a = keywords_agree p (along (λ zs. EatsKeyword keyword.Class zs ws) (sym e) k) in cc

  pub stmt_or_method : {x : Stmt} {y : Method} {ts us vs : List Token} → IsStmt tokens x ts us → Stops us → IsMethod tokens y ts vs → ⊥
  stmt_or_method d h (method (an_annotation p q s l g) m a n r) = no_stmt tokens d (symbol_at p)
  stmt_or_method {ts = ts} {us = us} d h (method (no_annotation f) m a n r) = go (declares d (modified_begun m (answer_begun a n)))
    where
      go : Declares ts us → ⊥
      go (by_decl e) = decl_or_method e h m a n r
      go (by_names p q) = names_or_method p q m a n

  pub stmt_or_class : {x : Stmt} {y : ClassTree} {ts us vs : List Token} → IsStmt tokens x ts us → IsClass tokens y ts vs → ⊥
  stmt_or_class d (a_class (an_annotation p q s l g) m k c e f r o b) = no_stmt tokens d (symbol_at p)
  stmt_or_class {ts = ts} {us = us} d (a_class (no_annotation f) m k c e g r o b) = go (declares d (modified_begun m (none_begun (keyword_at k))))
    where
      go : Declares ts us → ⊥
      go (by_decl e) = decl_or_class e m k
      go (by_names p q) = names_or_class p m k

  pub answer_or_class : {x : Answer} {ts us vs ws : List Token} → ts ≡ us → IsAnswer tokens x ts vs → EatsKeyword keyword.Class us ws → ⊥
  answer_or_class {ws = ws} e (an_answer v) k = type_or_class e v k
  answer_or_class {ws = ws} e (a_void p) k = let a = keywords_agree p (along (λ zs. EatsKeyword keyword.Class zs ws) e k) in cc

  pub method_or_class : {x : Method} {y : ClassTree} {ts us vs : List Token} → IsMethod tokens x ts us → IsClass tokens y ts vs → ⊥
  method_or_class (method p m a n r) (a_class {m = m2} {vs = vs2} p2 k c i e f l o b) =
      let d = notes_once p p2 in
      let g = modifiers_once m (along (λ zs. AreModifiers m2 zs vs2) (d.rest) k) in
      answer_or_class (g.rest) a c

  pub decl_or_noted_method : {xs : List Annotation} {d : Decl} {y : Method} {ts us rest vs : List Token} → AreAnnotations tokens xs ts us → IsDecl tokens d us rest → Stops rest → IsMethod tokens y ts vs → ⊥
  decl_or_noted_method p d h (method {m = m2} {vs = vs2} p2 m a n r) = let e = notes_once p p2 in decl_or_method d h (along (λ zs. AreModifiers m2 zs vs2) (e.rest) m) a n r

  pub decl_or_noted_class : {xs : List Annotation} {d : Decl} {y : ClassTree} {ts us rest vs : List Token} → AreAnnotations tokens xs ts us → IsDecl tokens d us rest → IsClass tokens y ts vs → ⊥
  decl_or_noted_class p d (a_class {m = m2} {vs = vs2} p2 m k c e f l o b) = let g = notes_once p p2 in decl_or_class d (along (λ zs. AreModifiers m2 zs vs2) (g.rest) m) k

  pub stmt_or_note : {x : Stmt} {n : Annotation} {ns : List Annotation} {ts us vs : List Token} → IsStmt tokens x ts us → AreAnnotations tokens (n ∷ ns) ts vs → ⊥
  stmt_or_note d (an_annotation p q s l g) = no_stmt tokens d (symbol_at p)

  pub stmt_or_import : {x : Stmt} {i : Import} {ts us vs : List Token} → IsStmt tokens x ts us → IsImport i ts vs → ⊥
  stmt_or_import d (an_import p q m) = no_stmt tokens d (keyword_at p)

  pub import_or_note : {i : Import} {n : Annotation} {ns : List Annotation} {ts us vs : List Token} → IsImport i ts us → AreAnnotations tokens (n ∷ ns) ts vs → ⊥
  import_or_note (an_import p d m) (an_annotation q e s l g) = keyword_or_symbol p q

  pub import_or_method : {i : Import} {y : Method} {ts us vs : List Token} → IsImport i ts us → IsMethod tokens y ts vs → ⊥
  import_or_method (an_import p d m) (method (an_annotation q e s l g) k a n r) = keyword_or_symbol p q
  import_or_method (an_import p d m) (method {a = x} {ws = ws} (no_annotation f) k a n r) = go (along (λ zs. IsAnswer tokens x zs ws) (sym (unmodified k (keyword_unmodified p refl))) a) p
    where
      go : {x : Answer} {ts us vs : List Token} → IsAnswer tokens x ts us → EatsKeyword keyword.Import ts vs → ⊥
      go (a_void q) p = let a = keywords_agree p q in cc
      go (an_answer (var_def q)) p = let a = keywords_agree p q in cc
      go (an_answer (var_typed {t = t} q)) p = let a = keyword_eaten p in let b = ap (type_of t.place) (a.1) in cc

  pub import_or_class : {i : Import} {y : ClassTree} {ts us vs : List Token} → IsImport i ts us → IsClass tokens y ts vs → ⊥
  import_or_class (an_import p d m) (a_class (an_annotation q e s l g) k c i x f r o b) = keyword_or_symbol p q
  import_or_class (an_import p d m) (a_class {ws = ws} (no_annotation f) k c i x g r o b) =
      let a = keywords_agree p (along (λ zs. EatsKeyword keyword.Class zs ws) (sym (unmodified k (keyword_unmodified p refl))) c) in cc

  pub top_once : {x y : Top} {ts us vs : List Token} → IsTop tokens x ts us → IsTop tokens y ts vs → Stops us → Stops vs → Same x us y vs
  top_once (top_import d) (top_import e) h i = let a = import_once d e in record { tree = ap top.Import (a.tree); rest = a.rest }
  top_once (top_class d) (top_class e) h i = let a = class_once d e in record { tree = ap top.Class (a.tree); rest = a.rest }
  top_once (top_method d) (top_method e) h i = let a = method_once d e in record { tree = ap top.Method (a.tree); rest = a.rest }
  top_once (top_stmt d) (top_stmt e) h i = let a = stmt_once tokens d e h i in record { tree = ap top.Stmt (a.tree); rest = a.rest }
  top_once (top_decl p d) (top_decl {d = y} {rest = r} q e) h i =
      let a = notes_once p q in
      let b = decl_once tokens d (along (λ zs. IsDecl tokens y zs r) (a.rest) e) h i in
      record { tree = ap2 top.Decl (a.tree) (b.tree); rest = b.rest }
  top_once (top_import d) (top_class e) h i = absurd (import_or_class d e)
  top_once (top_class e) (top_import d) h i = absurd (import_or_class d e)
  top_once (top_import d) (top_method e) h i = absurd (import_or_method d e)
  top_once (top_method e) (top_import d) h i = absurd (import_or_method d e)
  top_once (top_import d) (top_decl p e) h i = absurd (import_or_note d p)
  top_once (top_decl p e) (top_import d) h i = absurd (import_or_note d p)
  top_once (top_import d) (top_stmt e) h i = absurd (stmt_or_import e d)
  top_once (top_stmt e) (top_import d) h i = absurd (stmt_or_import e d)
  top_once (top_class d) (top_method e) h i = absurd (method_or_class e d)
  top_once (top_method e) (top_class d) h i = absurd (method_or_class e d)
  top_once (top_class d) (top_decl p e) h i = absurd (decl_or_noted_class p e d)
  top_once (top_decl p e) (top_class d) h i = absurd (decl_or_noted_class p e d)
  top_once (top_class d) (top_stmt e) h i = absurd (stmt_or_class e d)
  top_once (top_stmt e) (top_class d) h i = absurd (stmt_or_class e d)
  top_once (top_method d) (top_decl p e) h i = absurd (decl_or_noted_method p e i d)
  top_once (top_decl p e) (top_method d) h i = absurd (decl_or_noted_method p e h d)
  top_once (top_method d) (top_stmt e) h i = absurd (stmt_or_method e i d)
  top_once (top_stmt e) (top_method d) h i = absurd (stmt_or_method e h d)
  top_once (top_decl p d) (top_stmt e) h i = absurd (stmt_or_note e p)
  top_once (top_stmt e) (top_decl p d) h i = absurd (stmt_or_note e p)

  -- ---- scripts

  pub class_opens : {x : ClassTree} {ts us : List Token} → IsClass tokens x ts us → opens (kind_of ts) ≡ true
  class_opens (a_class p m k c e f l o d) = noted_opens p (modified_opens m (keyword_opens k))

  pub import_opens : {x : Import} {ts us : List Token} → IsImport x ts us → opens (kind_of ts) ≡ true
  import_opens (an_import p d m) = keyword_opens p

  pub note_opens : {n : Annotation} {ns : List Annotation} {ts us : List Token} → AreAnnotations tokens (n ∷ ns) ts us → opens (kind_of ts) ≡ true
  note_opens (an_annotation p d s l g) = ap opens (kind_eaten p)

  -- no top begins with a token that opens none and with which no statement begins
  pub no_top_here : {x : Top} {ts us : List Token} → IsTop tokens x ts us → opens (kind_of ts) ≡ false → stmt_class ts ≡ 0 → ⊥
  no_top_here (top_import d) p q = let a = import_opens d in cc
  no_top_here (top_class d) p q = let a = class_opens d in cc
  no_top_here (top_method d) p q = let a = method_opens d in cc
  no_top_here (top_decl d e) p q = let a = note_opens d in cc
  no_top_here (top_stmt d) p q = no_stmt tokens d q

  pub behind_top_stops : {xs : List Top} {ts us : List Token} → AreBehindTop tokens xs ts us → Stops ts
  behind_top_stops (tops_end p) = at_end p
  behind_top_stops (tops_go_on p d) = separates_stops p

  pub end_class : {ts us : List Token} → EatsEnd ts us → stmt_class ts ≡ 0
  end_class {ts = ts} p = ended_at ts (ap ends_stmts (end_eaten p))

  mutual
    pub tops_once : {xs ys : List Top} {ts us vs : List Token} → AreTops tokens xs ts us → AreTops tokens ys ts vs → Same xs us ys vs
    tops_once (no_top p) (no_top q) = record { tree = refl; rest = end_once p q }
    tops_once (top_parted p d) (top_parted {xs = xs} {rest = r} q e) = tops_once d (along (λ zs. AreTops tokens xs zs r) (separates_once p q) e)
    tops_once (one_top d g) (one_top {xs = xs} {rest = r} e f) =
        let a = top_once d e (behind_top_stops g) (behind_top_stops f) in
        let b = behind_tops_once g (along (λ zs. AreBehindTop tokens xs zs r) (a.rest) f) in
        record { tree = ap2 (λ w v. w ∷ v) (a.tree) (b.tree); rest = b.rest }
    tops_once (no_top p) (top_parted q e) = absurd (separator_or_end q p)
    tops_once (top_parted q e) (no_top p) = absurd (separator_or_end q p)
    tops_once (no_top p) (one_top e f) = absurd (no_top_here e (ap opens (end_eaten p)) (end_class p))
    tops_once (one_top e f) (no_top p) = absurd (no_top_here e (ap opens (end_eaten p)) (end_class p))
    tops_once (top_parted p d) (one_top e f) = absurd (no_top_here e (separator_opens p) (separated_at p))
    tops_once (one_top e f) (top_parted p d) = absurd (no_top_here e (separator_opens p) (separated_at p))

    pub behind_tops_once : {xs ys : List Top} {ts us vs : List Token} → AreBehindTop tokens xs ts us → AreBehindTop tokens ys ts vs → Same xs us ys vs
    behind_tops_once (tops_end p) (tops_end q) = record { tree = refl; rest = end_once p q }
    behind_tops_once (tops_go_on p d) (tops_go_on {xs = xs} {rest = r} q e) = tops_once d (along (λ zs. AreTops tokens xs zs r) (separates_once p q) e)
    behind_tops_once (tops_end p) (tops_go_on q e) = absurd (separator_or_end q p)
    behind_tops_once (tops_go_on q e) (tops_end p) = absurd (separator_or_end q p)

-- a list of tokens is the script of one tree at most
pub script_once : {x y : Script} {tokens : List Token} → IsScript x tokens → IsScript y tokens → x ≡ y
script_once {tokens = tokens} d e = let a = tops_once tokens d e in ap (λ w. record { tops = w }) (a.tree)
