-- What stands at the top of a script: what its parts read make, and where none stand.
use Rattle.std.proofs.Common.{◌≡◌, ◌≤◌, ℕ, Bool, true, false, List, [], ◌∷◌, refl, sym, ap, arith, ◌∙◌, MatchBool}
use Rattle.gv_spelling.specs.declared.kinds.Keyword.TheVariants as keyword
use Rattle.gv_spelling.specs.declared.kinds.Symbol.TheVariants as symbol
use Rattle.gv_lex.specs.declared.token.Token.{Token}
use Rattle.gv_lex.specs.declared.token.TokenKind.TheVariants as kind
use Rattle.gv_lex.specs.declared.token.Word.TheVariants as word
use Rattle.gv_tree.specs.declared.ops.Ident.{Ident}
use Rattle.gv_tree.specs.declared.ops.Modifiers.{Modifiers}
use Rattle.gv_tree.specs.declared.stmt.Decl.{Decl}
use Rattle.gv_tree.specs.declared.stmt.Stmt.{Stmt}
use Rattle.gv_tree.specs.declared.top.Annotation.{Annotation}
use Rattle.gv_tree.specs.declared.top.Answer.{Answer}
use Rattle.gv_tree.specs.declared.top.ClassTree.{ClassTree}
use Rattle.gv_tree.specs.declared.top.Import.{Import}
use Rattle.gv_tree.specs.declared.top.Method.{Method}
use Rattle.gv_tree.specs.declared.top.Top.{Top}
use Rattle.gv_tree.specs.declared.top.Top.TheVariants as top
use Rattle.gv_grammar.specs.Tokens.{Eats, EatsKeyword, EatsEnd, EatsAs, kind_of, name_of, type_of, reach}
use Rattle.gv_grammar.specs.Phrases.{Nothing}
use Rattle.gv_grammar.specs.Stmts.{Separates, var_def, var_typed, AreVars, IsDecl, decl, is_final, not_final, IsStmt}
use Rattle.gv_grammar.specs.Scripts.{no_modifiers, modified, AreModifiers, no_modifier, a_modifier, IsDotted, MayAll, is_all, not_all, IsImport, an_import, AreAnnotations, no_annotation, an_annotation, IsAnswer, a_void, an_answer, routine, method, IsClass, a_class, IsTop, top_import, top_class, top_method, top_decl, top_stmt, AreTops, no_top, top_parted, one_top, AreBehindTop, tops_end, tops_go_on}
use Rattle.gv_grammar.specs.Tokens.{eats_keyword}
use Rattle.gv_grammar.proofs.Single.{along, keyword_same, end_eaten}
use Rattle.gv_grammar.proofs.Longest.{symbol_eaten, keyword_here}
use Rattle.gv_grammar.proofs.StmtFirsts.{keyword_eaten, keyword_at, symbol_at, separated_at, no_stmt}
use Rattle.gv_grammar.proofs.Stmts.{keyword_or_symbol, keywords_agree, separates_once}
use Rattle.gv_grammar.proofs.Tails.{Stops}
use Rattle.gv_grammar.proofs.Scripts.{import_once, keyword_unmodified, unmodified, none_begun, notes_once, method_once, class_once, answer_type, separator_or_end, separator_opens, by_decl, by_names, Declares, declares, modified_begun, answer_begun, type_unmodified, decl_or_class, names_or_method, names_or_class, answer_or_class, top_once, no_top_here, behind_top_stops, end_class}
use Rattle.gv_cursor.specs.Reading.{Stopped}
use Rattle.gv_stmts.specs.Members.{BeginsMethod, begins_method, GoesMethod, goes_method, GoesClass, goes_class}
use Rattle.gv_stmts.proofs.Noted.{not_next}
use Rattle.gv_stmts.proofs.MemberPhrases.{Led, led_once, method_here, answer_in, vars_or_paren}

-- ---- imports

pub all_read : (b : Bool) {us vs : List Token} → MatchBool b (Eats symbol.DotStar us vs) ((vs ≡ us) × ((after : List Token) → Eats symbol.DotStar us after → ⊥)) → MayAll b us vs
all_read true p = is_all p
all_read false {us = us} p = along (λ zs. MayAll false us zs) (p.0) (not_all (not_next (p.1)))

pub no_import_path : {ts us : List Token} → EatsKeyword keyword.Import ts us → Nothing IsDotted us → Nothing (Stopped IsImport) ts
no_import_path {ts = ts} {us = us} p f y after d = go (d.is)
  where
    go : {y : Import} {after : List Token} → IsImport y ts after → ⊥
    go (an_import {path = is} {vs = vs} q e m) = f is vs (along (λ zs. IsDotted is zs vs) (keyword_same p q) e)

pub import_goes_on : {is : List Ident} {b : Bool} {ts us vs ws : List Token} → EatsKeyword keyword.Import ts us → IsDotted is us vs → MayAll b vs ws → reach (kind_of ws) ≤ 12 → Nothing (Stopped IsImport) ts
import_goes_on p d m h y after e =
    let a = import_once (an_import p d m) (e.is) in
    let b = ap (λ zs. reach (kind_of zs)) (a.rest) in
    let c = e.stops in absurd (omega arith)

-- no import begins here
abbrev pub NoImport : List Token → Type 0
NoImport ts = (n : ℕ) → kind_of ts ≡ kind.Word (word.Keyword keyword.Import) n → ⊥

abbrev pub NoClass : List Token → Type 0
NoClass ts = (n : ℕ) → kind_of ts ≡ kind.Word (word.Keyword keyword.Class) n → ⊥

not_import : {i : Import} {ts rest : List Token} → NoImport ts → IsImport i ts rest → ⊥
not_import f (an_import p d m) = let a = keyword_eaten p in f (a.0) (a.1)

module _ (tokens : List Token) where
  -- where an import begins, it is all that does
  pub import_only : {n : ℕ} {y : Top} {ts after : List Token} → kind_of ts ≡ kind.Word (word.Keyword keyword.Import) n → IsTop tokens y ts after → (i : Import) × IsImport i ts after
  import_only {ts = ts} h d = go (keyword_here ts h) d
    where
      not_answer : {x : Answer} {ts us vs : List Token} → IsAnswer tokens x ts us → EatsKeyword keyword.Import ts vs → ⊥
      not_answer (a_void q) p = let a = keywords_agree p q in cc
      not_answer (an_answer (var_def q)) p = let a = keywords_agree p q in cc
      not_answer (an_answer (var_typed {t = t} q)) p = let a = keyword_eaten p in let b = ap (type_of t.place) (a.1) in cc

      go : {y : Top} {ts us after : List Token} → EatsKeyword keyword.Import ts us → IsTop tokens y ts after → (i : Import) × IsImport i ts after
      go p (top_import d) = (_, d)
      go p (top_class (a_class (an_annotation q e s l g) k c i x f r o b)) = absurd (keyword_or_symbol p q)
      go p (top_class (a_class {ws = ws} (no_annotation f) k c i x g r o b)) =
          let a = keywords_agree p (along (λ zs. EatsKeyword keyword.Class zs ws) (sym (unmodified k (keyword_unmodified p refl))) c) in cc
      go p (top_method (method (an_annotation q e s l g) k a n r)) = absurd (keyword_or_symbol p q)
      go p (top_method (method {a = x} {ws = ws} (no_annotation f) k a n r)) = absurd (not_answer (along (λ zs. IsAnswer tokens x zs ws) (sym (unmodified k (keyword_unmodified p refl))) a) p)
      go p (top_decl (an_annotation q e s l g) d) = absurd (keyword_or_symbol p q)
      go p (top_stmt d) = absurd (no_stmt tokens d (keyword_at p))

  pub no_import : {n : ℕ} {ts : List Token} → kind_of ts ≡ kind.Word (word.Keyword keyword.Import) n → Nothing (Stopped IsImport) ts → Nothing (Stopped (IsTop tokens)) ts
  no_import h f y after d = let a = import_only h (d.is) in f (a.0) after (record { is = a.1; stops = d.stops })

  pub import_here : {i : Import} {ts rest : List Token} → Stopped IsImport i ts rest → Stopped (IsTop tokens) (top.Import i) ts rest
  import_here d = record { is = top_import (d.is); stops = d.stops }

  pub no_top_notes : {ts : List Token} → NoImport ts → Nothing (AreAnnotations tokens) ts → Nothing (Stopped (IsTop tokens)) ts
  no_top_notes {ts = ts} h f y after d = go (d.is)
    where
      go : {y : Top} {after : List Token} → IsTop tokens y ts after → ⊥
      go (top_import d) = not_import h d
      go (top_class (a_class p k c i x g r o b)) = f _ _ p
      go (top_method (method p m a n r)) = f _ _ p
      go (top_decl p d) = f _ _ p
      go (top_stmt d) = f [] ts (no_annotation (λ k. no_stmt tokens d (symbol_at (symbol_eaten ts k))))

  -- ---- classes

  pub class_here : {notes : List Annotation} {m : Modifiers} {x : ClassTree} {ts vs rest : List Token} → Led tokens notes m ts vs → GoesClass tokens notes m x vs rest → IsClass tokens x ts rest
  class_here l (goes_class k p e f b o d) = a_class (l.noted) (l.modifies) k p e f b o d

  stmt_or_led_class : {x : Stmt} {ns : List Annotation} {m : Modifiers} {ts us vs ws xs : List Token} → IsStmt tokens x ts us → AreAnnotations tokens ns ts vs → AreModifiers m vs ws → EatsKeyword keyword.Class ws xs → ⊥
  stmt_or_led_class d (an_annotation p q s l g) m k = no_stmt tokens d (symbol_at p)
  stmt_or_led_class {ts = ts} {us = us} d (no_annotation f) m k = go (declares tokens d (modified_begun tokens m (none_begun (keyword_at k))))
    where
      go : Declares tokens ts us → ⊥
      go (by_decl e) = decl_or_class tokens e m k
      go (by_names p q) = names_or_class tokens p m k

  pub class_only : {notes : List Annotation} {m : Modifiers} {n : ℕ} {y : Top} {ts vs after : List Token} → NoImport ts → Led tokens notes m ts vs → kind_of vs ≡ kind.Word (word.Keyword keyword.Class) n
      → IsTop tokens y ts after → (x : ClassTree) × GoesClass tokens notes m x vs after
  class_only h l c (top_import d) = absurd (not_import h d)
  class_only h l c (top_class (a_class {ws = ws} p k d i e f r o b)) = (_, goes_class (along (λ zs. EatsKeyword keyword.Class zs ws) (led_once tokens l p k) d) i e f r o b)
  class_only {vs = vs} h l c (top_method (method p k a n r)) = absurd (answer_or_class tokens (sym (led_once tokens l p k)) a (keyword_here vs c))
  class_only {m = m} {vs = vs} h l c (top_decl {us = us} p d) = let a = notes_once tokens p (l.noted) in absurd (decl_or_class tokens d (along (λ zs. AreModifiers m zs vs) (a.rest) (l.modifies)) (keyword_here vs c))
  class_only {vs = vs} h l c (top_stmt d) = absurd (stmt_or_led_class d (l.noted) (l.modifies) (keyword_here vs c))

  pub no_class : {notes : List Annotation} {m : Modifiers} {n : ℕ} {ts vs : List Token} → NoImport ts → Led tokens notes m ts vs → kind_of vs ≡ kind.Word (word.Keyword keyword.Class) n
      → Nothing (GoesClass tokens notes m) vs → Nothing (Stopped (IsTop tokens)) ts
  no_class h l c f y after d = let a = class_only h l c (d.is) in f (a.0) after (a.1)

  pub class_goes_on : {notes : List Annotation} {m : Modifiers} {n : ℕ} {x : ClassTree} {ts vs rest : List Token} → NoImport ts → Led tokens notes m ts vs → kind_of vs ≡ kind.Word (word.Keyword keyword.Class) n
      → GoesClass tokens notes m x vs rest → reach (kind_of rest) ≤ 12 → Nothing (Stopped (IsTop tokens)) ts
  class_goes_on h l c g k y after d =
      let a = class_only h l c (d.is) in
      let b = class_once tokens (class_here l g) (class_here l (a.1)) in
      let e = ap (λ zs. reach (kind_of zs)) (b.rest) in
      let f = d.stops in absurd (omega arith)

  -- ---- methods

  decl_or_paren : {d : Decl} {m : Modifiers} {x : Answer} {n : ℕ} {ts rest us vs ws xs : List Token} → IsDecl tokens d ts rest → Stops rest → AreModifiers m ts us → IsAnswer tokens x us vs → EatsAs name_of n vs ws
      → Eats symbol.LeftParen ws xs → ⊥
  decl_or_paren (decl (is_final p) v d) h (no_modifier q) a n o = let e = keyword_eaten p in let f = ap (λ c. modified c no_modifiers) (e.1) in cc
  decl_or_paren {x = x} {rest = rest} {vs = vs} (decl {vs = vars} (is_final (eats_keyword p)) v d) h (a_modifier m q) a n o =
      let e = unmodified m (type_unmodified tokens v) in
      let f = answer_type tokens (along (λ zs. IsAnswer tokens x zs vs) (sym e) a) v in
      vars_or_paren tokens (along (λ zs. AreVars tokens vars zs rest) f d) h n o
  decl_or_paren {x = x} {rest = rest} {vs = vs} (decl {vs = vars} (not_final g) v d) h m a n o =
      let e = unmodified m (type_unmodified tokens v) in
      let f = answer_type tokens (along (λ zs. IsAnswer tokens x zs vs) (sym e) a) v in
      vars_or_paren tokens (along (λ zs. AreVars tokens vars zs rest) f d) h n o

  stmt_or_led_method : {x : Stmt} {ns : List Annotation} {m : Modifiers} {a : Answer} {n : ℕ} {ts us vs ws xs ys zs : List Token} → IsStmt tokens x ts us → Stops us → AreAnnotations tokens ns ts vs → AreModifiers m vs ws
      → IsAnswer tokens a ws xs → EatsAs name_of n xs ys → Eats symbol.LeftParen ys zs → ⊥
  stmt_or_led_method d h (an_annotation p q s l g) m a n o = no_stmt tokens d (symbol_at p)
  stmt_or_led_method {ts = ts} {us = us} d h (no_annotation f) m a n o = go (declares tokens d (modified_begun tokens m (answer_begun tokens a n)))
    where
      go : Declares tokens ts us → ⊥
      go (by_decl e) = decl_or_paren e h m a n o
      go (by_names p q) = names_or_method tokens p q m a n

  pub method_only : {notes : List Annotation} {m : Modifiers} {y : Top} {ts vs after : List Token} → NoImport ts → Led tokens notes m ts vs → BeginsMethod vs
      → IsTop tokens y ts after → Stops after → (x : Method) × GoesMethod tokens notes m x vs after
  method_only h l b (top_import d) s = absurd (not_import h d)
  method_only h l (begins_method d i o) (top_class (a_class p k c e f g r q b)) s = absurd (answer_or_class tokens (led_once tokens l p k) (answer_in tokens d) c)
  method_only h l b (top_method (method {a = x} {ws = ws} p k a n r)) s = (_, goes_method (along (λ zs. IsAnswer tokens x zs ws) (led_once tokens l p k) a) n r)
  method_only {m = m} {vs = vs} h l (begins_method d i o) (top_decl p e) s = let a = notes_once tokens p (l.noted) in absurd (decl_or_paren e s (along (λ zs. AreModifiers m zs vs) (a.rest) (l.modifies)) (answer_in tokens d) i o)
  method_only h l (begins_method d i o) (top_stmt e) s = absurd (stmt_or_led_method e s (l.noted) (l.modifies) (answer_in tokens d) i o)

  pub no_method : {notes : List Annotation} {m : Modifiers} {ts vs : List Token} → NoImport ts → Led tokens notes m ts vs → BeginsMethod vs
      → Nothing (GoesMethod tokens notes m) vs → Nothing (Stopped (IsTop tokens)) ts
  no_method h l b f y after d = let a = method_only h l b (d.is) (d.stops) in f (a.0) after (a.1)

  pub method_goes_on : {notes : List Annotation} {m : Modifiers} {x : Method} {ts vs rest : List Token} → NoImport ts → Led tokens notes m ts vs → BeginsMethod vs
      → GoesMethod tokens notes m x vs rest → reach (kind_of rest) ≤ 12 → Nothing (Stopped (IsTop tokens)) ts
  method_goes_on h l b g k y after d =
      let a = method_only h l b (d.is) (d.stops) in
      let c = method_once tokens (method_here tokens l g) (method_here tokens l (a.1)) in
      let e = ap (λ zs. reach (kind_of zs)) (c.rest) in
      let f = d.stops in absurd (omega arith)

  -- ---- statements and declarations

  pub no_stmt_here : {notes : List Annotation} {m : Modifiers} {ts vs : List Token} → NoImport ts → Led tokens notes m ts vs → NoClass vs → (BeginsMethod vs → ⊥) → notes ≡ []
      → Nothing (Stopped (IsStmt tokens)) ts → Nothing (Stopped (IsTop tokens)) ts
  no_stmt_here {notes = notes} {m = m} {ts = ts} {vs = vs} h l c b e f y after d = go (d.is) (d.stops)
    where
      go : {y : Top} {after : List Token} → IsTop tokens y ts after → Stops after → ⊥
      go (top_import d) s = not_import h d
      go (top_class (a_class {ws = ws} p k q i x g r o z)) s = let a = keyword_eaten (along (λ zs. EatsKeyword keyword.Class zs ws) (led_once tokens l p k) q) in c (a.0) (a.1)
      go (top_method (method {a = x} {ws = ws} p k a n (routine o q t z))) s = b (begins_method {tokens = tokens} (along (λ zs. IsAnswer tokens x zs ws) (led_once tokens l p k) a) n o)
      go (top_decl p d) s = let a = notes_once tokens p (l.noted) in let g = a.tree in cc
      go (top_stmt d) s = f _ _ (record { is = d; stops = s })

  pub stmt_here : {x : Stmt} {ts rest : List Token} → Stopped (IsStmt tokens) x ts rest → Stopped (IsTop tokens) (top.Stmt x) ts rest
  stmt_here d = record { is = top_stmt (d.is); stops = d.stops }

  stmt_or_notes : {x : Stmt} {notes : List Annotation} {ts us vs : List Token} → (notes ≡ [] → ⊥) → IsStmt tokens x ts us → AreAnnotations tokens notes ts vs → ⊥
  stmt_or_notes e d (no_annotation f) = e refl
  stmt_or_notes e d (an_annotation p q s l g) = no_stmt tokens d (symbol_at p)

  pub no_decl_here : {notes : List Annotation} {m : Modifiers} {ts vs : List Token} → NoImport ts → (l : Led tokens notes m ts vs) → NoClass vs → (BeginsMethod vs → ⊥) → (notes ≡ [] → ⊥)
      → Nothing (Stopped (IsDecl tokens)) (l.us) → Nothing (Stopped (IsTop tokens)) ts
  no_decl_here {notes = notes} {m = m} {ts = ts} {vs = vs} h l c b e f y after d = go (d.is) (d.stops)
    where
      go : {y : Top} {after : List Token} → IsTop tokens y ts after → Stops after → ⊥
      go (top_import d) s = not_import h d
      go (top_class (a_class {ws = ws} p k q i x g r o z)) s = let a = keyword_eaten (along (λ zs. EatsKeyword keyword.Class zs ws) (led_once tokens l p k) q) in c (a.0) (a.1)
      go (top_method (method {a = x} {ws = ws} p k a n (routine o q t z))) s = b (begins_method {tokens = tokens} (along (λ zs. IsAnswer tokens x zs ws) (led_once tokens l p k) a) n o)
      go (top_decl {d = x} {rest = rest} p d) s = let a = notes_once tokens (l.noted) p in f x rest (record { is = along (λ zs. IsDecl tokens x zs rest) (a.rest) d; stops = s })
      go (top_stmt d) s = stmt_or_notes e d (l.noted)

  pub decl_here : (notes : List Annotation) {d : Decl} {ts us rest : List Token} → (notes ≡ [] → ⊥) → AreAnnotations tokens notes ts us → Stopped (IsDecl tokens) d us rest → Stopped (IsTop tokens) (top.Decl notes d) ts rest
  decl_here [] e p d = absurd (e refl)
  decl_here (n ∷ ns) e p d = record { is = top_decl p (d.is); stops = d.stops }

  -- ---- all of them

  -- behind a separator stands what stands before it
  pub not_parted : {ts us : List Token} → Separates ts us → Nothing (AreTops tokens) us → Nothing (AreTops tokens) ts
  not_parted s f y after (no_top p) = separator_or_end s p
  not_parted s f y after (top_parted q e) = f y after (along (λ zs. AreTops tokens y zs after) (separates_once s q) e)
  not_parted s f y after (one_top d g) = no_top_here tokens d (separator_opens s) (separated_at s)

  pub no_tops_here : {ts us vs : List Token} → us ≡ ts → ((after : List Token) → Separates ts after → ⊥) → vs ≡ us → ((after : List Token) → EatsEnd us after → ⊥)
      → Nothing (Stopped (IsTop tokens)) vs → Nothing (AreTops tokens) ts
  no_tops_here e s k p f y after (no_top q) = p after (along (λ zs. EatsEnd zs after) e q)
  no_tops_here e s k p f y after (top_parted q d) = s _ q
  no_tops_here e s k p f y after (one_top {x = x} {us = us} d g) = f x us (record { is = along (λ zs. IsTop tokens x zs us) (k ∙ e) d; stops = behind_top_stops tokens g })

  -- what stands behind a top is what stands there
  not_behind : {x : Top} {ts us : List Token} → Stopped (IsTop tokens) x ts us → ((xs : List Top) (after : List Token) → AreBehindTop tokens xs us after → ⊥) → Nothing (AreTops tokens) ts
  not_behind d f y after (no_top p) = no_top_here tokens (d.is) (rw (end_eaten p) refl) (end_class tokens p)
  not_behind d f y after (top_parted q e) = no_top_here tokens (d.is) (separator_opens q) (separated_at q)
  not_behind d f y after (one_top {xs = xs} e g) = let a = top_once tokens (d.is) e (d.stops) (behind_top_stops tokens g) in f xs after (along (λ zs. AreBehindTop tokens xs zs after) (a.rest) g)

  pub no_more_tops : {x : Top} {ts us vs ws : List Token} → Stopped (IsTop tokens) x ts us → vs ≡ us → ((after : List Token) → EatsEnd us after → ⊥) → Separates vs ws
      → Nothing (AreTops tokens) ws → Nothing (AreTops tokens) ts
  no_more_tops {us = us} {vs = vs} {ws = ws} d e p s f = not_behind d (λ xs after g. go xs after g)
    where
      go : (xs : List Top) (after : List Token) → AreBehindTop tokens xs us after → ⊥
      go xs after (tops_end q) = p after q
      go xs after (tops_go_on q h) = f xs after (along (λ zs. AreTops tokens xs zs after) (separates_once (along (λ zs. Separates zs ws) (sym e) s) q) h)

  pub tops_break_off : {x : Top} {ts us vs : List Token} → Stopped (IsTop tokens) x ts us → vs ≡ us → ((after : List Token) → EatsEnd us after → ⊥)
      → ((after : List Token) → Separates vs after → ⊥) → Nothing (AreTops tokens) ts
  tops_break_off {us = us} {vs = vs} d e p s = not_behind d (λ xs after g. go xs after g)
    where
      go : (xs : List Top) (after : List Token) → AreBehindTop tokens xs us after → ⊥
      go xs after (tops_end q) = p after q
      go xs after (tops_go_on {us = ws} q h) = s ws (along (λ zs. Separates zs ws) e q)
