-- Statements one behind another, and closures.
use Rattle.std.proofs.Common.{◌≡◌, ℕ, zero, suc, ◌≤◌, ◌+◌, ◌-◌, List, [], ◌∷◌, ◌++◌, length, drop, true, false, sym, ap, subst, arith, append_assoc, ◌∙◌}
use Rattle.std.proofs.lemmas.List.{append-nil, length-drop}
use Rattle.std.proofs.Math.Seq.{drop-nil}
use Rattle.gv_spelling.specs.declared.kinds.Symbol.TheVariants as symbol
use Rattle.gv_lex.specs.declared.token.Token.{Token}
use Rattle.gv_tree.specs.declared.expr.Closure.{Closure}
use Rattle.gv_tree.specs.declared.expr.Param.{Param}
use Rattle.gv_tree.specs.declared.stmt.Stmt.{Stmt}
use Rattle.gv_grammar.specs.Tokens.{kind_of}
use Rattle.gv_grammar.specs.Phrases.{Nothing}
use Rattle.gv_grammar.specs.Stmts.{Separates, ends_stmts, has_arrow, IsStmt, AreStmts, no_more, parted, a_stmt, AreAfter, ended, goes_on, AreParams, IsBodyOf, no_params, with_params}
use Rattle.gv_grammar.proofs.Single.{along}
use Rattle.gv_grammar.proofs.StmtFirsts.{no_stmt, ended_at, separated_at}
use Rattle.gv_grammar.proofs.Stmts.{by_arrow, ends_or_separates, separates_once, after_stops, stmt_once, params_once, body_of_once}
use Rattle.gv_grammar.proofs.Lengths.{less}
use Rattle.gv_cursor.specs.Reading.{Stopped}
use Rattle.gv_grammar.proofs.StmtLengths.{of_separates, of_stmt, of_body_of}

drop-drop : {A : Type 0} (m n : ℕ) (xs : List A) → drop n (drop m xs) ≡ drop (m + n) xs
drop-drop zero n xs = let e : n ≡ zero + n = omega arith in ap (λ k. drop k xs) e
drop-drop (suc m) n [] = drop-nil n ∙ sym (drop-nil (suc m + n))
drop-drop (suc m) n (x ∷ xs) = let e : suc (m + n) ≡ suc m + n = omega arith in drop-drop m n xs ∙ ap (λ k. drop k (x ∷ xs)) e

module _ (tokens : List Token) where
  -- statements from us on complete xs, which are read from ts
  pub record Carries (xs : List Stmt) (ts us : List Token) : Type 0 where
    pub shorter : length us ≤ length ts
    pub sound : (b : List Stmt) (rest : List Token) → AreStmts tokens b us rest → AreStmts tokens (xs ++ b) ts rest
    pub complete : Nothing (AreStmts tokens) us → Nothing (AreStmts tokens) ts

  pub carries_none : {ts : List Token} → Carries [] ts ts
  carries_none = record { shorter = omega arith; sound = λ b rest d. d; complete = λ f. f }

  pub carried_along : {xs : List Stmt} {ts us vs : List Token} → vs ≡ us → Carries xs ts us → Carries xs ts vs
  carried_along {xs = xs} {ts = ts} e c = along (λ zs. Carries xs ts zs) e c

  not_parted : {ts us : List Token} → Separates ts us → Nothing (AreStmts tokens) us → Nothing (AreStmts tokens) ts
  not_parted s f y after (no_more p) = ends_or_separates p s
  not_parted s f y after (parted q e) = f y after (along (λ zs. AreStmts tokens y zs after) (separates_once s q) e)
  not_parted s f y after (a_stmt d g) = no_stmt tokens d (separated_at s)

  pub carries_separator : {xs : List Stmt} {ts us vs : List Token} → Carries xs ts us → Separates us vs → Carries xs ts vs
  carries_separator c s = let a = less (of_separates s) in let b = c.shorter in
      record { shorter = omega arith; sound = λ b rest d. c.sound b rest (parted s d); complete = λ f. c.complete (not_parted s f) }

  pub carries_end : {xs : List Stmt} {ts us : List Token} → Carries xs ts us → ends_stmts (kind_of us) ≡ true → AreStmts tokens xs ts us
  carries_end {xs = xs} {ts = ts} {us = us} c p = subst (λ b. AreStmts tokens b ts us) (append-nil xs) (c.sound [] us (no_more p))

  pub carries_last : {xs : List Stmt} {x : Stmt} {ts us vs : List Token} → Carries xs ts us → IsStmt tokens x us vs → ends_stmts (kind_of vs) ≡ true → AreStmts tokens (xs ++ (x ∷ [])) ts vs
  carries_last {x = x} {vs = vs} c d p = c.sound (x ∷ []) vs (a_stmt d (ended p))

  not_behind : {x : Stmt} {ts us : List Token} → Stopped (IsStmt tokens) x ts us → ((b : List Stmt) (rest : List Token) → AreAfter tokens b us rest → ⊥) → Nothing (AreStmts tokens) ts
  not_behind {ts = ts} d f y after (no_more p) = no_stmt tokens d.is (ended_at ts p)
  not_behind d f y after (parted q e) = no_stmt tokens d.is (separated_at q)
  not_behind d f y after (a_stmt {b = b} e g) = let a = stmt_once tokens d.is e d.stops (after_stops tokens g) in f b after (along (λ zs. AreAfter tokens b zs after) (a.rest) g)

  pub carries_stmt : {xs : List Stmt} {x : Stmt} {ts us vs ws : List Token} → Carries xs ts us → Stopped (IsStmt tokens) x us vs → ends_stmts (kind_of vs) ≡ false → Separates vs ws → Carries (xs ++ (x ∷ [])) ts ws
  carries_stmt {xs = xs} {x = x} {ts = ts} {vs = vs} c d p s = let a = less (of_separates s) in let e = less (of_stmt tokens d.is) in let h = c.shorter in
      record {
        shorter = omega arith;
        sound = λ b rest g. rw append_assoc (c.sound (x ∷ b) rest (a_stmt d.is (goes_on s g)));
        complete = λ f. c.complete (not_behind d (λ b rest g. not_after p s f g));
      }
    where
      not_after : {vs ws rest : List Token} {b : List Stmt} → ends_stmts (kind_of vs) ≡ false → Separates vs ws → Nothing (AreStmts tokens) ws → AreAfter tokens b vs rest → ⊥
      not_after p s f (ended q) = cc
      not_after {rest = rest} {b = b} p s f (goes_on q e) = f b rest (along (λ zs. AreStmts tokens b zs rest) (separates_once s q) e)

  pub none_here : {xs : List Stmt} {ts us : List Token} → Carries xs ts us → ends_stmts (kind_of us) ≡ false → ((after : List Token) → Separates us after → ⊥)
      → Nothing (Stopped (IsStmt tokens)) us → Nothing (AreStmts tokens) ts
  none_here c p s f = c.complete (λ y after d. go p s f d)
    where
      go : {us rest : List Token} {b : List Stmt} → ends_stmts (kind_of us) ≡ false → ((after : List Token) → Separates us after → ⊥) → Nothing (Stopped (IsStmt tokens)) us → AreStmts tokens b us rest → ⊥
      go p s f (no_more q) = cc
      go p s f (parted q e) = s _ q
      go p s f (a_stmt e g) = f _ _ (record { is = e; stops = after_stops tokens g })

  pub none_behind : {xs : List Stmt} {x : Stmt} {ts us vs : List Token} → Carries xs ts us → Stopped (IsStmt tokens) x us vs → ends_stmts (kind_of vs) ≡ false
      → ((after : List Token) → Separates vs after → ⊥) → Nothing (AreStmts tokens) ts
  none_behind c d p s = c.complete (not_behind d (λ b rest g. go p s g))
    where
      go : {vs rest : List Token} {b : List Stmt} → ends_stmts (kind_of vs) ≡ false → ((after : List Token) → Separates vs after → ⊥) → AreAfter tokens b vs rest → ⊥
      go p s (ended q) = cc
      go p s (goes_on q e) = s _ q

  -- ---- closures

  pub no_body_plain : {ts : List Token} → has_arrow 0 ts ≡ false → Nothing (AreStmts tokens) ts → Nothing (IsBodyOf tokens) ts
  no_body_plain p f y after (no_params q d) = f _ _ d
  no_body_plain p f y after (with_params q d e) = cc

  pub no_body_params : {ts : List Token} → has_arrow 0 ts ≡ true → Nothing (AreParams tokens symbol.Arrow) ts → Nothing (IsBodyOf tokens) ts
  no_body_params p f y after (no_params q d) = cc
  no_body_params p f y after (with_params q d e) = f _ _ d

  pub no_body_stmts : {ps : List Param} {ts us : List Token} → has_arrow 0 ts ≡ true → AreParams tokens symbol.Arrow ps ts us → Nothing (AreStmts tokens) us → Nothing (IsBodyOf tokens) ts
  no_body_stmts p d f y after (no_params q e) = cc
  no_body_stmts p d f y after (with_params {b = b} q e g) = let a = params_once tokens by_arrow d e in f b after (along (λ zs. AreStmts tokens b zs after) (a.rest) g)

  -- as many tokens are left as stand behind this place
  pub whole_body : {c : Closure} (from to : ℕ) {rest : List Token} → IsBodyOf tokens c (drop from tokens) rest → to ≤ length tokens → length rest ≡ length tokens - to
      → from ≤ to → IsBodyOf tokens c (drop from tokens) (drop to tokens)
  whole_body {c = c} from to {rest = rest} d h e i =
      let t = of_body_of tokens d in
      let w = t.within in
      let l = length-drop from tokens in
      let k = ap length (t.behind) in
      let m = length-drop t.count (drop from tokens) in
      let same : from + t.count ≡ to = omega arith in
      subst (λ zs. IsBodyOf tokens c (drop from tokens) zs) (t.behind ∙ drop-drop from t.count tokens ∙ ap (λ n. drop n tokens) same) d

  pub no_body_ends : {c : Closure} (from to : ℕ) {rest : List Token} → IsBodyOf tokens c (drop from tokens) rest → (length rest ≡ length tokens - to → ⊥)
      → (x : Closure) → IsBodyOf tokens x (drop from tokens) (drop to tokens) → ⊥
  no_body_ends from to d f x e = let a = body_of_once tokens d e in f (ap length (a.rest) ∙ length-drop to tokens)
