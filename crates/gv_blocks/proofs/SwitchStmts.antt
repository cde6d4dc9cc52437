-- Cases and `switch`, and where there are none.
use Rattle.std.proofs.Common.{◌≡◌, ◌<◌, ◌≤◌, List, [], ◌∷◌, ◌++◌, length, sym, subst, arith, append_assoc}
use Rattle.std.proofs.lemmas.List.{append-nil}
use Rattle.gv_spelling.specs.declared.kinds.Keyword.TheVariants as keyword
use Rattle.gv_spelling.specs.declared.kinds.Symbol.TheVariants as symbol
use Rattle.gv_lex.specs.declared.token.Token.{Token}
use Rattle.gv_tree.specs.declared.expr.Expr.{Expr}
use Rattle.gv_tree.specs.declared.stmt.Case.{Case}
use Rattle.gv_tree.specs.declared.stmt.Stmt.{Stmt}
use Rattle.gv_tree.specs.declared.stmt.Stmt.TheVariants as stmt
use Rattle.gv_grammar.specs.Tokens.{Eats, EatsKeyword, kind_of, place_of, reach}
use Rattle.gv_grammar.specs.Phrases.{Nothing, Takes}
use Rattle.gv_grammar.specs.Stmts.{Separates, IsValue, IsTest, IsStmt, a_switch, AreStmts, AreCases, case_parted, cases, AreSomeCases, no_case, a_case, a_default}
use Rattle.gv_grammar.proofs.Lengths.{then, less, of_keyword, of_eats}
use Rattle.gv_grammar.proofs.Single.{along, eaten_same, keyword_same}
use Rattle.gv_grammar.proofs.StmtFirsts.{keyword_at, stmt_first}
use Rattle.gv_grammar.proofs.Stmts.{keyword_or_symbol, keywords_agree, separates_once, case_or_separates, value_once, test_once, stmts_once, cases_once}
use Rattle.gv_grammar.proofs.Tails.{Stops, at_colon}
use Rattle.gv_cursor.specs.Reading.{Stopped}
use Rattle.gv_blocks.specs.Phrases.{IsCase, with_value, without}
use Rattle.gv_grammar.proofs.StmtLengths.{of_separates, of_value, of_stmts}

two_words : {ts us vs : List Token} → EatsKeyword keyword.Case ts us → EatsKeyword keyword.Default ts vs → ⊥
two_words p q = let a = keywords_agree p q in cc

module _ (tokens : List Token) where
  -- ---- one case

  pub of_case : {c : Case} {ts rest : List Token} → IsCase tokens c ts rest → Takes 1 ts rest
  of_case (with_value p v c b) = then (of_keyword p) (then (of_value tokens v) (then (of_eats c) (of_stmts tokens b)))
  of_case (without p c b) = then (of_keyword p) (then (of_eats c) (of_stmts tokens b))

  pub no_default_colon : {ts us : List Token} → EatsKeyword keyword.Default ts us → ((after : List Token) → Eats symbol.Colon us after → ⊥) → Nothing (IsCase tokens) ts
  no_default_colon p f y after (with_value q v c b) = two_words q p
  no_default_colon p f y after (without {vs = vs} q c b) = f vs (along (λ zs. Eats symbol.Colon zs vs) (keyword_same p q) c)

  pub no_default_stmts : {ts us vs : List Token} → EatsKeyword keyword.Default ts us → Eats symbol.Colon us vs → Nothing (AreStmts tokens) vs → Nothing (IsCase tokens) ts
  no_default_stmts p e f y after (with_value q v c b) = two_words q p
  no_default_stmts p e f y after (without {b = b} q c d) = f b after (along (λ zs. AreStmts tokens b zs after) (eaten_same (keyword_same p q) e c) d)

  pub no_case_word : {ts : List Token} → ((after : List Token) → EatsKeyword keyword.Default ts after → ⊥) → ((after : List Token) → EatsKeyword keyword.Case ts after → ⊥) → Nothing (IsCase tokens) ts
  no_case_word g f y after (with_value q v c b) = f _ q
  no_case_word g f y after (without q c b) = g _ q

  pub no_case_value : {ts us : List Token} → EatsKeyword keyword.Case ts us → Nothing (Stopped (IsValue tokens)) us → Nothing (IsCase tokens) ts
  no_case_value p f y after (with_value {x = x} {vs = vs} q v c b) = f x vs (record { is = along (λ zs. IsValue tokens x zs vs) (keyword_same p q) v; stops = at_colon c })
  no_case_value p f y after (without q c b) = two_words p q

  pub no_case_colon : {x : Expr} {ts us vs : List Token} → EatsKeyword keyword.Case ts us → Stopped (IsValue tokens) x us vs → ((after : List Token) → Eats symbol.Colon vs after → ⊥) → Nothing (IsCase tokens) ts
  no_case_colon p d f y after (with_value {x = x} {vs = vs} {ws = ws} q v c b) =
      let a = value_once tokens (d.is) (along (λ zs. IsValue tokens x zs vs) (keyword_same p q) v) (d.stops) (at_colon c) in f ws (along (λ zs. Eats symbol.Colon zs ws) (a.rest) c)
  no_case_colon p d f y after (without q c b) = two_words p q

  pub no_case_stmts : {x : Expr} {ts us vs ws : List Token} → EatsKeyword keyword.Case ts us → Stopped (IsValue tokens) x us vs → Eats symbol.Colon vs ws → Nothing (AreStmts tokens) ws → Nothing (IsCase tokens) ts
  no_case_stmts p d e f y after (with_value {x = x} {b = b} {vs = vs} q v c g) =
      let a = value_once tokens (d.is) (along (λ zs. IsValue tokens x zs vs) (keyword_same p q) v) (d.stops) (at_colon c) in f b after (along (λ zs. AreStmts tokens b zs after) (eaten_same (a.rest) e c) g)
  no_case_stmts p d e f y after (without q c b) = two_words p q

  case_rest : {x y : Case} {ts us vs : List Token} → IsCase tokens x ts us → IsCase tokens y ts vs → us ≡ vs
  case_rest {vs = us2} (with_value p v c b) (with_value {x = x} {b = d} {vs = vs} q w e g) =
      let a = value_once tokens v (along (λ zs. IsValue tokens x zs vs) (keyword_same p q) w) (at_colon c) (at_colon e) in
      let h = stmts_once tokens b (along (λ zs. AreStmts tokens d zs us2) (eaten_same (a.rest) c e) g) in h.rest
  case_rest {vs = us2} (without p c b) (without {b = d} q e g) = let h = stmts_once tokens b (along (λ zs. AreStmts tokens d zs us2) (eaten_same (keyword_same p q) c e) g) in h.rest
  case_rest (with_value p v c b) (without q e g) = absurd (two_words p q)
  case_rest (without p c b) (with_value q w e g) = absurd (two_words q p)

  -- ---- cases

  -- cases from us on are those from ts
  pub record CarriesParted (ts us : List Token) : Type 0 where
    pub shorter : length us ≤ length ts
    pub sound : (ys : List Case) (rest : List Token) → AreCases tokens ys us rest → AreCases tokens ys ts rest
    pub complete : Nothing (AreCases tokens) us → Nothing (AreCases tokens) ts

  pub parted_none : {ts : List Token} → CarriesParted ts ts
  parted_none = record { shorter = omega arith; sound = λ ys rest d. d; complete = λ f. f }

  pub parted_more : {ts us vs : List Token} → CarriesParted ts us → Separates us vs → CarriesParted ts vs
  parted_more c s = let a = less (of_separates s) in let b = c.shorter in record {
    shorter = omega arith;
    sound = λ ys rest d. c.sound ys rest (case_parted s d);
    complete = λ f. c.complete (λ y after d. go s f d);
  }
    where
      go : {y : List Case} {us vs after : List Token} → Separates us vs → Nothing (AreCases tokens) vs → AreCases tokens y us after → ⊥
      go {y = y} {after = after} s f (case_parted q d) = f y after (along (λ zs. AreCases tokens y zs after) (separates_once s q) d)
      go s f (cases d) = case_or_separates tokens d s

  -- cases from us on complete xs, which are read from ts
  pub record CarriesCases (xs : List Case) (ts us : List Token) : Type 0 where
    pub shorter : length us ≤ length ts
    pub sound : (ys : List Case) (rest : List Token) → AreSomeCases tokens ys us rest → AreCases tokens (xs ++ ys) ts rest
    pub complete : Nothing (AreSomeCases tokens) us → Nothing (AreCases tokens) ts

  pub cases_begin : {ts us : List Token} → CarriesParted ts us → ((after : List Token) → Separates us after → ⊥) → CarriesCases [] ts us
  cases_begin c n = record { shorter = c.shorter; sound = λ ys rest d. c.sound ys rest (cases d); complete = λ f. c.complete (λ y after d. go n f d) }
    where
      go : {y : List Case} {us after : List Token} → ((behind : List Token) → Separates us behind → ⊥) → Nothing (AreSomeCases tokens) us → AreCases tokens y us after → ⊥
      go n f (case_parted q d) = n _ q
      go n f (cases d) = f _ _ d

  pub cases_more : {xs : List Case} {x : Case} {ts us vs : List Token} → CarriesCases xs ts us → IsCase tokens x us vs → CarriesCases (xs ++ (x ∷ [])) ts vs
  cases_more {x = x} c i = let a = less (of_case i) in let b = c.shorter in record {
    shorter = omega arith;
    sound = λ ys rest d. rw append_assoc (c.sound (x ∷ ys) rest (cons i d));
    complete = λ f. c.complete (λ y after d. go i f d);
  }
    where
      cons : {x : Case} {ys : List Case} {us vs rest : List Token} → IsCase tokens x us vs → AreSomeCases tokens ys vs rest → AreSomeCases tokens (x ∷ ys) us rest
      cons (with_value p v e b) d = a_case p v e b d
      cons (without p e b) d = a_default p e b d

      closed : {x : Case} {us vs after : List Token} → IsCase tokens x us vs → Eats symbol.RightBrace us after → ⊥
      closed (with_value p v e b) q = keyword_or_symbol p q
      closed (without p e b) q = keyword_or_symbol p q

      go : {x : Case} {y : List Case} {us vs after : List Token} → IsCase tokens x us vs → Nothing (AreSomeCases tokens) vs → AreSomeCases tokens y us after → ⊥
      go i f (no_case p) = closed i p
      go {after = after} i f (a_case {cs = cs} p v e b d) = f cs after (along (λ zs. AreSomeCases tokens cs zs after) (case_rest i (with_value p v e b)) d)
      go {after = after} i f (a_default {cs = cs} p e b d) = f cs after (along (λ zs. AreSomeCases tokens cs zs after) (case_rest i (without p e b)) d)

  pub cases_end : {xs : List Case} {ts us vs : List Token} → CarriesCases xs ts us → Eats symbol.RightBrace us vs → AreCases tokens xs ts vs
  cases_end {xs = xs} {ts = ts} {vs = vs} c p = subst (λ b. AreCases tokens b ts vs) (append-nil xs) (c.sound [] vs (no_case p))

  pub no_more_cases : {xs : List Case} {ts us vs : List Token} → CarriesCases xs ts us → vs ≡ us → ((after : List Token) → Eats symbol.RightBrace us after → ⊥) → Nothing (IsCase tokens) vs → Nothing (AreCases tokens) ts
  no_more_cases c e n f = c.complete (λ y after d. go n (along (λ zs. Nothing (IsCase tokens) zs) (sym e) f) d)
    where
      go : {y : List Case} {us after : List Token} → ((behind : List Token) → Eats symbol.RightBrace us behind → ⊥) → Nothing (IsCase tokens) us → AreSomeCases tokens y us after → ⊥
      go n f (no_case p) = n _ p
      go n f (a_case p v e b d) = f _ _ (with_value p v e b)
      go n f (a_default p e b d) = f _ _ (without p e b)

  -- ---- switch

  pub switch_here : {x : Expr} {cs : List Case} {ts us vs ws xs rest : List Token} → EatsKeyword keyword.Switch ts us → IsTest tokens x us vs → Eats symbol.LeftBrace vs ws → AreCases tokens cs ws xs
      → rest ≡ xs → 12 < reach (kind_of xs) → Stopped (IsStmt tokens) (stmt.Switch (place_of ts) x cs) ts rest
  switch_here {x = x} {cs = cs} {ts = ts} p t o d e h = along (λ zs. Stopped (IsStmt tokens) (stmt.Switch (place_of ts) x cs) ts zs) e (record { is = a_switch p t o d; stops = h })

  pub no_switch_test : {ts us : List Token} → EatsKeyword keyword.Switch ts us → Nothing (IsTest tokens) us → Nothing (Stopped (IsStmt tokens)) ts
  no_switch_test {ts = ts} p f y after d = go (d.is)
    where
      go : {y : Stmt} {after : List Token} → IsStmt tokens y ts after → ⊥
      go (a_switch {x = x} {vs = vs} q t o d) = f x vs (along (λ zs. IsTest tokens x zs vs) (keyword_same p q) t)
      go e = let a = stmt_first tokens e in let b = keyword_at p in omega arith

  pub no_switch_open : {x : Expr} {ts us vs : List Token} → EatsKeyword keyword.Switch ts us → IsTest tokens x us vs → ((after : List Token) → Eats symbol.LeftBrace vs after → ⊥) → Nothing (Stopped (IsStmt tokens)) ts
  no_switch_open {ts = ts} p t f y after d = go (d.is)
    where
      go : {y : Stmt} {after : List Token} → IsStmt tokens y ts after → ⊥
      go (a_switch {x = x} {vs = vs} {ws = ws} q u o d) =
          let a = test_once tokens t (along (λ zs. IsTest tokens x zs vs) (keyword_same p q) u) in f ws (along (λ zs. Eats symbol.LeftBrace zs ws) (a.rest) o)
      go e = let a = stmt_first tokens e in let b = keyword_at p in omega arith

  -- the cases of a `switch`
  cases_there : {x : Expr} {y : Stmt} {ts us vs ws after : List Token} → EatsKeyword keyword.Switch ts us → IsTest tokens x us vs → Eats symbol.LeftBrace vs ws → IsStmt tokens y ts after → (cs : List Case) × AreCases tokens cs ws after
  cases_there {after = after} p t o (a_switch {x = x} {cs = cs} {vs = vs} q u r d) =
      let a = test_once tokens t (along (λ zs. IsTest tokens x zs vs) (keyword_same p q) u) in (cs, along (λ zs. AreCases tokens cs zs after) (eaten_same (a.rest) o r) d)
  cases_there p t o e = let a = stmt_first tokens e in let b = keyword_at p in absurd (omega arith)

  pub no_switch_cases : {x : Expr} {ts us vs ws : List Token} → EatsKeyword keyword.Switch ts us → IsTest tokens x us vs → Eats symbol.LeftBrace vs ws → Nothing (AreCases tokens) ws → Nothing (Stopped (IsStmt tokens)) ts
  no_switch_cases p t o f y after d = let a = cases_there p t o (d.is) in f (a.0) after (a.1)

  pub switch_goes_on : {x : Expr} {cs : List Case} {ts us vs ws xs : List Token} → EatsKeyword keyword.Switch ts us → IsTest tokens x us vs → Eats symbol.LeftBrace vs ws → AreCases tokens cs ws xs
      → reach (kind_of xs) ≤ 12 → Nothing (Stopped (IsStmt tokens)) ts
  switch_goes_on {xs = xs} p t o c l y after d =
      let a = cases_there p t o (d.is) in let b = cases_once tokens c (a.1) in let s : Stops xs = along Stops (b.rest) (d.stops) in omega arith
