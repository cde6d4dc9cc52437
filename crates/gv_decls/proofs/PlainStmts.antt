-- Where no statement without others inside stands.
use Rattle.std.proofs.Common.{◌≡◌, ◌≤◌, true, false, List, sym, arith}
use Rattle.gv_spelling.specs.declared.kinds.Keyword.TheVariants as keyword
use Rattle.gv_spelling.specs.declared.kinds.Symbol.TheVariants as symbol
use Rattle.gv_lex.specs.declared.token.Token.{Token}
use Rattle.gv_tree.specs.declared.expr.Expr.{Expr}
use Rattle.gv_tree.specs.declared.ops.Ident.{Ident}
use Rattle.gv_tree.specs.declared.stmt.Stmt.{Stmt}
use Rattle.gv_grammar.specs.Tokens.{Eats, EatsKeyword, kind_of, reach, begins_expr}
use Rattle.gv_grammar.specs.Phrases.{Nothing}
use Rattle.gv_grammar.specs.Stmts.{IsValue, IsFullValue, AreNames, IsStmt, a_decl, multiple, a_throw, return_value, return_alone, a_break, a_continue, assert_alone, assert_message}
use Rattle.gv_grammar.proofs.Firsts.{begins_class}
use Rattle.gv_grammar.proofs.Single.{along, eaten_same, keyword_same}
use Rattle.gv_grammar.proofs.StmtFirsts.{keyword_at, full_value_first, stmt_first}
use Rattle.gv_grammar.proofs.Stmts.{symbol_missing, decl_or_multiple, names_once, value_once}
use Rattle.gv_grammar.proofs.Tails.{Stops, at_colon}
use Rattle.gv_cursor.specs.Reading.{Stopped}

module _ (tokens : List Token) where
  -- ---- several variables at once

  pub no_multiple_names : {ts us vs : List Token} → EatsKeyword keyword.Def ts us → Eats symbol.LeftParen us vs → Nothing (AreNames tokens) vs → Nothing (Stopped (IsStmt tokens)) ts
  no_multiple_names {ts = ts} {vs = vs} p q f y after d = go (d.is)
    where
      go : {y : Stmt} {after : List Token} → IsStmt tokens y ts after → ⊥
      go (a_decl e) = decl_or_multiple tokens e p q
      go (multiple {ns = ns} {ws = ws} p2 q2 e r v) = f ns ws (along (λ zs. AreNames tokens ns zs ws) (eaten_same (keyword_same p p2) q q2) e)
      go e = let a = stmt_first tokens e in let b = keyword_at p in omega arith

  pub no_multiple_assign : {ns : List Ident} {ts us vs ws : List Token} → EatsKeyword keyword.Def ts us → Eats symbol.LeftParen us vs → AreNames tokens ns vs ws → ((after : List Token) → Eats symbol.Assign ws after → ⊥)
      → Nothing (Stopped (IsStmt tokens)) ts
  no_multiple_assign {ts = ts} p q n f y after d = go (d.is)
    where
      go : {y : Stmt} {after : List Token} → IsStmt tokens y ts after → ⊥
      go (a_decl e) = decl_or_multiple tokens e p q
      go (multiple {ns = ns} {ws = ws} {xs = xs} p2 q2 e r v) =
          let a = names_once tokens n (along (λ zs. AreNames tokens ns zs ws) (eaten_same (keyword_same p p2) q q2) e) in f xs (along (λ zs. Eats symbol.Assign zs xs) (a.rest) r)
      go e = let a = stmt_first tokens e in let b = keyword_at p in omega arith

  pub no_multiple_value : {ns : List Ident} {ts us vs ws xs : List Token} → EatsKeyword keyword.Def ts us → Eats symbol.LeftParen us vs → AreNames tokens ns vs ws → Eats symbol.Assign ws xs
      → Nothing (Stopped (IsFullValue tokens)) xs → Nothing (Stopped (IsStmt tokens)) ts
  no_multiple_value {ts = ts} p q n c f y after d = go (d.is) (d.stops)
    where
      go : {y : Stmt} {after : List Token} → IsStmt tokens y ts after → Stops after → ⊥
      go (a_decl e) h = decl_or_multiple tokens e p q
      go (multiple {ns = ns} {x = x} {ws = ws} {rest = r2} p2 q2 e r v) h =
          let a = names_once tokens n (along (λ zs. AreNames tokens ns zs ws) (eaten_same (keyword_same p p2) q q2) e) in
          f x r2 (record { is = along (λ zs. IsFullValue tokens x zs r2) (eaten_same (a.rest) c r) v; stops = h })
      go e h = let a = stmt_first tokens e in let b = keyword_at p in omega arith

  -- ---- statements of one keyword

  pub no_throw : {ts us : List Token} → EatsKeyword keyword.Throw ts us → Nothing (Stopped (IsValue tokens)) us → Nothing (Stopped (IsStmt tokens)) ts
  no_throw {ts = ts} p f y after d = go (d.is) (d.stops)
    where
      go : {y : Stmt} {after : List Token} → IsStmt tokens y ts after → Stops after → ⊥
      go (a_throw {x = x} {rest = r} q e) h = f x r (record { is = along (λ zs. IsValue tokens x zs r) (keyword_same p q) e; stops = h })
      go e h = let a = stmt_first tokens e in let b = keyword_at p in omega arith

  pub no_return_value : {ts us : List Token} → EatsKeyword keyword.Return ts us → begins_expr (kind_of us) ≡ true → Nothing (Stopped (IsFullValue tokens)) us → Nothing (Stopped (IsStmt tokens)) ts
  no_return_value {ts = ts} p b f y after d = go (d.is) (d.stops)
    where
      go : {y : Stmt} {after : List Token} → IsStmt tokens y ts after → Stops after → ⊥
      go (return_value {x = x} {rest = r} q e) h = f x r (record { is = along (λ zs. IsFullValue tokens x zs r) (keyword_same p q) e; stops = h })
      go (return_alone q g) h = let a = along (λ zs. begins_expr (kind_of zs) ≡ false) (keyword_same p q) g in cc
      go e h = let a = stmt_first tokens e in let b = keyword_at p in omega arith

  pub return_goes_on : {ts us : List Token} → EatsKeyword keyword.Return ts us → begins_expr (kind_of us) ≡ false → reach (kind_of us) ≤ 12 → Nothing (Stopped (IsStmt tokens)) ts
  return_goes_on {ts = ts} {us = us} p b l y after d = go (d.is) (d.stops)
    where
      go : {y : Stmt} {after : List Token} → IsStmt tokens y ts after → Stops after → ⊥
      go (return_value {us = us2} q e) h = let a = begins_class (kind_of us2) (full_value_first tokens e) in let c = along (λ zs. begins_expr (kind_of zs) ≡ true) (keyword_same p q) a in cc
      go (return_alone q g) h = let a : Stops us = along Stops (keyword_same p q) h in omega arith
      go e h = let a = stmt_first tokens e in let c = keyword_at p in omega arith

  pub break_goes_on : {ts us : List Token} → EatsKeyword keyword.Break ts us → reach (kind_of us) ≤ 12 → Nothing (Stopped (IsStmt tokens)) ts
  break_goes_on {ts = ts} {us = us} p l y after d = go (d.is) (d.stops)
    where
      go : {y : Stmt} {after : List Token} → IsStmt tokens y ts after → Stops after → ⊥
      go (a_break q) h = let a : Stops us = along Stops (keyword_same p q) h in omega arith
      go e h = let a = stmt_first tokens e in let c = keyword_at p in omega arith

  pub continue_goes_on : {ts us : List Token} → EatsKeyword keyword.Continue ts us → reach (kind_of us) ≤ 12 → Nothing (Stopped (IsStmt tokens)) ts
  continue_goes_on {ts = ts} {us = us} p l y after d = go (d.is) (d.stops)
    where
      go : {y : Stmt} {after : List Token} → IsStmt tokens y ts after → Stops after → ⊥
      go (a_continue q) h = let a : Stops us = along Stops (keyword_same p q) h in omega arith
      go e h = let a = stmt_first tokens e in let c = keyword_at p in omega arith

  pub no_assert : {ts us : List Token} → EatsKeyword keyword.Assert ts us → Nothing (Stopped (IsValue tokens)) us → Nothing (Stopped (IsStmt tokens)) ts
  no_assert {ts = ts} p f y after d = go (d.is) (d.stops)
    where
      go : {y : Stmt} {after : List Token} → IsStmt tokens y ts after → Stops after → ⊥
      go (assert_alone {x = x} {rest = r} q e g) h = f x r (record { is = along (λ zs. IsValue tokens x zs r) (keyword_same p q) e; stops = h })
      go (assert_message {x = x} {vs = vs2} q e c v) h = f x vs2 (record { is = along (λ zs. IsValue tokens x zs vs2) (keyword_same p q) e; stops = at_colon c })
      go e h = let a = stmt_first tokens e in let b = keyword_at p in omega arith

  pub no_assert_message : {x : Expr} {ts us vs ws : List Token} → EatsKeyword keyword.Assert ts us → Stopped (IsValue tokens) x us vs → Eats symbol.Colon vs ws → Nothing (Stopped (IsValue tokens)) ws
      → Nothing (Stopped (IsStmt tokens)) ts
  no_assert_message {ts = ts} p v c f y after d = go (d.is) (d.stops)
    where
      go : {y : Stmt} {after : List Token} → IsStmt tokens y ts after → Stops after → ⊥
      go (assert_alone {x = x} {rest = r} q e g) h = let a = value_once tokens (v.is) (along (λ zs. IsValue tokens x zs r) (keyword_same p q) e) (v.stops) h in symbol_missing (sym (a.rest)) g c
      go (assert_message {x = x} {y = y} {vs = vs2} {rest = r} q e c2 u) h =
          let a = value_once tokens (v.is) (along (λ zs. IsValue tokens x zs vs2) (keyword_same p q) e) (v.stops) (at_colon c2) in
          f y r (record { is = along (λ zs. IsValue tokens y zs r) (eaten_same (a.rest) c c2) u; stops = h })
      go e h = let a = stmt_first tokens e in let b = keyword_at p in omega arith
