-- What stands behind `if` and `while`: tests, blocks and bodies, and where there are none.
use Rattle.std.proofs.Common.{◌≡◌, ◌≢◌, ◌<◌, ◌≤◌, ℕ, List, sym, ap, subst, arith, Some, None, Result, Ok, Err}
use Rattle.gv_spelling.specs.declared.kinds.Keyword.{Keyword}
use Rattle.gv_spelling.specs.declared.kinds.Keyword.TheVariants as keyword
use Rattle.gv_spelling.specs.declared.kinds.Symbol.TheVariants as symbol
use Rattle.gv_lex.specs.declared.token.Token.{Token}
use Rattle.gv_lex.specs.declared.token.TokenKind.{TokenKind}
use Rattle.gv_lex.specs.declared.token.TokenKind.TheVariants as kind
use Rattle.gv_lex.specs.declared.token.Word.TheVariants as word
use Rattle.gv_tree.specs.declared.expr.Expr.{Expr}
use Rattle.gv_tree.specs.declared.stmt.Stmt.{Stmt}
use Rattle.gv_tree.specs.declared.stmt.Stmt.TheVariants as stmt
use Rattle.gv_grammar.specs.Tokens.{Eats, EatsKeyword, kind_of, place_of, reach}
use Rattle.gv_grammar.specs.Phrases.{Phrase, Nothing}
use Rattle.gv_grammar.specs.Stmts.{is_keyword, IsValue, IsTest, test, IsStmt, if_alone, if_else, a_while, IsBody, body_block, body_stmt, IsBlock, block, AreStmts}
use Rattle.gv_grammar.proofs.Longest.{symbol_eaten, keyword_here}
use Rattle.gv_grammar.proofs.Single.{along, same_rest, kind_eaten, keyword_same}
use Rattle.gv_grammar.proofs.StmtFirsts.{keyword_at, brace_at, stmt_first, no_stmt}
use Rattle.gv_grammar.proofs.Stmts.{keyword_missing, keyword_after, at_else, value_once, test_once, body_once, block_once, block_or_stmt, stmts_once}
use Rattle.gv_grammar.proofs.Tails.{Stops, at_paren}
use Rattle.gv_cursor.specs.declared.error.ReadError.{ReadError}
use Rattle.gv_cursor.specs.declared.error.ReadError.TheVariants.{Refused, OutOfMemory}
use Rattle.gv_cursor.specs.Reading.{Stopped, Exactly, Fails}

pub word_of : {k : Keyword} (c : TokenKind) → is_keyword k c → (n : ℕ) × (c ≡ kind.Word (word.Keyword k) n)
word_of (kind.Word (word.Keyword j) n) h = (n, ap (λ i. kind.Word (word.Keyword i) n) h)
word_of other h = absurd h

pub not_next : {k : Keyword} (ts : List Token) → ((after : List Token) → EatsKeyword k ts after → ⊥) → is_keyword k (kind_of ts) → ⊥
not_next ts f h = let a = word_of (kind_of ts) h in f _ (keyword_here ts (a.1))

pub refused_here : {A : Type 0} (S : Phrase A) (ts : List Token) {e : ReadError} → e ≡ Refused → Nothing S ts → Fails S e ts
refused_here S ts h f = subst (λ e. Fails S e ts) (sym h) f

module _ (tokens : List Token) where
  -- ---- tests

  pub no_test_value : {ts us : List Token} → Eats symbol.LeftParen ts us → Nothing (Stopped (IsValue tokens)) us → Nothing (IsTest tokens) ts
  no_test_value p f y after (test {x = x} {vs = vs} p2 d q l) = f x vs (record { is = along (λ zs. IsValue tokens x zs vs) (same_rest p p2) d; stops = at_paren q })

  pub no_test_close : {x : Expr} {ts us vs : List Token} → Eats symbol.LeftParen ts us → Stopped (IsValue tokens) x us vs → ((after : List Token) → Eats symbol.RightParen vs after → ⊥) → Nothing (IsTest tokens) ts
  no_test_close p v f y after (test {x = x} {vs = vs} {ws = ws} p2 d q l) =
      let a = value_once tokens (v.is) (along (λ zs. IsValue tokens x zs vs) (same_rest p p2) d) (v.stops) (at_paren q) in
      f ws (along (λ zs. Eats symbol.RightParen zs ws) (a.rest) q)

  -- ---- blocks

  pub no_block_open : {ts : List Token} → ((after : List Token) → Eats symbol.LeftBrace ts after → ⊥) → Nothing (IsBlock tokens) ts
  no_block_open f y after (block p d q) = f _ p

  pub no_block_stmts : {ts us : List Token} → Eats symbol.LeftBrace ts us → Nothing (AreStmts tokens) us → Nothing (IsBlock tokens) ts
  no_block_stmts p f y after (block {vs = vs} p2 d q) = f y vs (along (λ zs. AreStmts tokens y zs vs) (same_rest p p2) d)

  pub no_block_close : {b : List Stmt} {ts us vs : List Token} → Eats symbol.LeftBrace ts us → AreStmts tokens b us vs → ((after : List Token) → Eats symbol.RightBrace vs after → ⊥) → Nothing (IsBlock tokens) ts
  no_block_close p e f y after (block {vs = vs} p2 d q) =
      let a = stmts_once tokens e (along (λ zs. AreStmts tokens y zs vs) (same_rest p p2) d) in f after (along (λ zs. Eats symbol.RightBrace zs after) (a.rest) q)

  -- ---- bodies

  pub stmt_body : {x : Stmt} {ts rest : List Token} → Stopped (IsStmt tokens) x ts rest → Stopped (IsBody tokens) x ts rest
  stmt_body d = record { is = body_stmt (d.is); stops = d.stops }

  pub block_body : {b : List Stmt} {ts us rest : List Token} → IsBlock tokens b ts us → rest ≡ us → 12 < reach (kind_of us) → Stopped (IsBody tokens) (stmt.Block (place_of ts) b) ts rest
  block_body {b = b} {ts = ts} d e h = along (λ zs. Stopped (IsBody tokens) (stmt.Block (place_of ts) b) ts zs) e (record { is = body_block d; stops = h })

  pub no_body_stmt : {ts : List Token} → kind_of ts ≢ kind.Symbol symbol.LeftBrace → Nothing (Stopped (IsStmt tokens)) ts → Nothing (Stopped (IsBody tokens)) ts
  no_body_stmt n f y after d = go n f (d.is) (d.stops)
    where
      go : {y : Stmt} {ts after : List Token} → kind_of ts ≢ kind.Symbol symbol.LeftBrace → Nothing (Stopped (IsStmt tokens)) ts → IsBody tokens y ts after → Stops after → ⊥
      go n f (body_block (block p e q)) h = n (kind_eaten p)
      go n f (body_stmt e) h = f _ _ (record { is = e; stops = h })

  pub no_body_block : {ts : List Token} → kind_of ts ≡ kind.Symbol symbol.LeftBrace → Nothing (IsBlock tokens) ts → Nothing (Stopped (IsBody tokens)) ts
  no_body_block k f y after d = go k f (d.is)
    where
      go : {y : Stmt} {ts after : List Token} → kind_of ts ≡ kind.Symbol symbol.LeftBrace → Nothing (IsBlock tokens) ts → IsBody tokens y ts after → ⊥
      go k f (body_block e) = f _ _ e
      go {ts = ts} k f (body_stmt e) = no_stmt tokens e (brace_at (symbol_eaten ts k))

  pub block_goes_on : {b : List Stmt} {ts us : List Token} → IsBlock tokens b ts us → reach (kind_of us) ≤ 12 → Nothing (Stopped (IsBody tokens)) ts
  block_goes_on b l y after d = go b l (d.is) (d.stops)
    where
      go : {b : List Stmt} {y : Stmt} {ts us after : List Token} → IsBlock tokens b ts us → reach (kind_of us) ≤ 12 → IsBody tokens y ts after → Stops after → ⊥
      go {us = us} b l (body_block e) h = let a = block_once tokens b e in let s : Stops us = along Stops (a.rest) h in omega arith
      go b l (body_stmt e) h = block_or_stmt tokens b e

  pub as_body : (ts rest : List Token) (r : Result Stmt ReadError) → kind_of ts ≢ kind.Symbol symbol.LeftBrace → Exactly (Stopped (IsStmt tokens)) r ts rest → Exactly (Stopped (IsBody tokens)) r ts rest
  as_body ts rest (Ok x) n d = stmt_body d
  as_body ts rest (Err OutOfMemory) n d = tt
  as_body ts rest (Err Refused) n f = no_body_stmt n f

  -- ---- if

  pub if_here : {x : Expr} {b : Stmt} {ts us vs ws rest : List Token} → EatsKeyword keyword.If ts us → IsTest tokens x us vs → Stopped (IsBody tokens) b vs ws
      → ((after : List Token) → EatsKeyword keyword.Else ws after → ⊥) → rest ≡ ws → Stopped (IsStmt tokens) (stmt.If (place_of ts) x b None) ts rest
  if_here {x = x} {b = b} {ts = ts} {ws = ws} p t d f e =
      along (λ zs. Stopped (IsStmt tokens) (stmt.If (place_of ts) x b None) ts zs) e (record { is = if_alone p t (d.is) (not_next ws f); stops = d.stops })

  pub if_else_here : {x : Expr} {b d : Stmt} {ts us vs ws xs rest : List Token} → EatsKeyword keyword.If ts us → IsTest tokens x us vs → Stopped (IsBody tokens) b vs ws → EatsKeyword keyword.Else ws xs
      → Stopped (IsBody tokens) d xs rest → Stopped (IsStmt tokens) (stmt.If (place_of ts) x b (Some d)) ts rest
  if_else_here p t d q e = record { is = if_else p t (d.is) q (e.is); stops = e.stops }

  pub no_if_test : {ts us : List Token} → EatsKeyword keyword.If ts us → Nothing (IsTest tokens) us → Nothing (Stopped (IsStmt tokens)) ts
  no_if_test {ts = ts} p f y after d = go (d.is)
    where
      go : {y : Stmt} {after : List Token} → IsStmt tokens y ts after → ⊥
      go (if_alone {x = x} {vs = vs} q t b g) = f x vs (along (λ zs. IsTest tokens x zs vs) (keyword_same p q) t)
      go (if_else {x = x} {vs = vs} q t b r e) = f x vs (along (λ zs. IsTest tokens x zs vs) (keyword_same p q) t)
      go e = let a = stmt_first tokens e in let b = keyword_at p in omega arith

  pub no_if_body : {x : Expr} {ts us vs : List Token} → EatsKeyword keyword.If ts us → IsTest tokens x us vs → Nothing (Stopped (IsBody tokens)) vs → Nothing (Stopped (IsStmt tokens)) ts
  no_if_body {ts = ts} p t f y after d = go (d.is) (d.stops)
    where
      go : {y : Stmt} {after : List Token} → IsStmt tokens y ts after → Stops after → ⊥
      go {after = after} (if_alone {x = x} {b = b} {vs = vs} q t2 d2 g) h =
          let a = test_once tokens t (along (λ zs. IsTest tokens x zs vs) (keyword_same p q) t2) in f b after (record { is = along (λ zs. IsBody tokens b zs after) (a.rest) d2; stops = h })
      go (if_else {x = x} {b = b} {vs = vs} {ws = ws} q t2 d2 r e) h =
          let a = test_once tokens t (along (λ zs. IsTest tokens x zs vs) (keyword_same p q) t2) in f b ws (record { is = along (λ zs. IsBody tokens b zs ws) (a.rest) d2; stops = at_else r })
      go e h = let a = stmt_first tokens e in let b = keyword_at p in omega arith

  pub no_if_else : {x : Expr} {b : Stmt} {ts us vs ws xs : List Token} → EatsKeyword keyword.If ts us → IsTest tokens x us vs → Stopped (IsBody tokens) b vs ws → EatsKeyword keyword.Else ws xs
      → Nothing (Stopped (IsBody tokens)) xs → Nothing (Stopped (IsStmt tokens)) ts
  no_if_else {ts = ts} p t v r f y after d = go (d.is) (d.stops)
    where
      go : {y : Stmt} {after : List Token} → IsStmt tokens y ts after → Stops after → ⊥
      go {after = after} (if_alone {x = x} {b = b} {vs = vs} q t2 d2 g) h =
          let a = test_once tokens t (along (λ zs. IsTest tokens x zs vs) (keyword_same p q) t2) in
          let c = body_once tokens (v.is) (along (λ zs. IsBody tokens b zs after) (a.rest) d2) (v.stops) h in keyword_missing (sym (c.rest)) g r
      go {after = after} (if_else {x = x} {b = b} {d = d} {vs = vs} {ws = ws} q t2 d2 r2 e) h =
          let a = test_once tokens t (along (λ zs. IsTest tokens x zs vs) (keyword_same p q) t2) in
          let c = body_once tokens (v.is) (along (λ zs. IsBody tokens b zs ws) (a.rest) d2) (v.stops) (at_else r2) in
          f d after (record { is = along (λ zs. IsBody tokens d zs after) (keyword_after (c.rest) r r2) e; stops = h })
      go e h = let a = stmt_first tokens e in let b = keyword_at p in omega arith

  -- ---- while

  pub while_here : {x : Expr} {b : Stmt} {ts us vs rest : List Token} → EatsKeyword keyword.While ts us → IsTest tokens x us vs → Stopped (IsBody tokens) b vs rest
      → Stopped (IsStmt tokens) (stmt.While (place_of ts) x b) ts rest
  while_here p t d = record { is = a_while p t (d.is); stops = d.stops }

  pub no_while_test : {ts us : List Token} → EatsKeyword keyword.While ts us → Nothing (IsTest tokens) us → Nothing (Stopped (IsStmt tokens)) ts
  no_while_test {ts = ts} p f y after d = go (d.is)
    where
      go : {y : Stmt} {after : List Token} → IsStmt tokens y ts after → ⊥
      go (a_while {x = x} {vs = vs} q t b) = f x vs (along (λ zs. IsTest tokens x zs vs) (keyword_same p q) t)
      go e = let a = stmt_first tokens e in let b = keyword_at p in omega arith

  pub no_while_body : {x : Expr} {ts us vs : List Token} → EatsKeyword keyword.While ts us → IsTest tokens x us vs → Nothing (Stopped (IsBody tokens)) vs → Nothing (Stopped (IsStmt tokens)) ts
  no_while_body {ts = ts} p t f y after d = go (d.is) (d.stops)
    where
      go : {y : Stmt} {after : List Token} → IsStmt tokens y ts after → Stops after → ⊥
      go {after = after} (a_while {x = x} {b = b} {vs = vs} q t2 d2) h =
          let a = test_once tokens t (along (λ zs. IsTest tokens x zs vs) (keyword_same p q) t2) in f b after (record { is = along (λ zs. IsBody tokens b zs after) (a.rest) d2; stops = h })
      go e h = let a = stmt_first tokens e in let b = keyword_at p in omega arith
