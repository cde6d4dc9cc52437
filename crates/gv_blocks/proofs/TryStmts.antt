-- Types of caught values, catches and `try`, and where there are none.
use Rattle.std.proofs.Common.{◌≡◌, ◌≢◌, ◌<◌, ◌≤◌, ℕ, true, false, List, [], ◌∷◌, ◌++◌, length, drop, refl, sym, ap, subst, arith, append_assoc, Option, Some, None}
use Rattle.std.specs.Bool.{IsTrue}
use Rattle.std.proofs.lemmas.List.{append-nil}
use Rattle.gv_spelling.specs.declared.kinds.Keyword.TheVariants as keyword
use Rattle.gv_spelling.specs.declared.kinds.Symbol.TheVariants as symbol
use Rattle.gv_lex.specs.declared.token.Token.{Token}
use Rattle.gv_lex.specs.declared.token.TokenKind.TheVariants as kind
use Rattle.gv_lex.specs.declared.token.Word.TheVariants as word
use Rattle.gv_tree.specs.declared.ops.Ident.{Ident}
use Rattle.gv_tree.specs.declared.ops.TypeTree.{TypeTree}
use Rattle.gv_tree.specs.declared.stmt.Catch.{Catch, roll-Catch}
use Rattle.gv_tree.specs.declared.stmt.Stmt.{Stmt}
use Rattle.gv_tree.specs.declared.stmt.Stmt.TheVariants as stmt
use Rattle.gv_grammar.specs.Tokens.{Eats, EatsKeyword, kind_of, place_of, type_of, reach}
use Rattle.gv_grammar.specs.Phrases.{Nothing, Takes}
use Rattle.gv_grammar.specs.Stmts.{is_keyword, is_name_token, begins_types, IsStmt, try_catch, try_finally, IsBlock, AreCatches, no_catch, a_catch, MayTypes, no_types, some_types, AreTypes, last_type, more_types, MayFinally, a_finally, no_finally}
use Rattle.gv_grammar.proofs.Lengths.{then, less, of_keyword, of_eats, of_as}
use Rattle.gv_grammar.proofs.Single.{along, same_rest, eaten_same, kind_eaten, keyword_same, as_same}
use Rattle.gv_grammar.proofs.StmtFirsts.{keyword_eaten, keyword_at, stmt_first}
use Rattle.gv_grammar.proofs.Stmts.{eaten_keyword, keyword_missing, keyword_after, may_types_once, block_once, catches_once}
use Rattle.gv_grammar.proofs.Tails.{Stops}
use Rattle.gv_cursor.specs.Reading.{Stopped}
use Rattle.gv_decls.specs.Phrases.{IsName, a_name}
use Rattle.gv_blocks.specs.Phrases.{IsCatch, one_catch}
use Rattle.gv_blocks.proofs.Bodies.{not_next, word_of}
use Rattle.gv_grammar.proofs.StmtLengths.{of_may_types, of_block}

pub of_name : {i : Ident} {ts rest : List Token} → IsName i ts rest → Takes 1 ts rest
of_name (a_name n) = of_as n

-- what an answer is of a test that was made
pub is_so : {P : Type 0} → (IsTrue true → P) × (P → IsTrue true) → P
is_so p = p.0 refl

pub not_so : {P : Type 0} → (IsTrue false → P) × (P → IsTrue false) → P → ⊥
not_so p h = let q : false ≡ true = p.1 h in cc

module _ (tokens : List Token) where
  -- ---- types

  -- types from us on complete xs, which are read from ts
  pub record CarriesTypes (xs : List TypeTree) (ts us : List Token) : Type 0 where
    pub sound : (ys : List TypeTree) (rest : List Token) → AreTypes tokens ys us rest → MayTypes tokens (xs ++ ys) ts rest
    pub complete : Nothing (AreTypes tokens) us → Nothing (MayTypes tokens) ts

  pub types_begin : {ts : List Token} → (is_name_token (kind_of ts) ≡ true → begins_types ts ≡ true) → CarriesTypes [] ts ts
  types_begin {ts = ts} g = record { sound = λ ys rest d. some_types d; complete = λ f y after d. go f d }
    where
      go : {y : List TypeTree} {after : List Token} → Nothing (AreTypes tokens) ts → MayTypes tokens y ts after → ⊥
      go f (no_types p q) = let a = g p in cc
      go f (some_types d) = f _ _ d

  type_last : {type : TypeTree} (ts : List Token) → type_of (place_of ts) (kind_of ts) ≡ Some type → is_name_token (kind_of (drop 1 ts)) ≡ true → AreTypes tokens (type ∷ []) ts (drop 1 ts)
  type_last [] h n = cc
  type_last (t ∷ ts) h n = last_type h n

  type_more : {type : TypeTree} {types : List TypeTree} {us rest : List Token} (ts : List Token) → type_of (place_of ts) (kind_of ts) ≡ Some type → Eats symbol.Bar (drop 1 ts) us → AreTypes tokens types us rest
      → AreTypes tokens (type ∷ types) ts rest
  type_more [] h b d = cc
  type_more (t ∷ ts) h b d = more_types h b d

  pub types_end : {xs : List TypeTree} {type : TypeTree} {ts us : List Token} → CarriesTypes xs ts us → type_of (place_of us) (kind_of us) ≡ Some type → is_name_token (kind_of (drop 1 us)) ≡ true
      → MayTypes tokens (xs ++ (type ∷ [])) ts (drop 1 us)
  types_end {type = type} {us = us} c h n = c.sound (type ∷ []) (drop 1 us) (type_last us h n)

  pub no_type : {xs : List TypeTree} {ts us : List Token} → CarriesTypes xs ts us → type_of (place_of us) (kind_of us) ≡ None → Nothing (MayTypes tokens) ts
  no_type c h = c.complete (λ y after d. go h d)
    where
      go : {y : List TypeTree} {us after : List Token} → type_of (place_of us) (kind_of us) ≡ None → AreTypes tokens y us after → ⊥
      go h (last_type p q) = cc
      go h (more_types p c d) = cc

  pub no_bar : {xs : List TypeTree} {ts us : List Token} → CarriesTypes xs ts us → is_name_token (kind_of (drop 1 us)) ≡ false → ((after : List Token) → Eats symbol.Bar (drop 1 us) after → ⊥)
      → Nothing (MayTypes tokens) ts
  no_bar c n f = c.complete (λ y after d. go n f d)
    where
      go : {y : List TypeTree} {us after : List Token} → is_name_token (kind_of (drop 1 us)) ≡ false → ((after : List Token) → Eats symbol.Bar (drop 1 us) after → ⊥) → AreTypes tokens y us after → ⊥
      go n f (last_type p q) = cc
      go n f (more_types p c d) = f _ c

  pub types_more : {xs : List TypeTree} {type : TypeTree} {ts us vs : List Token} → CarriesTypes xs ts us → type_of (place_of us) (kind_of us) ≡ Some type → Eats symbol.Bar (drop 1 us) vs
      → CarriesTypes (xs ++ (type ∷ [])) ts vs
  types_more {type = type} {us = us} c h b = record {
    sound = λ ys rest d. rw append_assoc (c.sound (type ∷ ys) rest (type_more us h b d));
    complete = λ f. c.complete (λ y after d. go b f d);
  }
    where
      go : {y : List TypeTree} {us vs after : List Token} → Eats symbol.Bar (drop 1 us) vs → Nothing (AreTypes tokens) vs → AreTypes tokens y us after → ⊥
      go b f (last_type p q) = let a = ap is_name_token (kind_eaten b) in cc
      go {after = after} b f (more_types {types = ys} p c d) = f ys after (along (λ zs. AreTypes tokens ys zs after) (same_rest b c) d)

  -- ---- one catch

  pub of_catch : {c : Catch} {ts rest : List Token} → IsCatch tokens c ts rest → Takes 1 ts rest
  of_catch (one_catch p o t n c b) = then (of_keyword p) (then (of_eats o) (then (of_may_types tokens t) (then (of_as n) (then (of_eats c) (of_block tokens b)))))

  pub catch_here : {types : List TypeTree} {i : Ident} {b : List Stmt} {ts us vs ws xs ys rest : List Token} → EatsKeyword keyword.Catch ts us → Eats symbol.LeftParen us vs → MayTypes tokens types vs ws → IsName i ws xs
      → Eats symbol.RightParen xs ys → IsBlock tokens b ys rest → IsCatch tokens (roll-Catch (record { place = place_of ts; types = types; ident = i; body = b })) ts rest
  catch_here p o t (a_name n) c b = one_catch p o t n c b

  pub no_catch_word : {ts : List Token} → ((after : List Token) → EatsKeyword keyword.Catch ts after → ⊥) → Nothing (IsCatch tokens) ts
  no_catch_word f y after (one_catch p o t n c b) = f _ p

  pub no_catch_open : {ts us : List Token} → EatsKeyword keyword.Catch ts us → ((after : List Token) → Eats symbol.LeftParen us after → ⊥) → Nothing (IsCatch tokens) ts
  no_catch_open p f y after (one_catch {vs = vs} q o t n c b) = f vs (along (λ zs. Eats symbol.LeftParen zs vs) (keyword_same p q) o)

  pub no_catch_types : {ts us vs : List Token} → EatsKeyword keyword.Catch ts us → Eats symbol.LeftParen us vs → Nothing (MayTypes tokens) vs → Nothing (IsCatch tokens) ts
  no_catch_types p o f y after (one_catch {types = types} {ws = ws} q u t n c b) = f types ws (along (λ zs. MayTypes tokens types zs ws) (eaten_same (keyword_same p q) o u) t)

  pub no_catch_name : {types : List TypeTree} {ts us vs ws : List Token} → EatsKeyword keyword.Catch ts us → Eats symbol.LeftParen us vs → MayTypes tokens types vs ws → Nothing IsName ws → Nothing (IsCatch tokens) ts
  no_catch_name p o t f y after (one_catch {types = types} {n = n} {ws = ws} {xs = xs} q u v m c b) =
      let a = may_types_once tokens t (along (λ zs. MayTypes tokens types zs ws) (eaten_same (keyword_same p q) o u) v) in f _ xs (along (λ zs. IsName (record { place = place_of ws; name = n }) zs xs) (a.rest) (a_name m))

  name_rest : {i j : Ident} {ts us vs ws : List Token} → ts ≡ us → IsName i ts vs → IsName j us ws → vs ≡ ws
  name_rest {j = j} {ws = ws} e p q = go p (along (λ zs. IsName j zs ws) e q)
    where
      go : {i j : Ident} {ts us vs : List Token} → IsName i ts us → IsName j ts vs → us ≡ vs
      go (a_name p) (a_name q) = let a = as_same p q in a.rest

  pub no_catch_close : {types : List TypeTree} {i : Ident} {ts us vs ws xs : List Token} → EatsKeyword keyword.Catch ts us → Eats symbol.LeftParen us vs → MayTypes tokens types vs ws → IsName i ws xs
      → ((after : List Token) → Eats symbol.RightParen xs after → ⊥) → Nothing (IsCatch tokens) ts
  no_catch_close p o t n f y after (one_catch {types = types} {ws = ws} {ys = ys} q u v m c b) =
      let a = may_types_once tokens t (along (λ zs. MayTypes tokens types zs ws) (eaten_same (keyword_same p q) o u) v) in f ys (along (λ zs. Eats symbol.RightParen zs ys) (name_rest (a.rest) n (a_name m)) c)

  pub no_catch_block : {types : List TypeTree} {i : Ident} {ts us vs ws xs ys : List Token} → EatsKeyword keyword.Catch ts us → Eats symbol.LeftParen us vs → MayTypes tokens types vs ws → IsName i ws xs
      → Eats symbol.RightParen xs ys → Nothing (IsBlock tokens) ys → Nothing (IsCatch tokens) ts
  no_catch_block p o t n e f y after (one_catch {types = types} {b = b} {ws = ws} q u v m c d) =
      let a = may_types_once tokens t (along (λ zs. MayTypes tokens types zs ws) (eaten_same (keyword_same p q) o u) v) in
      f b after (along (λ zs. IsBlock tokens b zs after) (eaten_same (name_rest (a.rest) n (a_name m)) e c) d)

  catch_rest : {x y : Catch} {ts us vs : List Token} → IsCatch tokens x ts us → IsCatch tokens y ts vs → us ≡ vs
  catch_rest {vs = vs} (one_catch p o t n c b) (one_catch {types = types} {b = d} {ws = ws} q u v m e f) =
      let a = may_types_once tokens t (along (λ zs. MayTypes tokens types zs ws) (eaten_same (keyword_same p q) o u) v) in
      let g = block_once tokens b (along (λ zs. IsBlock tokens d zs vs) (eaten_same (name_rest (a.rest) (a_name n) (a_name m)) c e) f) in g.rest

  -- ---- catches

  -- catches from us on complete xs, which are read from ts
  pub record CarriesCatches (xs : List Catch) (ts us : List Token) : Type 0 where
    pub shorter : length us ≤ length ts
    pub sound : (ys : List Catch) (rest : List Token) → AreCatches tokens ys us rest → AreCatches tokens (xs ++ ys) ts rest
    pub complete : Nothing (AreCatches tokens) us → Nothing (AreCatches tokens) ts

  pub catches_begin : {ts : List Token} → CarriesCatches [] ts ts
  catches_begin = record { shorter = omega arith; sound = λ ys rest d. d; complete = λ f. f }

  pub catches_more : {xs : List Catch} {x : Catch} {ts us vs : List Token} → CarriesCatches xs ts us → IsCatch tokens x us vs → CarriesCatches (xs ++ (x ∷ [])) ts vs
  catches_more {x = x} c i = let a = less (of_catch i) in let b = c.shorter in record {
    shorter = omega arith;
    sound = λ ys rest d. rw append_assoc (c.sound (x ∷ ys) rest (cons i d));
    complete = λ f. c.complete (λ y after d. go i f d);
  }
    where
      cons : {x : Catch} {ys : List Catch} {us vs rest : List Token} → IsCatch tokens x us vs → AreCatches tokens ys vs rest → AreCatches tokens (x ∷ ys) us rest
      cons (one_catch p o t n e b) d = a_catch p o t n e b d

      begins : {x : Catch} {us vs : List Token} → IsCatch tokens x us vs → is_keyword keyword.Catch (kind_of us)
      begins (one_catch p o t n e b) = eaten_keyword p

      go : {x : Catch} {y : List Catch} {us vs after : List Token} → IsCatch tokens x us vs → Nothing (AreCatches tokens) vs → AreCatches tokens y us after → ⊥
      go i f (no_catch g) = g (begins i)
      go {after = after} i f (a_catch {cs = cs} p o t n e b d) = f cs after (along (λ zs. AreCatches tokens cs zs after) (catch_rest i (one_catch p o t n e b)) d)

  pub catches_end : {xs : List Catch} {ts us : List Token} → CarriesCatches xs ts us → ((n : ℕ) → kind_of us ≡ kind.Word (word.Keyword keyword.Catch) n → ⊥) → AreCatches tokens xs ts us
  catches_end {xs = xs} {ts = ts} {us = us} c f =
      subst (λ b. AreCatches tokens b ts us) (append-nil xs) (c.sound [] us (no_catch (λ h. let a = word_of (kind_of us) h in f (a.0) (a.1))))

  pub no_more_catches : {xs : List Catch} {ts us : List Token} → CarriesCatches xs ts us → (n : ℕ) × (kind_of us ≡ kind.Word (word.Keyword keyword.Catch) n) → Nothing (IsCatch tokens) us → Nothing (AreCatches tokens) ts
  no_more_catches c k f = c.complete (λ y after d. go k f d)
    where
      go : {y : List Catch} {us after : List Token} → (n : ℕ) × (kind_of us ≡ kind.Word (word.Keyword keyword.Catch) n) → Nothing (IsCatch tokens) us → AreCatches tokens y us after → ⊥
      go k f (no_catch g) = g (subst (λ w. is_keyword keyword.Catch w) (sym (k.1)) refl)
      go k f (a_catch p o t n e b d) = f _ _ (one_catch p o t n e b)

  -- ---- try

  finally_alone : {ts us : List Token} → EatsKeyword keyword.Finally ts us → AreCatches tokens [] ts ts
  finally_alone p = no_catch (λ h. let a = keyword_eaten p in let b = subst (λ w. is_keyword keyword.Catch w) (a.1) h in cc)

  pub no_try_block : {ts us : List Token} → EatsKeyword keyword.Try ts us → Nothing (IsBlock tokens) us → Nothing (Stopped (IsStmt tokens)) ts
  no_try_block {ts = ts} p f y after d = go (d.is)
    where
      go : {y : Stmt} {after : List Token} → IsStmt tokens y ts after → ⊥
      go (try_catch {b = b} {vs = vs} q d c e) = f b vs (along (λ zs. IsBlock tokens b zs vs) (keyword_same p q) d)
      go (try_finally {b = b} {vs = vs} q d r e) = f b vs (along (λ zs. IsBlock tokens b zs vs) (keyword_same p q) d)
      go e = let a = stmt_first tokens e in let b = keyword_at p in omega arith

  -- what stands behind the block of a `try`
  data BehindTried (vs rest : List Token) : Type 0 where
    with_catches : {c : Catch} {cs : List Catch} {f : Option (List Stmt)} {ws : List Token} → AreCatches tokens (c ∷ cs) vs ws → MayFinally tokens f ws rest → BehindTried vs rest
    with_finally : {f : List Stmt} {ws : List Token} → EatsKeyword keyword.Finally vs ws → IsBlock tokens f ws rest → BehindTried vs rest

  behind_tried : {b : List Stmt} {y : Stmt} {ts us vs after : List Token} → EatsKeyword keyword.Try ts us → IsBlock tokens b us vs → IsStmt tokens y ts after → BehindTried vs after
  behind_tried p d (try_catch {b = b} {c = x} {cs = xs} {vs = vs} {ws = ws} q e c f) =
      let a = block_once tokens d (along (λ zs. IsBlock tokens b zs vs) (keyword_same p q) e) in with_catches (along (λ zs. AreCatches tokens (x ∷ xs) zs ws) (a.rest) c) f
  behind_tried p d (try_finally {b = b} {vs = vs} {ws = ws} q e r f) =
      let a = block_once tokens d (along (λ zs. IsBlock tokens b zs vs) (keyword_same p q) e) in with_finally (along (λ zs. EatsKeyword keyword.Finally zs ws) (a.rest) r) f
  behind_tried p d e = let a = stmt_first tokens e in let b = keyword_at p in absurd (omega arith)

  pub no_try_catches : {b : List Stmt} {ts us vs : List Token} → EatsKeyword keyword.Try ts us → IsBlock tokens b us vs → Nothing (AreCatches tokens) vs → Nothing (Stopped (IsStmt tokens)) ts
  no_try_catches p d f y after e = go f (behind_tried p d (e.is))
    where
      go : {vs after : List Token} → Nothing (AreCatches tokens) vs → BehindTried vs after → ⊥
      go f (with_catches c g) = f _ _ c
      go f (with_finally q g) = f _ _ (finally_alone q)

  -- a `finally` behind these catches
  finally_there : {cs : List Catch} {vs ws xs after : List Token} → AreCatches tokens cs vs ws → EatsKeyword keyword.Finally ws xs → BehindTried vs after → (f : List Stmt) × IsBlock tokens f xs after
  finally_there {after = after} c p (with_catches {cs = cs} {ws = ws} d (a_finally {b = b} q e)) = let a = catches_once tokens c d in (b, along (λ zs. IsBlock tokens b zs after) (keyword_after (a.rest) p q) e)
  finally_there c p (with_catches d (no_finally g)) = let a = catches_once tokens c d in absurd (keyword_missing (sym (a.rest)) g p)
  finally_there {after = after} c p (with_finally {f = f} q e) = let a = catches_once tokens c (finally_alone q) in (f, along (λ zs. IsBlock tokens f zs after) (keyword_after (a.rest) p q) e)

  pub no_try_last : {b : List Stmt} {cs : List Catch} {ts us vs ws xs : List Token} → EatsKeyword keyword.Try ts us → IsBlock tokens b us vs → AreCatches tokens cs vs ws → EatsKeyword keyword.Finally ws xs
      → Nothing (IsBlock tokens) xs → Nothing (Stopped (IsStmt tokens)) ts
  no_try_last p d c q f y after e = let a = finally_there c q (behind_tried p d (e.is)) in f (a.0) after (a.1)

  pub last_goes_on : {b f : List Stmt} {cs : List Catch} {ts us vs ws xs ys : List Token} → EatsKeyword keyword.Try ts us → IsBlock tokens b us vs → AreCatches tokens cs vs ws → EatsKeyword keyword.Finally ws xs
      → IsBlock tokens f xs ys → reach (kind_of ys) ≤ 12 → Nothing (Stopped (IsStmt tokens)) ts
  last_goes_on {ys = ys} p d c q f l y after e =
      let a = finally_there c q (behind_tried p d (e.is)) in let b = block_once tokens f (a.1) in let s : Stops ys = along Stops (b.rest) (e.stops) in omega arith

  no_finally_there : {cs : List Catch} {vs ws after : List Token} → AreCatches tokens cs vs ws → ((behind : List Token) → EatsKeyword keyword.Finally ws behind → ⊥) → BehindTried vs after → (ws ≡ after) × (cs ≢ [])
  no_finally_there c f (with_catches d (a_finally {us = us} q e)) = let a = catches_once tokens c d in absurd (f us (along (λ zs. EatsKeyword keyword.Finally zs us) (a.rest) q))
  no_finally_there c f (with_catches d (no_finally g)) = let a = catches_once tokens c d in (a.rest, λ h. let b = a.tree in cc)
  no_finally_there c f (with_finally {ws = us} q e) = let a = catches_once tokens c (finally_alone q) in absurd (f us (along (λ zs. EatsKeyword keyword.Finally zs us) (a.rest) q))

  pub no_catch_at_all : {b : List Stmt} {cs : List Catch} {ts us vs ws : List Token} → EatsKeyword keyword.Try ts us → IsBlock tokens b us vs → AreCatches tokens cs vs ws
      → ((behind : List Token) → EatsKeyword keyword.Finally ws behind → ⊥) → cs ≡ [] → Nothing (Stopped (IsStmt tokens)) ts
  no_catch_at_all p d c f h y after e = let a = no_finally_there c f (behind_tried p d (e.is)) in a.1 h

  pub catches_go_on : {b : List Stmt} {cs : List Catch} {ts us vs ws : List Token} → EatsKeyword keyword.Try ts us → IsBlock tokens b us vs → AreCatches tokens cs vs ws
      → ((behind : List Token) → EatsKeyword keyword.Finally ws behind → ⊥) → reach (kind_of ws) ≤ 12 → Nothing (Stopped (IsStmt tokens)) ts
  catches_go_on {ws = ws} p d c f l y after e = let a = no_finally_there c f (behind_tried p d (e.is)) in let s : Stops ws = along Stops (a.0) (e.stops) in omega arith

  pub try_here : {b : List Stmt} {cs : List Catch} {ts us vs ws rest : List Token} → EatsKeyword keyword.Try ts us → IsBlock tokens b us vs → AreCatches tokens cs vs ws
      → ((behind : List Token) → EatsKeyword keyword.Finally ws behind → ⊥) → (cs ≡ [] → ⊥) → rest ≡ ws → 12 < reach (kind_of ws) → Stopped (IsStmt tokens) (stmt.Try (place_of ts) b cs None) ts rest
  try_here {cs = []} p d c f n e h = absurd (n refl)
  try_here {b = b} {cs = x ∷ xs} {ts = ts} {ws = ws} p d c f n e h =
      along (λ zs. Stopped (IsStmt tokens) (stmt.Try (place_of ts) b (x ∷ xs) None) ts zs) e (record { is = try_catch p d c (no_finally (not_next ws f)); stops = h })

  pub try_finally_here : {b f : List Stmt} {cs : List Catch} {ts us vs ws xs ys rest : List Token} → EatsKeyword keyword.Try ts us → IsBlock tokens b us vs → AreCatches tokens cs vs ws → EatsKeyword keyword.Finally ws xs
      → IsBlock tokens f xs ys → rest ≡ ys → 12 < reach (kind_of ys) → Stopped (IsStmt tokens) (stmt.Try (place_of ts) b cs (Some f)) ts rest
  try_finally_here {b = b} {f = f} {cs = cs} {ts = ts} p d c q g e h =
      along (λ zs. Stopped (IsStmt tokens) (stmt.Try (place_of ts) b cs (Some f)) ts zs) e (record { is = go p d c q g; stops = h })
    where
      go : {b f : List Stmt} {cs : List Catch} {ts us vs ws xs ys : List Token} → EatsKeyword keyword.Try ts us → IsBlock tokens b us vs → AreCatches tokens cs vs ws → EatsKeyword keyword.Finally ws xs → IsBlock tokens f xs ys
          → IsStmt tokens (stmt.Try (place_of ts) b cs (Some f)) ts ys
      go p d (no_catch g) q f = try_finally p d q f
      go p d (a_catch p2 o t n e b c) q f = try_catch p d (a_catch p2 o t n e b c) (a_finally q f)
