-- Tokens between brackets that match, step by step.
use Rattle.std.proofs.Common.{◌≡◌, ℕ, zero, suc, List, [], ◌∷◌, ◌++◌, drop, refl, ap, subst, true, false, Some, None, append_assoc, ◌∙◌}
use Rattle.std.proofs.lemmas.List.{append-nil}
use Rattle.gv_spelling.specs.declared.kinds.Symbol.{Symbol}
use Rattle.gv_spelling.specs.declared.kinds.Symbol.TheVariants as symbol
use Rattle.gv_lex.specs.declared.token.Token.{Token}
use Rattle.gv_tree.specs.declared.expr.Expr.{Expr}
use Rattle.gv_grammar.specs.Tokens.{Eats, kind_of, closing, is_closing, is_head}
use Rattle.gv_grammar.specs.Phrases.{Longest, Nothing}
use Rattle.gv_grammar.specs.Exprs.{open_behind, behind_texts, Matched, none, token, text, pair, IsClosure, unread, AreClosures, no_closure, one_closure}
use Rattle.gv_grammar.proofs.Single.{along, same_rest, eaten_same}
use Rattle.gv_grammar.proofs.Closures.{opens_not_closes, head_not_closes, head_not_opens, matched_once, closure_once}
use Rattle.gv_grammar.proofs.Longest.{only}

-- ---- strings

pub no_texts : (n : ℕ) → behind_texts n [] ≡ []
no_texts zero = refl
no_texts (suc n) = refl

pub texts_at : {m : ℕ} (n : ℕ) (ts : List Token) → m ≡ suc n → behind_texts m ts ≡ behind_texts (open_behind n (kind_of ts)) (drop 1 ts)
texts_at n ts p = ap (λ k. behind_texts k ts) p ∙ go ts
  where
    go : (us : List Token) → behind_texts (suc n) us ≡ behind_texts (open_behind n (kind_of us)) (drop 1 us)
    go [] = refl
    go (t ∷ us) = refl

-- ---- one step

pub token_at : (ts : List Token) {rest : List Token} → closing (kind_of ts) ≡ None → is_closing (kind_of ts) ≡ false → is_head (kind_of ts) ≡ false → Matched (drop 1 ts) rest → Matched ts rest
token_at [] p q r m = cc
token_at (t ∷ ts) p q r m = token p q r m

pub text_at : (ts : List Token) {rest : List Token} → is_head (kind_of ts) ≡ true → Matched (behind_texts 1 (drop 1 ts)) rest → Matched ts rest
text_at [] p m = cc
text_at (t ∷ ts) p m = text p m

pub pair_at : {c : Symbol} (ts : List Token) {us vs rest : List Token} → closing (kind_of ts) ≡ Some c → Matched (drop 1 ts) us → Eats c us vs → Matched vs rest → Matched ts rest
pair_at [] p m c n = cc
pair_at (t ∷ ts) p m c n = pair p m c n

-- ---- one step refuted

pub no_token : {ts : List Token} → closing (kind_of ts) ≡ None → is_closing (kind_of ts) ≡ false → is_head (kind_of ts) ≡ false
    → ((rest : List Token) → Matched (drop 1 ts) rest → ⊥) → (rest : List Token) → Matched ts rest → ⊥
no_token p q r f rest (none s) = cc
no_token p q r f rest (token s t u m) = f rest m
no_token p q r f rest (text s m) = cc
no_token p q r f rest (pair s m c n) = cc

pub no_text : {ts : List Token} → is_head (kind_of ts) ≡ true → ((rest : List Token) → Matched (behind_texts 1 (drop 1 ts)) rest → ⊥) → (rest : List Token) → Matched ts rest → ⊥
no_text p f rest (none s) = let a = head_not_closes _ p in cc
no_text p f rest (token s t u m) = cc
no_text p f rest (text s m) = f rest m
no_text p f rest (pair s m c n) = let a = head_not_opens _ p in cc

record Parts (c : Symbol) (ts rest : List Token) : Type 0 where
  inner : List Token
  after : List Token
  matched : Matched (drop 1 ts) inner
  close : Eats c inner after
  behind : Matched after rest

pair_parts : {c : Symbol} {ts rest : List Token} → closing (kind_of ts) ≡ Some c → Matched ts rest → Parts c ts rest
pair_parts p (none r) = let a = opens_not_closes _ p in cc
pair_parts p (token r s t m) = cc
pair_parts p (text r m) = let a = head_not_opens _ r in cc
pair_parts {c = c} p (pair {us = us} {vs = vs} {c = d} r m e n) =
    let h : d ≡ c = cc in record { inner = us; after = vs; matched = m; close = subst (λ w. Eats w us vs) h e; behind = n }

-- what follows a bracket that opens
module _ {c : Symbol} {ts : List Token} (p : closing (kind_of ts) ≡ Some c) where
  pub no_inner : ((rest : List Token) → Matched (drop 1 ts) rest → ⊥) → (rest : List Token) → Matched ts rest → ⊥
  no_inner f rest m = let a = pair_parts p m in f a.inner a.matched

  pub no_close : {us : List Token} → Matched (drop 1 ts) us → ((rest : List Token) → Eats c us rest → ⊥) → (rest : List Token) → Matched ts rest → ⊥
  no_close m f rest n = let a = pair_parts p n in f a.after (along (λ zs. Eats c zs a.after) (matched_once m a.matched) a.close)

  pub no_behind : {us vs : List Token} → Matched (drop 1 ts) us → Eats c us vs → ((rest : List Token) → Matched vs rest → ⊥) → (rest : List Token) → Matched ts rest → ⊥
  no_behind m e f rest n = let a = pair_parts p n in f rest (along (λ zs. Matched zs rest) (eaten_same (matched_once m a.matched) e a.close) a.behind)

-- ---- closures

module _ (all : ℕ) where
  pub long_closure : {x : Expr} {ts rest : List Token} → IsClosure all x ts rest → Longest (IsClosure all) x ts rest
  long_closure d = only d (λ y after f. closure_once all d f)

  pub no_closure_open : {ts : List Token} → ((us : List Token) → Eats symbol.LeftBrace ts us → ⊥) → Nothing (IsClosure all) ts
  no_closure_open f y after (unread o m c) = f _ o

  pub no_closure_inner : {ts us : List Token} → Eats symbol.LeftBrace ts us → ((vs : List Token) → Matched us vs → ⊥) → Nothing (IsClosure all) ts
  no_closure_inner p f y after (unread {vs = vs} o m c) = f vs (along (λ zs. Matched zs vs) (same_rest p o) m)

  pub no_closure_close : {ts us vs : List Token} → Eats symbol.LeftBrace ts us → Matched us vs → ((ws : List Token) → Eats symbol.RightBrace vs ws → ⊥) → Nothing (IsClosure all) ts
  no_closure_close p n f y after (unread {vs = vs} o m c) =
      f after (along (λ zs. Eats symbol.RightBrace zs after) (matched_once n (along (λ zs. Matched zs vs) (same_rest p o) m)) c)

  -- closures from here complete those so far
  module _ (gs : List Expr) {start here : List Token} (sound : (fs : List Expr) (rest : List Token) → AreClosures all fs here rest → AreClosures all (gs ++ fs) start rest) where
    pub closures_more : {f : Expr} {us : List Token} → IsClosure all f here us → (fs : List Expr) (rest : List Token) → AreClosures all fs us rest → AreClosures all ((gs ++ (f ∷ [])) ++ fs) start rest
    closures_more {f = f} c fs rest d = rw append_assoc (sound (f ∷ fs) rest (one_closure c d))

    pub closures_end : Nothing (IsClosure all) here → AreClosures all gs start here
    closures_end f = subst (λ xs. AreClosures all xs start here) (append-nil gs) (sound [] here (no_closure f))

  pub closures_none : {fs : List Expr} {ts rest : List Token} → AreClosures all fs ts rest → fs ≡ [] → (rest ≡ ts) × Nothing (IsClosure all) ts
  closures_none (no_closure f) h = (refl, f)
  closures_none (one_closure c d) h = cc
