-- Over tokens whose brackets match, step by step.
use Rattle.std.proofs.Common.{◌≡◌, ◌<◌, ◌≤◌, List, [], ◌∷◌, length, drop, arith, sym, ap, true, false, Some, None, ◌∙◌}
use Rattle.gv_spelling.specs.declared.kinds.Symbol.{Symbol}
use Rattle.gv_lex.specs.declared.token.Token.{Token}
use Rattle.gv_lex.specs.declared.token.TokenKind.{TokenKind}
use Rattle.gv_grammar.specs.Tokens.{Eats, kind_of, closing, is_closing, is_head}
use Rattle.gv_grammar.specs.Exprs.{behind_texts, Matched, none}
use Rattle.gv_grammar.proofs.Lengths.{of_texts, of_matched, of_eats, no_more}
use Rattle.gv_grammar.proofs.Single.{along}
use Rattle.gv_grammar.proofs.Skipped.{token_at, text_at, pair_at, no_token, no_text, no_close, no_behind}

-- brackets match from ts on as they do from us on
pub record Reaches (ts us : List Token) : Type 0 where
  pub fewer : length us ≤ length ts
  pub sound : (rest : List Token) → Matched us rest → Matched ts rest
  pub refused : ((rest : List Token) → Matched us rest → ⊥) → (rest : List Token) → Matched ts rest → ⊥

reaches_on : {ts us vs : List Token} → Reaches ts us → Reaches us vs → Reaches ts vs
reaches_on a b = record { fewer = omega arith; sound = λ rest m. a.sound rest (b.sound rest m); refused = λ f. a.refused (b.refused f) }

pub ends : {start ts : List Token} {k : TokenKind} → Reaches start ts → k ≡ kind_of ts → true ≡ is_closing k → Matched start ts
ends {ts = ts} a e p = a.sound ts (none (ap is_closing (sym e) ∙ sym p))

one_fewer : (ts : List Token) → is_closing (kind_of ts) ≡ false → length (drop 1 ts) < length ts
one_fewer [] p = cc
one_fewer (t ∷ ts) p = omega arith

from_same : {ts us rest : List Token} → ts ≡ us → Matched ts rest → Matched us rest
from_same {rest = rest} e m = along (λ zs. Matched zs rest) (sym e) m

-- past a token that doesn't close
module _ {start ts us : List Token} {k : TokenKind} (so_far : Reaches start ts) (next : k ≡ kind_of ts) (stays : false ≡ is_closing k) (passed : us ≡ drop 1 ts) where
  told : {A : Type 0} {x : A} (f : TokenKind → A) → x ≡ f k → f (kind_of ts) ≡ x
  told f p = ap f (sym next) ∙ sym p

  shorter : length us < length ts
  shorter = along (λ zs. length zs < length ts) passed (one_fewer ts (told is_closing stays))

  pub past_token : None ≡ closing k → false ≡ is_head k → Reaches start us
  past_token p q =
      let a = told closing p in
      let b = told is_closing stays in
      let c = told is_head q in
      let l = shorter in
      let step : Reaches ts us = record { fewer = omega arith; sound = λ rest m. token_at ts a b c (from_same passed m); refused = λ f. no_token a b c (λ rest m. f rest (from_same (sym passed) m)) } in
      reaches_on so_far step

  pub past_texts : {vs : List Token} → true ≡ is_head k → vs ≡ behind_texts 1 us → (length vs < length ts) × Reaches start vs
  past_texts {vs = vs} p e =
      let a = told is_head p in
      let h = e ∙ ap (behind_texts 1) passed in
      let l = shorter in
      let n = no_more (of_texts 1 us) in
      let less : length vs < length ts = along (λ zs. length zs < length ts) e (omega arith) in
      let step : Reaches ts vs = record { fewer = omega arith; sound = λ rest m. text_at ts a (from_same h m); refused = λ f. no_text a (λ rest m. f rest (from_same (sym h) m)) } in
      (less, reaches_on so_far step)

  -- a bracket that opens
  module _ {c : Symbol} {vs : List Token} (opens : Some c ≡ closing k) (inside : Matched us vs) where
    pub past_pair : {ws : List Token} → Eats c vs ws → (length ws < length ts) × Reaches start ws
    past_pair {ws = ws} e =
        let a = told closing opens in
        let b = from_same passed inside in
        let l = shorter in
        let m = no_more (of_matched inside) in
        let n = no_more (of_eats e) in
        let step : Reaches ts ws = record { fewer = omega arith; sound = λ rest d. pair_at ts a b e d; refused = λ f. no_behind a b e f } in
        (omega arith, reaches_on so_far step)

    pub never_closes : ((rest : List Token) → Eats c vs rest → ⊥) → (rest : List Token) → Matched start rest → ⊥
    never_closes f = so_far.refused (no_close (told closing opens) (from_same passed inside) f)
