-- Closures that aren't read have one reading.
use Rattle.std.proofs.Common.{◌≡◌, ℕ, ◌-◌, true, false, List, ◌∷◌, length, refl, sym, subst, Some, None}
use Rattle.gv_spelling.specs.declared.kinds.Symbol.{Symbol}
use Rattle.gv_spelling.specs.declared.kinds.Symbol.TheVariants as symbol
use Rattle.gv_lex.specs.declared.token.Piece.TheVariants as piece
use Rattle.gv_lex.specs.declared.token.Token.{Token}
use Rattle.gv_lex.specs.declared.token.TokenKind.{TokenKind}
use Rattle.gv_lex.specs.declared.token.TokenKind.TheVariants as kind
use Rattle.gv_tree.specs.declared.expr.Closure.TheVariants as closure
use Rattle.gv_tree.specs.declared.expr.Expr.{Expr}
use Rattle.gv_tree.specs.declared.expr.Expr.TheVariants as expr
use Rattle.gv_grammar.specs.Tokens.{Eats, place_of, closing, is_closing, is_head}
use Rattle.gv_grammar.specs.Meeting.{Same}
use Rattle.gv_grammar.specs.Exprs.{Matched, none, token, text, pair, IsClosure, unread, AreClosures, no_closure, one_closure}
use Rattle.gv_grammar.proofs.Single.{ap2, along, same_rest, eaten_same}

pub opens_not_closes : (c : TokenKind) {d : Symbol} → closing c ≡ Some d → is_closing c ≡ false
opens_not_closes (kind.Symbol symbol.RightParen) p = cc
opens_not_closes (kind.Symbol symbol.RightBracket) p = cc
opens_not_closes (kind.Symbol symbol.RightBrace) p = cc
opens_not_closes kind.End p = cc
opens_not_closes other p = refl

pub head_not_closes : (c : TokenKind) → is_head c ≡ true → is_closing c ≡ false
head_not_closes (kind.Text (piece.Head f) n) p = refl
head_not_closes other p = cc

pub head_not_opens : (c : TokenKind) → is_head c ≡ true → closing c ≡ None
head_not_opens (kind.Text (piece.Head f) n) p = refl
head_not_opens other p = cc

pub matched_once : {ts us vs : List Token} → Matched ts us → Matched ts vs → us ≡ vs
matched_once (none p) (none q) = refl
matched_once (none p) (token q r s n) = cc
matched_once (none p) (text q n) = let a = head_not_closes _ q in cc
matched_once (none p) (pair q n c n2) = let a = opens_not_closes _ q in cc
matched_once (token p q r m) (none s) = cc
matched_once (token p q r m) (token s t u n) = matched_once m n
matched_once (token p q r m) (text s n) = cc
matched_once (token p q r m) (pair s n c n2) = cc
matched_once (text p m) (none q) = let a = head_not_closes _ p in cc
matched_once (text p m) (token q r s n) = cc
matched_once (text p m) (text q n) = matched_once m n
matched_once (text p m) (pair q n c n2) = let a = head_not_opens _ p in cc
matched_once (pair p m c m2) (none q) = let a = opens_not_closes _ p in cc
matched_once (pair p m c m2) (token q r s n) = cc
matched_once (pair p m c m2) (text q n) = let a = head_not_opens _ q in cc
matched_once {vs = z} (pair {c = x} p m c m2) (pair {us = us} {vs = vs} {c = y} q n d n2) =
    let h : x ≡ y = cc in
    let a = matched_once m n in
    let b = eaten_same a c (subst (λ w. Eats w us vs) (sym h) d) in
    matched_once m2 (along (λ zs. Matched zs z) b n2)

module _ (all : ℕ) where
  pub closure_once : {x y : Expr} {ts us vs : List Token} → IsClosure all x ts us → IsClosure all y ts vs → Same x us y vs
  closure_once {ts = ts} (unread o m c) (unread {vs = b2} o2 m2 c2) =
      let h = same_rest o o2 in
      let i = matched_once m (along (λ zs. Matched zs b2) h m2) in
      record { tree = ap2 (λ v w. expr.Closure (place_of ts) (closure.Unread (all - length v) (all - length w))) h i; rest = eaten_same i c c2 }

  pub closures_once : {xs ys : List Expr} {ts us vs : List Token} → AreClosures all xs ts us → AreClosures all ys ts vs → Same xs us ys vs
  closures_once (no_closure f) (no_closure g) = record { tree = refl; rest = refl }
  closures_once (no_closure f) (one_closure c cs) = absurd (f _ _ c)
  closures_once (one_closure c cs) (no_closure f) = absurd (f _ _ c)
  closures_once {vs = z} (one_closure c cs) (one_closure {fs = ys} d ds) =
      let a = closure_once c d in
      let b = closures_once cs (along (λ zs. AreClosures all ys zs z) (a.rest) ds) in
      record { tree = ap2 (λ v w. v ∷ w) (a.tree) (b.tree); rest = b.rest }
