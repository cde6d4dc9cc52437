-- Tokens that tell the same are the same.
use Rattle.std.proofs.Common.{◌≡◌, ℕ, List, [], ◌∷◌, map, refl, ap}
use Rattle.std.specs.Prelude.{All}
use Rattle.std.proofs.lemmas.List.Elements.{All-head, All-tail}
use Rattle.gv_lex.specs.Laws.{AreDistinct}
use Rattle.gv_lex.specs.declared.token.Token.{Token}
use Rattle.gv_lex.specs.declared.token.TokenKind.{TokenKind}
use Rattle.gv_lex.specs.declared.token.TokenKind.TheVariants as kind
use Rattle.gv_lex.specs.Tokens.{Spelled, what_of, told, IsNameOf, IsNamed}

module _ (names : List (List ℕ)) (distinct : AreDistinct names) where
  same-kind : (k l : TokenKind) → IsNameOf names k → IsNameOf names l → what_of names k ≡ what_of names l → k ≡ l
  same-kind (kind.Word w n) (kind.Word v m) h g e = let n_is : n ≡ m = distinct n m h g (cc) in cc
  same-kind (kind.Text p n) (kind.Text q m) h g e = let n_is : n ≡ m = distinct n m h g (cc) in cc
  same-kind (kind.Int z) (kind.Int y) h g e = cc
  same-kind (kind.Long z) (kind.Long y) h g e = cc
  same-kind (kind.Symbol s) (kind.Symbol r) h g e = cc
  same-kind kind.LineEnd kind.LineEnd h g e = refl
  same-kind kind.End kind.End h g e = refl
  same-kind _ _ h g e = absurd (cc)

  same-token : (t u : Token) → IsNamed names t → IsNamed names u → told names t ≡ told names u → t ≡ u
  same-token t u h g e =
      let place : t.place ≡ u.place = ap (λ (s : Spelled). s.place) e in
      let kind : t.kind ≡ u.kind = same-kind t.kind u.kind h g (ap (λ (s : Spelled). s.what) e) in
      λ i. record { kind = kind i; place = place i }

  pub same-list : (ts us : List Token) → All (IsNamed names) ts → All (IsNamed names) us → map (told names) ts ≡ map (told names) us → ts ≡ us
  same-list [] [] h g e = refl
  same-list [] (u ∷ us) h g e = absurd (cc)
  same-list (t ∷ ts) [] h g e = absurd (cc)
  same-list (t ∷ ts) (u ∷ us) h g e =
      let head : told names t ≡ told names u = cc in
      let tail : map (told names) ts ≡ map (told names) us = cc in
      let first = same-token t u (All-head (IsNamed names) t ts h) (All-head (IsNamed names) u us g) head in
      let rest = same-list ts us (All-tail (IsNamed names) t ts h) (All-tail (IsNamed names) u us g) tail in
      cc
