-- Single tokens: what the next one is, and that it is one thing only.
use Rattle.std.proofs.Common.{◌≡◌, ℕ, List, refl, sym, ap, subst, Option, Some, ◌∙◌}
use Rattle.gv_spelling.specs.declared.kinds.Keyword.{Keyword}
use Rattle.gv_spelling.specs.declared.kinds.Symbol.{Symbol}
use Rattle.gv_lex.specs.declared.token.Piece.{Piece}
use Rattle.gv_lex.specs.declared.token.Token.{Token}
use Rattle.gv_lex.specs.declared.token.TokenKind.{TokenKind}
use Rattle.gv_lex.specs.declared.token.TokenKind.TheVariants as kind
use Rattle.gv_grammar.specs.Tokens.{Eats, eats, EatsKeyword, eats_keyword, EatsPiece, eats_piece, EatsEnd, eats_end, EatsAs, eats_as, kind_of}
use Rattle.gv_grammar.specs.Meeting.{Same}

-- ---- what stands along equations

pub ap2 : {A B C : Type 0} {x y : A} {a b : B} (f : A → B → C) → x ≡ y → a ≡ b → f x a ≡ f y b
ap2 {y = y} {a = a} f p q = ap (λ w. f w a) p ∙ ap (f y) q

pub ap3 : {A B C D : Type 0} {x y : A} {a b : B} {u v : C} (f : A → B → C → D) → x ≡ y → a ≡ b → u ≡ v → f x a u ≡ f y b v
ap3 {y = y} {a = a} {b = b} {u = u} f p q r = ap (λ w. f w a u) p ∙ (ap (λ w. f y w u) q ∙ ap (f y b) r)

-- a reading of a rest that is the same
pub along : (P : List Token → Type 0) {ts us : List Token} → ts ≡ us → P us → P ts
along P p x = subst P (sym p) x

pub along2 : {A : Type 0} (P : A → List Token → Type 0) {x y : A} {ts us : List Token} → x ≡ y → ts ≡ us → P y us → P x ts
along2 P {x} {y} {ts} {us} e f d = subst (λ z. P z ts) (sym e) (subst (P y) (sym f) d)

-- ---- what the next token is

pub kind_eaten : {c : Symbol} {ts rest : List Token} → Eats c ts rest → kind_of ts ≡ kind.Symbol c
kind_eaten (eats p) = p

pub piece_eaten : {p : Piece} {n : ℕ} {ts rest : List Token} → EatsPiece p n ts rest → kind_of ts ≡ kind.Text p n
piece_eaten (eats_piece p) = p

pub end_eaten : {ts rest : List Token} → EatsEnd ts rest → kind_of ts ≡ kind.End
end_eaten (eats_end p) = p

pub meant : {A : Type 0} {of : TokenKind → Option A} {x : A} {ts rest : List Token} → EatsAs of x ts rest → of (kind_of ts) ≡ Some x
meant (eats_as p) = p

-- ---- that it is one thing

pub same_rest : {c : Symbol} {ts us vs : List Token} → Eats c ts us → Eats c ts vs → us ≡ vs
same_rest (eats p) (eats q) = refl

pub eaten_same : {c : Symbol} {ts us vs ws : List Token} → ts ≡ us → Eats c ts vs → Eats c us ws → vs ≡ ws
eaten_same {c} {ws = ws} e p q = same_rest p (along (λ zs. Eats c zs ws) e q)

pub as_same : {A : Type 0} {of : TokenKind → Option A} {x y : A} {ts us vs : List Token} → EatsAs of x ts us → EatsAs of y ts vs → Same x us y vs
as_same (eats_as p) (eats_as q) = record { tree = cc; rest = refl }

pub record SamePiece (p : Piece) (n : ℕ) (ts : List Token) (q : Piece) (m : ℕ) (us : List Token) : Type 0 where
  pub piece : p ≡ q
  pub text : n ≡ m
  pub rest : ts ≡ us

pub piece_same : {p q : Piece} {n m : ℕ} {ts us vs : List Token} → EatsPiece p n ts us → EatsPiece q m ts vs → SamePiece p n us q m vs
piece_same (eats_piece p) (eats_piece q) = record { piece = cc; text = cc; rest = refl }

pub keyword_same : {k : Keyword} {ts us vs : List Token} → EatsKeyword k ts us → EatsKeyword k ts vs → us ≡ vs
keyword_same (eats_keyword p) (eats_keyword q) = refl

pub end_same : {ts us vs ws : List Token} → ts ≡ us → EatsEnd ts vs → EatsEnd us ws → vs ≡ ws
end_same {ws = ws} e p q = go p (along (λ zs. EatsEnd zs ws) e q)
  where
    go : {ts us vs : List Token} → EatsEnd ts us → EatsEnd ts vs → us ≡ vs
    go (eats_end p) (eats_end q) = refl

-- one token isn't two symbols
pub apart : {c d : Symbol} {ts us vs ws : List Token} → ts ≡ us → Eats c ts vs → Eats d us ws → kind.Symbol c ≡ kind.Symbol d
apart {d = d} e p q = sym (kind_eaten p) ∙ along (λ zs. kind_of zs ≡ kind.Symbol d) e (kind_eaten q)
