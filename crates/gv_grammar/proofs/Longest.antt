-- The longest of some phrases: of a head and what it goes on with, of what may end at once, of what ends in one place only.
use Rattle.std.proofs.Common.{◌≡◌, ◌≢◌, ℕ, ◌≤◌, List, [], ◌∷◌, length, drop, refl, sym, ap, subst, arith, ◌⊎◌, inl, inr, Option, Some, None}
use Rattle.gv_spelling.specs.declared.kinds.Keyword.{Keyword}
use Rattle.gv_spelling.specs.declared.kinds.Symbol.{Symbol}
use Rattle.gv_lex.specs.declared.token.Piece.{Piece}
use Rattle.gv_lex.specs.declared.token.Token.{Token}
use Rattle.gv_lex.specs.declared.token.TokenKind.{TokenKind}
use Rattle.gv_lex.specs.declared.token.TokenKind.TheVariants as kind
use Rattle.gv_lex.specs.declared.token.Word.TheVariants as word
use Rattle.gv_tree.specs.declared.expr.Expr.{Expr}
use Rattle.gv_grammar.specs.Tokens.{Eats, eats, EatsKeyword, eats_keyword, EatsPiece, eats_piece, EatsAs, eats_as, kind_of}
use Rattle.gv_grammar.specs.Phrases.{Phrase, Longest, Nothing}
use Rattle.gv_grammar.specs.Meeting.{Meet, one, first_goes_on, second_goes_on, Level, Same}
use Rattle.gv_grammar.specs.Exprs.{IsExpr}
use Rattle.gv_grammar.proofs.Tails.{Stops}
use Rattle.gv_grammar.proofs.Meets.{meet_expr}

-- a head and a tail
pub record Split {A B : Type 0} (H : Phrase A) (T : A → Phrase B) (y : B) (ts rest : List Token) : Type 0 where
  pub x : A
  pub us : List Token
  pub head : H x ts us
  pub tail : T x y us rest

module _ {A B : Type 0} (P : A → List Token → Type 0) (H : Phrase A) (T : A → Phrase B) (S : Phrase B)
    (build : (x : A) (y : B) (ts us rest : List Token) → H x ts us → T x y us rest → S y ts rest)
    (split : (y : B) (ts rest : List Token) → S y ts rest → Split H T y ts rest)
    (meet : (x x' : A) (ts us us' : List Token) → H x ts us → H x' ts us' → Meet P x us x' us')
    (stops : (x : A) (y : B) (us rest : List Token) → T x y us rest → P x us → rest ≡ us)
    (shrinks : (x : A) (y : B) (us rest : List Token) → T x y us rest → length rest ≤ length us) where
  pub longest_of_two : {x : A} {y : B} {ts us rest : List Token} → Longest H x ts us → Longest (T x) y us rest → Longest S y ts rest
  longest_of_two {x = x} {y = y} {ts = ts} {us = us} {rest = rest} h t = record {
    is = build x y ts us rest (h.is) (t.is);
    longest = λ z after d. go z after (split z ts after d);
  }
    where
      go2 : (z : B) (after : List Token) (x' : A) (us' : List Token) → H x' ts us' → T x' z us' after → Meet P x us x' us' → length rest ≤ length after
      go2 z after x' us' h' t' (one p q) = t.longest z after (subst (λ w. T w z us after) (sym p) (subst (λ zs. T x' z zs after) (sym q) t'))
      go2 z after x' us' h' t' (first_goes_on p q) =
          let a = ap length (stops x' z us' after t' p) in
          let b = shrinks x y us rest (t.is) in omega arith
      go2 z after x' us' h' t' (second_goes_on p q) = let a = h.longest x' us' h' in absurd (omega arith)

      go : (z : B) (after : List Token) → Split H T z ts after → length rest ≤ length after
      go z after d = go2 z after (d.x) (d.us) (d.head) (d.tail) (meet x (d.x) ts us (d.us) (h.is) (d.head))

  pub nothing_of_two : {ts : List Token} → Nothing H ts → Nothing S ts
  nothing_of_two {ts = ts} f = λ y after d. let a = split y ts after d in f (a.x) (a.us) (a.head)

-- a tail that may stop: each other tail is a G
module _ {A : Type 0} {x : A} (T : A → Phrase A) (G : A → List Token → Type 0) {ts : List Token} (stop : T x x ts ts)
    (part : (y : A) (after : List Token) → T x y ts after → (length after ≡ length ts) ⊎ G y after) where
  pub stops_here : ((y : A) (after : List Token) → G y after → ⊥) → Longest (T x) x ts ts
  stops_here f = record { is = stop; longest = λ y after d. go y after (part y after d) }
    where
      go : (y : A) (after : List Token) → (length after ≡ length ts) ⊎ G y after → length ts ≤ length after
      go y after (inl e) = omega arith
      go y after (inr g) = absurd (f y after g)

  pub goes_on : (y : A) (rest : List Token) → T x y ts rest → length rest ≤ length ts → ((z : A) (after : List Token) → G z after → length rest ≤ length after) → Longest (T x) y ts rest
  goes_on y rest d h f = record { is = d; longest = λ z after t. go z after (part z after t) }
    where
      go : (z : A) (after : List Token) → (length after ≡ length ts) ⊎ G z after → length rest ≤ length after
      go z after (inl e) = omega arith
      go z after (inr g) = f z after g

-- a phrase that ends in one place only
pub only : {A : Type 0} {S : Phrase A} {x : A} {ts rest : List Token} → S x ts rest → ((y : A) (after : List Token) → S y ts after → Same x rest y after) → Longest S x ts rest
only {rest = rest} d f = record { is = d; longest = λ y after t. let a = ap length ((f y after t).rest) in omega arith }

-- a token that isn't the end of a list stands there
pub token_here : (ts : List Token) {c : TokenKind} → kind_of ts ≡ c → c ≢ kind.End → (t : Token) × (ts ≡ t ∷ drop 1 ts)
token_here [] e h = absurd (h (sym e))
token_here (t ∷ ts) e h = (t, refl)

pub symbol_eaten : {s : Symbol} (ts : List Token) → kind_of ts ≡ kind.Symbol s → Eats s ts (drop 1 ts)
symbol_eaten [] h = cc
symbol_eaten (t ∷ ts) h = eats h

pub keyword_here : {k : Keyword} {n : ℕ} (ts : List Token) → kind_of ts ≡ kind.Word (word.Keyword k) n → EatsKeyword k ts (drop 1 ts)
keyword_here [] h = cc
keyword_here (t ∷ ts) h = eats_keyword h

pub piece_here : {p : Piece} {n : ℕ} (ts : List Token) → kind_of ts ≡ kind.Text p n → EatsPiece p n ts (drop 1 ts)
piece_here [] h = cc
piece_here (t ∷ ts) h = eats_piece h

-- a token that means something, where the end of a list doesn't
pub as_here : {A : Type 0} {of : TokenKind → Option A} {x : A} (ts : List Token) → of kind.End ≡ None → of (kind_of ts) ≡ Some x → EatsAs of x ts (drop 1 ts)
as_here [] e h = cc
as_here (t ∷ ts) e h = eats_as h

pub as_rest : {A : Type 0} {of : TokenKind → Option A} {x : A} {ts rest : List Token} → EatsAs of x ts rest → rest ≡ drop 1 ts
as_rest (eats_as p) = refl

-- what the longest expression is, where another one ends before a token with which no expression goes on
pub ended_there : (all : ℕ) {x y : Expr} {ts us vs : List Token} → Longest (IsExpr all) x ts us → IsExpr all y ts vs → Stops vs → Same x us y vs
ended_there all {x = x} {y = y} {ts = ts} {us = us} {vs = vs} l d h = go (meet_expr all (l.is) d)
  where
    go : Meet (Level 12) x us y vs → Same x us y vs
    go (one p q) = record { tree = p; rest = q }
    go (first_goes_on p q) = let a = p.by in absurd (omega arith)
    go (second_goes_on p q) = let a = l.longest y vs d in absurd (omega arith)
