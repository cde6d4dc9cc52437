-- Steps of the cursor.
use Rattle.std.proofs.Common.{◌≡◌, ◌≢◌, ℕ, ◌<◌, List, [], ◌∷◌, length, drop, arith, Option, Some, None}
use Rattle.gv_spelling.specs.declared.kinds.Keyword.{Keyword}
use Rattle.gv_spelling.specs.declared.kinds.Symbol.{Symbol}
use Rattle.gv_lex.specs.declared.token.Token.{Token}
use Rattle.gv_lex.specs.declared.token.TokenKind.{TokenKind}
use Rattle.gv_lex.specs.declared.token.TokenKind.TheVariants as kind
use Rattle.gv_lex.specs.declared.token.Word.TheVariants as word
use Rattle.gv_grammar.specs.Tokens.{Eats, eats, EatsKeyword, eats_keyword, EatsEnd, eats_end, EatsLine, eats_line, EatsAs, eats_as, kind_of}

pub eaten : {s : Symbol} (ts : List Token) → kind_of ts ≡ kind.Symbol s → Eats s ts (drop 1 ts)
eaten [] h = cc
eaten (t ∷ ts) h = eats h

pub not_eaten : {s : Symbol} {ts rest : List Token} → kind_of ts ≢ kind.Symbol s → Eats s ts rest → ⊥
not_eaten h (eats p) = h p

pub keyword_eaten : {k : Keyword} {n : ℕ} (ts : List Token) → kind_of ts ≡ kind.Word (word.Keyword k) n → EatsKeyword k ts (drop 1 ts)
keyword_eaten [] h = cc
keyword_eaten (t ∷ ts) h = eats_keyword h

pub keyword_not_eaten : {k : Keyword} {ts rest : List Token} → ((n : ℕ) → kind_of ts ≡ kind.Word (word.Keyword k) n → ⊥) → EatsKeyword k ts rest → ⊥
keyword_not_eaten h (eats_keyword {n = n} p) = h n p

-- a token that means x is passed; the end of a list means nothing
pub meant_eaten : {A : Type 0} {of : TokenKind → Option A} {x : A} (ts : List Token) → of kind.End ≡ None → of (kind_of ts) ≡ Some x → EatsAs of x ts (drop 1 ts)
meant_eaten [] e h = cc
meant_eaten (t ∷ ts) e h = eats_as h

pub not_meant : {A : Type 0} {of : TokenKind → Option A} {x : A} {ts rest : List Token} → of (kind_of ts) ≡ None → EatsAs of x ts rest → ⊥
not_meant h (eats_as p) = cc

pub end_eaten : (ts : List Token) → kind_of ts ≡ kind.End → 0 < length ts → EatsEnd ts (drop 1 ts)
end_eaten [] h l = absurd (omega arith)
end_eaten (t ∷ ts) h l = eats_end h

pub end_not_eaten : {ts rest : List Token} → kind_of ts ≢ kind.End → EatsEnd ts rest → ⊥
end_not_eaten h (eats_end p) = h p

pub line_eaten : (ts : List Token) → kind_of ts ≡ kind.LineEnd → EatsLine ts (drop 1 ts)
line_eaten [] h = cc
line_eaten (t ∷ ts) h = eats_line h

pub line_not_eaten : {ts rest : List Token} → kind_of ts ≢ kind.LineEnd → EatsLine ts rest → ⊥
line_not_eaten h (eats_line p) = h p
