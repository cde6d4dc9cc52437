-- Steps over tokens.
use Rattle.std.proofs.Common.{◌≡◌, ◌≢◌, ℕ, zero, suc, Bool, true, false, List, ◌∷◌, refl, sym, ◌∙◌, MatchBool}
use Rattle.gv_spelling.specs.declared.kinds.Symbol.TheVariants as symbol
use Rattle.gv_spelling.specs.declared.kinds.Symbol.{Symbol}
use Rattle.gv_lex.specs.declared.token.Piece.TheVariants as piece
use Rattle.gv_lex.specs.declared.token.Token.{Token}
use Rattle.gv_lex.specs.declared.token.TokenKind.{TokenKind}
use Rattle.gv_lex.specs.declared.token.TokenKind.TheVariants as kind
use Rattle.gv_grammar.specs.Tokens.{Eats, kind_of}
use Rattle.gv_grammar.specs.Stmts.{Separates, by_line, by_semicolon, MayLine, no_line, deeper, shallower, is_arrow, parts_stmts, has_arrow}
use Rattle.gv_grammar.proofs.Single.{along}
use Rattle.gv_grammar.proofs.StmtFirsts.{line_eaten}

pub separated : (b : Bool) {old mid : List Token} (new : List Token) → mid ≡ old → kind_of old ≢ kind.LineEnd
    → MatchBool b (Eats symbol.Semicolon mid new) ((new ≡ mid) × ((after : List Token) → Eats symbol.Semicolon mid after → ⊥))
    → MatchBool b (Separates old new) ((new ≡ old) × ((after : List Token) → Separates old after → ⊥))
separated true new e f p = by_semicolon (along (λ zs. Eats symbol.Semicolon zs new) (sym e) p)
separated false {old = old} {mid = mid} new e f p = (p.0 ∙ e, λ after s. go s)
  where
    go : {after : List Token} → Separates old after → ⊥
    go (by_line q) = f (line_eaten q)
    go {after = after} (by_semicolon q) = p.1 after (along (λ zs. Eats symbol.Semicolon zs after) e q)

pub line_ends : {ts us : List Token} → us ≡ ts → kind_of ts ≢ kind.LineEnd → MayLine ts us
line_ends {ts = ts} e f = along (λ zs. MayLine ts zs) e (no_line f)

-- ---- arrows

record Plain (c : TokenKind) : Type 0 where
  no_arrow : is_arrow c ≡ false
  no_part : parts_stmts c ≡ false

symbol_deeper : (s : Symbol) → deeper (kind.Symbol s) ≡ true → shallower (kind.Symbol s) ≡ false
symbol_deeper symbol.LeftParen p = refl
symbol_deeper symbol.LeftBracket p = refl
symbol_deeper symbol.LeftBrace p = refl
symbol_deeper s p = cc

deeper_symbol : (s : Symbol) → deeper (kind.Symbol s) ≡ true → Plain (kind.Symbol s)
deeper_symbol symbol.LeftParen p = record { no_arrow = refl; no_part = refl }
deeper_symbol symbol.LeftBracket p = record { no_arrow = refl; no_part = refl }
deeper_symbol symbol.LeftBrace p = record { no_arrow = refl; no_part = refl }
deeper_symbol s p = cc

deeper_plain : (c : TokenKind) → deeper c ≡ true → Plain c
deeper_plain (kind.Symbol s) p = deeper_symbol s p
deeper_plain (kind.Text (piece.Head f) n) p = record { no_arrow = refl; no_part = refl }
deeper_plain other p = cc

deeper_alone : (c : TokenKind) → deeper c ≡ true → shallower c ≡ false
deeper_alone (kind.Symbol s) p = symbol_deeper s p
deeper_alone (kind.Text (piece.Head f) n) p = refl
deeper_alone other p = cc

shallower_symbol : (s : Symbol) → shallower (kind.Symbol s) ≡ true → is_arrow (kind.Symbol s) ≡ false
shallower_symbol symbol.RightParen p = refl
shallower_symbol symbol.RightBracket p = refl
shallower_symbol symbol.RightBrace p = refl
shallower_symbol s p = cc

shallower_plain : (c : TokenKind) → shallower c ≡ true → is_arrow c ≡ false
shallower_plain (kind.Symbol s) p = shallower_symbol s p
shallower_plain (kind.Text piece.Tail n) p = refl
shallower_plain other p = cc

pub arrow_deeper : (n : ℕ) (t : Token) (ts : List Token) → deeper t.kind ≡ true → has_arrow n (t ∷ ts) ≡ has_arrow (suc n) ts
arrow_deeper zero t ts p = let a = deeper_plain t.kind p in let b = a.no_arrow in let c = a.no_part in let d = deeper_alone t.kind p in rw (b, c, d, p) refl
arrow_deeper (suc n) t ts p = rw p refl

pub arrow_shallower : (n : ℕ) (t : Token) (ts : List Token) → deeper t.kind ≡ false → shallower t.kind ≡ true → has_arrow (suc n) (t ∷ ts) ≡ has_arrow n ts
arrow_shallower n t ts p q = rw (p, q) refl

pub arrow_closed : (t : Token) (ts : List Token) → deeper t.kind ≡ false → shallower t.kind ≡ true → parts_stmts t.kind ≡ false → has_arrow 0 (t ∷ ts) ≡ false
arrow_closed t ts p q r = let a = shallower_plain t.kind q in rw (a, r, q) refl

pub arrow_within : (n : ℕ) (t : Token) (ts : List Token) → deeper t.kind ≡ false → shallower t.kind ≡ false → has_arrow (suc n) (t ∷ ts) ≡ has_arrow (suc n) ts
arrow_within n t ts p q = rw (p, q) refl

pub arrow_found : (t : Token) (ts : List Token) → is_arrow t.kind ≡ true → has_arrow 0 (t ∷ ts) ≡ true
arrow_found t ts p = rw p refl

pub arrow_parted : (t : Token) (ts : List Token) → is_arrow t.kind ≡ false → parts_stmts t.kind ≡ true → has_arrow 0 (t ∷ ts) ≡ false
arrow_parted t ts p q = rw (p, q) refl

pub arrow_behind : (t : Token) (ts : List Token) → deeper t.kind ≡ false → shallower t.kind ≡ false → is_arrow t.kind ≡ false → parts_stmts t.kind ≡ false → has_arrow 0 (t ∷ ts) ≡ has_arrow 0 ts
arrow_behind t ts p q r s = rw (r, s, q, p) refl
