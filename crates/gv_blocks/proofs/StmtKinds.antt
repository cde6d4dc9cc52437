-- Where a statement is a declaration or an expression, and where there is none.
use Rattle.std.proofs.Common.{◌≡◌, ◌≢◌, ◌⊎◌, inl, inr, ◌<◌, ℕ, drop, Bool, true, false, ◌&&◌, List, [], ◌∷◌, refl, subst, ap, arith, Some, if◌then◌else◌}
use Rattle.gv_base.specs.declared.refusal.Place.{Place}
use Rattle.gv_spelling.specs.declared.kinds.Keyword.{Keyword}
use Rattle.gv_spelling.specs.declared.kinds.Keyword.TheVariants as keyword
use Rattle.gv_spelling.specs.declared.kinds.Symbol.{Symbol}
use Rattle.gv_spelling.specs.declared.kinds.Symbol.TheVariants as symbol
use Rattle.gv_lex.specs.declared.token.Piece.TheVariants as piece
use Rattle.gv_lex.specs.declared.token.Token.{Token}
use Rattle.gv_lex.specs.declared.token.TokenKind.{TokenKind}
use Rattle.gv_lex.specs.declared.token.TokenKind.TheVariants as kind
use Rattle.gv_lex.specs.declared.token.Word.TheVariants as word
use Rattle.gv_tree.specs.declared.ops.TypeTree.TheVariants as type
use Rattle.gv_tree.specs.declared.stmt.Stmt.{Stmt}
use Rattle.gv_grammar.specs.Tokens.{Eats, EatsKeyword, kind_of, type_of, ident}
use Rattle.gv_grammar.specs.Phrases.{Nothing}
use Rattle.gv_grammar.specs.Stmts.{is_name_token, is_type_name, begins_typed, IsFullValue, IsDecl, IsStmt, a_decl, multiple, a_value}
use Rattle.gv_grammar.proofs.Longest.{keyword_here}
use Rattle.gv_grammar.proofs.Single.{keyword_same}
use Rattle.gv_grammar.proofs.StmtFirsts.{keyword_at, brace_at, typed_at, stmt_class, stmt_first, no_stmt}
use Rattle.gv_grammar.proofs.Stmts.{symbol_missing, keywords_agree}
use Rattle.gv_grammar.proofs.Tails.{Stops}
use Rattle.gv_cursor.specs.Reading.{Stopped}
use Rattle.gv_decls.specs.Phrases.{NextIs}

both : (a b : Bool) → a && b ≡ true → (a ≡ true) × (b ≡ true)
both true b h = (refl, h)
both false b h = cc

class_type : (place : Place) (c : TokenKind) → is_type_name c ≡ true → (n : ℕ) × (type_of place c ≡ Some (type.Class (ident place n)))
class_type place (kind.Word word.TypeName n) h = (n, refl)
class_type place other h = cc

-- a type's name and a name begin a declaration
pub typed_class : (ts : List Token) → begins_typed ts ≡ true → stmt_class ts ≡ 2
typed_class [] h = cc
typed_class (t ∷ ts) h = let a = both (is_type_name t.kind) (is_name_token (kind_of ts)) h in let b = class_type t.place t.kind (a.0) in typed_at t ts (b.1) (a.1)

symbol_below : (place : Place) (s : Symbol) (ts : List Token) → stmt_class (record { place = place; kind = kind.Symbol s } ∷ ts) < 2
symbol_below place symbol.LeftParen ts = omega arith
symbol_below place s ts = omega arith

-- a token that is no keyword begins an expression, or nothing
below : (place : Place) (c : TokenKind) (ts : List Token) → begins_typed (record { place = place; kind = c } ∷ ts) ≡ false → ((k : Keyword) (n : ℕ) → c ≡ kind.Word (word.Keyword k) n → ⊥)
    → stmt_class (record { place = place; kind = c } ∷ ts) < 2
below place (kind.Word word.Name n) ts h f = omega arith
below place (kind.Word word.TypeName n) ts h f = let a : stmt_class (record { place = place; kind = kind.Word word.TypeName n } ∷ ts) ≡ 1 = ap (λ b. if b then 2 else 1) h in omega arith
below place (kind.Word (word.Keyword k) n) ts h f = absurd (f k n refl)
below place (kind.Text piece.Whole n) ts h f = omega arith
below place (kind.Text p n) ts h f = omega arith
below place (kind.Symbol s) ts h f = symbol_below place s ts
below place other ts h f = omega arith

pub plain_class : (ts : List Token) → begins_typed ts ≡ false → ((k : Keyword) (n : ℕ) → kind_of ts ≡ kind.Word (word.Keyword k) n → ⊥) → stmt_class ts < 2
plain_class [] h f = omega arith
plain_class (t ∷ ts) h f = below t.place t.kind ts h f

pub keyword_plain : {k : Keyword} (ts : List Token) → NextIs k ts → begins_typed ts ≡ false
keyword_plain [] p = refl
keyword_plain (t ∷ ts) p = ap (λ c. is_type_name c && is_name_token (kind_of ts)) (p.1)

pub keyword_no_brace : {k : Keyword} (ts : List Token) → NextIs k ts → kind_of ts ≢ kind.Symbol symbol.LeftBrace
keyword_no_brace ts p q = let a = p.1 in cc

pub keyword_stands : {k : Keyword} (ts : List Token) → NextIs k ts → EatsKeyword k ts (drop 1 ts)
keyword_stands ts p = keyword_here ts (p.1)

-- a keyword that begins no statement of its own and no declaration
pub keyword_open : (k : Keyword) → k ≢ keyword.Def → k ≢ keyword.Final → k ≢ keyword.Int → k ≢ keyword.Long → k ≢ keyword.Boolean → k ≢ keyword.If → k ≢ keyword.While → k ≢ keyword.For
    → k ≢ keyword.Switch → k ≢ keyword.Try → k ≢ keyword.Throw → k ≢ keyword.Return → k ≢ keyword.Break → k ≢ keyword.Continue → k ≢ keyword.Assert
    → {ts us : List Token} → EatsKeyword k ts us → stmt_class ts < 2
keyword_open keyword.Def d f i l b o w r s t h v e c a p = absurd (d refl)
keyword_open keyword.Final d f i l b o w r s t h v e c a p = absurd (f refl)
keyword_open keyword.Int d f i l b o w r s t h v e c a p = absurd (i refl)
keyword_open keyword.Long d f i l b o w r s t h v e c a p = absurd (l refl)
keyword_open keyword.Boolean d f i l b o w r s t h v e c a p = absurd (b refl)
keyword_open keyword.If d f i l b o w r s t h v e c a p = absurd (o refl)
keyword_open keyword.While d f i l b o w r s t h v e c a p = absurd (w refl)
keyword_open keyword.For d f i l b o w r s t h v e c a p = absurd (r refl)
keyword_open keyword.Switch d f i l b o w r s t h v e c a p = absurd (s refl)
keyword_open keyword.Try d f i l b o w r s t h v e c a p = absurd (t refl)
keyword_open keyword.Throw d f i l b o w r s t h v e c a p = absurd (h refl)
keyword_open keyword.Return d f i l b o w r s t h v e c a p = absurd (v refl)
keyword_open keyword.Break d f i l b o w r s t h v e c a p = absurd (e refl)
keyword_open keyword.Continue d f i l b o w r s t h v e c a p = absurd (c refl)
keyword_open keyword.Assert d f i l b o w r s t h v e c a p = absurd (a refl)
keyword_open k d f i l b o w r s t h v e c a p = let q = keyword_at p in omega arith

-- a keyword that begins a declaration and no list of names
declares : {k : Keyword} → (k ≡ keyword.Final) ⊎ ((k ≡ keyword.Int) ⊎ ((k ≡ keyword.Long) ⊎ (k ≡ keyword.Boolean))) → {ts us : List Token} → EatsKeyword k ts us → stmt_class ts ≡ 2
declares (inl e) {ts = ts} {us = us} p = keyword_at (subst (λ j. EatsKeyword j ts us) e p)
declares (inr (inl e)) {ts = ts} {us = us} p = keyword_at (subst (λ j. EatsKeyword j ts us) e p)
declares (inr (inr (inl e))) {ts = ts} {us = us} p = keyword_at (subst (λ j. EatsKeyword j ts us) e p)
declares (inr (inr (inr e))) {ts = ts} {us = us} p = keyword_at (subst (λ j. EatsKeyword j ts us) e p)

not_def : {k : Keyword} → (k ≡ keyword.Final) ⊎ ((k ≡ keyword.Int) ⊎ ((k ≡ keyword.Long) ⊎ (k ≡ keyword.Boolean))) → k ≡ keyword.Def → ⊥
not_def (inl e) h = cc
not_def (inr (inl e)) h = cc
not_def (inr (inr (inl e))) h = cc
not_def (inr (inr (inr e))) h = cc

module _ (tokens : List Token) where
  -- ---- declarations and expressions

  pub no_decl_stmt : {ts : List Token} → stmt_class ts ≡ 2 → ((after : List Token) → EatsKeyword keyword.Def ts after → ⊥) → Nothing (Stopped (IsDecl tokens)) ts → Nothing (Stopped (IsStmt tokens)) ts
  no_decl_stmt {ts = ts} c g f y after d = go (d.is) (d.stops)
    where
      go : {y : Stmt} {after : List Token} → IsStmt tokens y ts after → Stops after → ⊥
      go (a_decl e) h = f _ _ (record { is = e; stops = h })
      go (multiple p q e r v) h = g _ p
      go e h = let a = stmt_first tokens e in omega arith

  pub no_def_stmt : {ts us : List Token} → EatsKeyword keyword.Def ts us → kind_of us ≢ kind.Symbol symbol.LeftParen → Nothing (Stopped (IsDecl tokens)) ts → Nothing (Stopped (IsStmt tokens)) ts
  no_def_stmt {ts = ts} {us = us} p g f y after d = go (d.is) (d.stops)
    where
      go : {y : Stmt} {after : List Token} → IsStmt tokens y ts after → Stops after → ⊥
      go (a_decl e) h = f _ _ (record { is = e; stops = h })
      go (multiple p2 q e r v) h = symbol_missing (keyword_same p p2) g q
      go e h = let a = stmt_first tokens e in let b = keyword_at p in omega arith

  pub no_value_stmt : {ts : List Token} → stmt_class ts < 2 → Nothing (Stopped (IsFullValue tokens)) ts → Nothing (Stopped (IsStmt tokens)) ts
  no_value_stmt {ts = ts} c f y after d = go (d.is) (d.stops)
    where
      go : {y : Stmt} {after : List Token} → IsStmt tokens y ts after → Stops after → ⊥
      go (a_value p q e) h = f _ _ (record { is = e; stops = h })
      go e h = let a = stmt_first tokens e in omega arith

  pub no_brace_stmt : {ts us : List Token} → Eats symbol.LeftBrace ts us → Nothing (Stopped (IsStmt tokens)) ts
  no_brace_stmt p y after d = no_stmt tokens (d.is) (brace_at p)

  pub no_keyword_decl : {k : Keyword} {ts : List Token} → (k ≡ keyword.Final) ⊎ ((k ≡ keyword.Int) ⊎ ((k ≡ keyword.Long) ⊎ (k ≡ keyword.Boolean))) → NextIs k ts
      → Nothing (Stopped (IsDecl tokens)) ts → Nothing (Stopped (IsStmt tokens)) ts
  no_keyword_decl {k = k} {ts = ts} h p f = let q = keyword_stands ts p in no_decl_stmt (declares h q) (λ after d. not_def h (keywords_agree q d)) f
