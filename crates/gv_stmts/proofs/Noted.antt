-- Annotations: what their parts read make, and where none stand.
use Rattle.std.proofs.Common.{◌≡◌, ◌≢◌, List, [], ◌∷◌, drop}
use Rattle.gv_spelling.specs.declared.kinds.Symbol.{Symbol}
use Rattle.gv_spelling.specs.declared.kinds.Symbol.TheVariants as symbol
use Rattle.gv_lex.specs.declared.token.Token.{Token}
use Rattle.gv_lex.specs.declared.token.TokenKind.TheVariants as kind
use Rattle.gv_tree.specs.declared.expr.Expr.{Expr}
use Rattle.gv_tree.specs.declared.ops.Ident.{Ident}
use Rattle.gv_tree.specs.declared.top.Setting.{Setting}
use Rattle.gv_grammar.specs.Tokens.{Eats, kind_of}
use Rattle.gv_grammar.specs.Phrases.{Nothing}
use Rattle.gv_grammar.specs.Stmts.{MayLine, IsValue}
use Rattle.gv_grammar.specs.Scripts.{IsDotted, AreSettings, last_setting, more_settings, MaySettings, no_parens, empty_parens, settings, AreAnnotations, no_annotation, an_annotation}
use Rattle.gv_grammar.proofs.Single.{along, as_same, eaten_same, kind_eaten, same_rest}
use Rattle.gv_grammar.proofs.Longest.{symbol_eaten}
use Rattle.gv_grammar.proofs.Tails.{at_comma, at_paren}
use Rattle.gv_grammar.proofs.Stmts.{may_line_once, value_once}
use Rattle.gv_grammar.proofs.Scripts.{dotted_once, may_settings_once}
use Rattle.gv_cursor.specs.Reading.{Stopped}
use Rattle.gv_decls.specs.Phrases.{IsName, a_name}

-- a symbol that comes next is passed
pub passed : {s : Symbol} {ts us : List Token} → kind_of ts ≡ kind.Symbol s → us ≡ drop 1 ts → Eats s ts us
passed {s = s} {ts = ts} p e = along (λ zs. Eats s ts zs) e (symbol_eaten ts p)

-- one that isn't passed doesn't come next
pub not_next : {s : Symbol} {ts : List Token} → ((after : List Token) → Eats s ts after → ⊥) → kind_of ts ≢ kind.Symbol s
not_next {ts = ts} f h = f _ (symbol_eaten ts h)

module _ (tokens : List Token) where
  -- ---- members

  pub last_of_settings : {i : Ident} {x : Expr} {ts us vs ws rest : List Token} → IsName i ts us → Eats symbol.Assign us vs → IsValue tokens x vs ws → Eats symbol.RightParen ws rest
      → AreSettings tokens (record { ident = i; value = x } ∷ []) ts rest
  last_of_settings (a_name p) e d c = last_setting p e d c

  pub more_of_settings : {i : Ident} {x : Expr} {ss : List Setting} {ts us vs ws xs rest : List Token} → IsName i ts us → Eats symbol.Assign us vs → IsValue tokens x vs ws → Eats symbol.Comma ws xs
      → AreSettings tokens ss xs rest → AreSettings tokens (record { ident = i; value = x } ∷ ss) ts rest
  more_of_settings (a_name p) e d c g = more_settings p e d c g

  pub no_setting_name : {ts : List Token} → Nothing IsName ts → Nothing (AreSettings tokens) ts
  no_setting_name f y after (last_setting p e d c) = f _ _ (a_name p)
  no_setting_name f y after (more_settings p e d c g) = f _ _ (a_name p)

  pub no_setting_assign : {i : Ident} {ts us : List Token} → IsName i ts us → ((after : List Token) → Eats symbol.Assign us after → ⊥) → Nothing (AreSettings tokens) ts
  no_setting_assign (a_name p) f y after (last_setting {vs = vs} q e d c) = let a = as_same p q in f vs (along (λ zs. Eats symbol.Assign zs vs) (a.rest) e)
  no_setting_assign (a_name p) f y after (more_settings {vs = vs} q e d c g) = let a = as_same p q in f vs (along (λ zs. Eats symbol.Assign zs vs) (a.rest) e)

  pub no_setting_value : {i : Ident} {ts us vs : List Token} → IsName i ts us → Eats symbol.Assign us vs → Nothing (Stopped (IsValue tokens)) vs → Nothing (AreSettings tokens) ts
  no_setting_value (a_name p) h f y after (last_setting {x = x} {ws = ws} q e d c) = let a = as_same p q in
      f x ws (record { is = along (λ zs. IsValue tokens x zs ws) (eaten_same (a.rest) h e) d; stops = at_paren c })
  no_setting_value (a_name p) h f y after (more_settings {x = x} {ws = ws} q e d c g) = let a = as_same p q in
      f x ws (record { is = along (λ zs. IsValue tokens x zs ws) (eaten_same (a.rest) h e) d; stops = at_comma c })

  pub no_setting_comma : {i : Ident} {x : Expr} {ts us vs ws : List Token} → IsName i ts us → Eats symbol.Assign us vs → Stopped (IsValue tokens) x vs ws
      → ((after : List Token) → Eats symbol.RightParen ws after → ⊥) → ((after : List Token) → Eats symbol.Comma ws after → ⊥) → Nothing (AreSettings tokens) ts
  no_setting_comma (a_name p) h v f g y after (last_setting {x = x} {ws = ws} q e d c) =
      let a = as_same p q in
      let b = value_once tokens v.is (along (λ zs. IsValue tokens x zs ws) (eaten_same (a.rest) h e) d) v.stops (at_paren c) in
      f after (along (λ zs. Eats symbol.RightParen zs after) (b.rest) c)
  no_setting_comma (a_name p) h v f g y after (more_settings {x = x} {ws = ws} {xs = xs} q e d c k) =
      let a = as_same p q in
      let b = value_once tokens v.is (along (λ zs. IsValue tokens x zs ws) (eaten_same (a.rest) h e) d) v.stops (at_comma c) in
      g xs (along (λ zs. Eats symbol.Comma zs xs) (b.rest) c)

  pub no_more_settings : {i : Ident} {x : Expr} {ts us vs ws xs : List Token} → IsName i ts us → Eats symbol.Assign us vs → Stopped (IsValue tokens) x vs ws
      → ((after : List Token) → Eats symbol.RightParen ws after → ⊥) → Eats symbol.Comma ws xs → Nothing (AreSettings tokens) xs → Nothing (AreSettings tokens) ts
  no_more_settings (a_name p) h v f m g y after (last_setting {x = x} {ws = ws} q e d c) =
      let a = as_same p q in
      let b = value_once tokens v.is (along (λ zs. IsValue tokens x zs ws) (eaten_same (a.rest) h e) d) v.stops (at_paren c) in
      f after (along (λ zs. Eats symbol.RightParen zs after) (b.rest) c)
  no_more_settings (a_name p) h v f m g y after (more_settings {x = x} {ss = ss} {ws = ws} {xs = xs} q e d c k) =
      let a = as_same p q in
      let b = value_once tokens v.is (along (λ zs. IsValue tokens x zs ws) (eaten_same (a.rest) h e) d) v.stops (at_comma c) in
      g ss after (along (λ zs. AreSettings tokens ss zs after) (eaten_same (b.rest) m c) k)

  pub no_parens_here : {ts us : List Token} → us ≡ ts → ((after : List Token) → Eats symbol.LeftParen ts after → ⊥) → MaySettings tokens [] ts us
  no_parens_here {ts = ts} e f = along (λ zs. MaySettings tokens [] ts zs) e (no_parens (not_next f))

  -- settings behind a parenthesis that isn't closed at once
  pub no_settings : {ts us vs : List Token} → Eats symbol.LeftParen ts us → vs ≡ us → ((after : List Token) → Eats symbol.RightParen us after → ⊥) → Nothing (AreSettings tokens) vs → Nothing (MaySettings tokens) ts
  no_settings p e f g y after (no_parens h) = h (kind_eaten p)
  no_settings p e f g y after (empty_parens q c) = f after (along (λ zs. Eats symbol.RightParen zs after) (same_rest p q) c)
  no_settings p e f g y after (settings {ss = ss} q d) = g ss after (along (λ zs. AreSettings tokens ss zs after) e (along (λ zs. AreSettings tokens ss zs after) (same_rest p q) d))

  -- ---- annotations

  pub no_note_path : {ts us : List Token} → Eats symbol.At ts us → Nothing IsDotted us → Nothing (AreAnnotations tokens) ts
  no_note_path p f y after (no_annotation g) = g (kind_eaten p)
  no_note_path p f y after (an_annotation {path = is} {vs = vs} q d s l k) = f is vs (along (λ zs. IsDotted is zs vs) (same_rest p q) d)

  pub no_note_settings : {is : List Ident} {ts us vs : List Token} → Eats symbol.At ts us → IsDotted is us vs → Nothing (MaySettings tokens) vs → Nothing (AreAnnotations tokens) ts
  no_note_settings p d f y after (no_annotation g) = g (kind_eaten p)
  no_note_settings p d f y after (an_annotation {path = is} {ss = ss} {vs = vs} {ws = ws} q e s l k) =
      let a = dotted_once d (along (λ zs. IsDotted is zs vs) (same_rest p q) e) in
      f ss ws (along (λ zs. MaySettings tokens ss zs ws) (a.rest) s)

  pub no_more_notes : {is : List Ident} {ss : List Setting} {ts us vs ws xs : List Token} → Eats symbol.At ts us → IsDotted is us vs → MaySettings tokens ss vs ws → MayLine ws xs
      → Nothing (AreAnnotations tokens) xs → Nothing (AreAnnotations tokens) ts
  no_more_notes p d s l f y after (no_annotation g) = g (kind_eaten p)
  no_more_notes p d s l f y after (an_annotation {path = is} {ss = ss} {notes = ns} {vs = vs} {ws = ws} {xs = xs} q e t m k) =
      let a = dotted_once d (along (λ zs. IsDotted is zs vs) (same_rest p q) e) in
      let b = may_settings_once tokens s (along (λ zs. MaySettings tokens ss zs ws) (a.rest) t) in
      let c = may_line_once l (along (λ zs. MayLine zs xs) (b.rest) m) in
      f ns after (along (λ zs. AreAnnotations tokens ns zs after) c k)
