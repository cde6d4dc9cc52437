-- The longest suffixes, names of members and primaries, exit by exit of their functions.
use Rattle.std.proofs.Common.{◌≡◌, ◌≢◌, ℕ, List, [], ◌∷◌, drop, refl, ap, subst, arith, true, false, Some, None, ◌⊎◌, inl, inr}
use Rattle.gv_spelling.specs.declared.kinds.Keyword.TheVariants as keyword
use Rattle.gv_spelling.specs.declared.kinds.Symbol.TheVariants as symbol
use Rattle.gv_lex.specs.declared.token.Piece.TheVariants as piece
use Rattle.gv_lex.specs.declared.token.Token.{Token}
use Rattle.gv_lex.specs.declared.token.TokenKind.{TokenKind}
use Rattle.gv_lex.specs.declared.token.TokenKind.TheVariants as kind
use Rattle.gv_tree.specs.declared.expr.Arg.{Arg}
use Rattle.gv_tree.specs.declared.expr.Atom.{Atom}
use Rattle.gv_tree.specs.declared.expr.Expr.{Expr}
use Rattle.gv_tree.specs.declared.expr.Expr.TheVariants as expr
use Rattle.gv_tree.specs.declared.expr.Label.{Label}
use Rattle.gv_tree.specs.declared.expr.Label.TheVariants as label
use Rattle.gv_tree.specs.declared.ops.MemberOp.{MemberOp}
use Rattle.gv_tree.specs.declared.ops.UnaryOp.{UnaryOp}
use Rattle.gv_grammar.specs.Tokens.{Eats, EatsKeyword, EatsAs, kind_of, place_of, name_of, type_name_of, member_name_of, text_of, ident, atom_of, postfix_of, member_of, is_head}
use Rattle.gv_grammar.specs.Phrases.{Longest, Nothing}
use Rattle.gv_grammar.specs.Exprs.{takes_closures, plain, IsClosure, AreClosures, no_closure, one_closure, IsExpr, IsSuffix, a_member, a_field, postfix, index, call, closures, IsMemberName, member_word, member_text, member_gstring, IsGString, AreIndexes, AreArguments, no_element, elements, AreItems, AreEntries, IsPrimary, an_atom, a_gstring, parens, a_list, empty_map, a_map, a_closure, a_new}
use Rattle.gv_grammar.proofs.Single.{along, kind_eaten, meant, same_rest, eaten_same, keyword_same}
use Rattle.gv_grammar.proofs.Firsts.{class, keyword_first, primary_first, suffix_class, class_member, suffix_first}
use Rattle.gv_grammar.proofs.Tails.{at_paren}
use Rattle.gv_grammar.proofs.Meets.{elements_or_colon, entries_or_colon, meet_member_name, meet_primary}
use Rattle.gv_grammar.proofs.Longest.{only, as_here, as_rest, ended_there}

head_class : (c : TokenKind) → is_head c ≡ true → class c ≡ 1
head_class (kind.Text (piece.Head f) n) p = refl
head_class other p = cc

module _ (all : ℕ) where
  -- ---- names of members

  pub long_member_name : {l : Label} {ts rest : List Token} → IsMemberName all l ts rest → Longest (IsMemberName all) l ts rest
  long_member_name d = only d (λ y after f. meet_member_name all d f)

  pub member_word_here : {n : ℕ} (ts : List Token) → member_name_of (kind_of ts) ≡ Some n → Longest (IsMemberName all) (label.Name (ident (place_of ts) n)) ts (drop 1 ts)
  member_word_here ts p = long_member_name (member_word (as_here ts refl p))

  pub member_text_here : {n : ℕ} (ts : List Token) → text_of (kind_of ts) ≡ Some n → Longest (IsMemberName all) (label.Text (ident (place_of ts) n)) ts (drop 1 ts)
  member_text_here ts p = long_member_name (member_text (as_here ts refl p))

  pub no_member_name : {ts : List Token} → member_name_of (kind_of ts) ≡ None → text_of (kind_of ts) ≡ None → Nothing (IsGString all) ts → Nothing (IsMemberName all) ts
  no_member_name p q f y after (member_word d) = let a = meant d in cc
  no_member_name p q f y after (member_text d) = let a = meant d in cc
  no_member_name p q f y after (member_gstring d) = f _ _ d

  -- ---- suffixes

  pub member_here : {x : Expr} {op : MemberOp} {l : Label} (ts : List Token) {rest : List Token} → member_of (kind_of ts) ≡ Some op → IsMemberName all l (drop 1 ts) rest → IsSuffix all x (expr.Member (place_of ts) op x l) ts rest
  member_here [] p d = cc
  member_here (t ∷ ts) p d = a_member p d

  pub field_here : {x : Expr} {n : ℕ} {ts us : List Token} → Eats symbol.FieldDot ts us → name_of (kind_of us) ≡ Some n → IsSuffix all x (expr.Field (place_of ts) x (ident (place_of us) n)) ts (drop 1 us)
  field_here {us = us} p q = a_field p (as_here us refl q)

  pub postfix_here : {x : Expr} {op : UnaryOp} (ts : List Token) → postfix_of (kind_of ts) ≡ Some op → IsSuffix all x (expr.Unary (place_of ts) op x) ts (drop 1 ts)
  postfix_here [] p = cc
  postfix_here (t ∷ ts) p = postfix p

  pub closures_here : {x : Expr} {fs : List Expr} {ts rest : List Token} → takes_closures x ≡ true → AreClosures all fs ts rest → fs ≢ [] → IsSuffix all x (expr.Call (place_of ts) x (plain all fs)) ts rest
  closures_here t (no_closure f) h = absurd (h refl)
  closures_here t (one_closure c d) h = closures t c d

  pub no_call : {x : Expr} {ts us : List Token} → Eats symbol.LeftParen ts us → Nothing (AreArguments all) us → Nothing (IsSuffix all x) ts
  no_call p f y after (call {args = args} {vs = vs} q d c) = f args vs (along (λ zs. AreArguments all args zs vs) (same_rest p q) d)
  no_call p f y after s = let a = ap suffix_class (kind_eaten p) in let b = suffix_first all s in omega arith

  pub no_index : {x : Expr} {ts us : List Token} → Eats symbol.LeftBracket ts us → Nothing (AreIndexes all) us → Nothing (IsSuffix all x) ts
  no_index p f y after (index {es = es} q d) = f es after (along (λ zs. AreIndexes all es zs after) (same_rest p q) d)
  no_index p f y after s = let a = ap suffix_class (kind_eaten p) in let b = suffix_first all s in omega arith

  pub no_member : {x : Expr} {op : MemberOp} {ts : List Token} → member_of (kind_of ts) ≡ Some op → Nothing (IsMemberName all) (drop 1 ts) → Nothing (IsSuffix all x) ts
  no_member p f y after (a_member {l = l} q d) = f l after d
  no_member p f y after s = let a = class_member _ p in let b = suffix_first all s in omega arith

  pub no_field : {x : Expr} {ts us : List Token} → Eats symbol.FieldDot ts us → name_of (kind_of us) ≡ None → Nothing (IsSuffix all x) ts
  no_field p e y after (a_field {n = n} q d) = let a = meant (along (λ zs. EatsAs name_of n zs after) (same_rest p q) d) in cc
  no_field p e y after s = let a = ap suffix_class (kind_eaten p) in let b = suffix_first all s in omega arith

  -- no token that begins a suffix
  pub no_suffix : {x : Expr} {ts : List Token} → ((us : List Token) → Eats symbol.LeftParen ts us → ⊥) → ((us : List Token) → Eats symbol.LeftBracket ts us → ⊥) → member_of (kind_of ts) ≡ None
      → ((us : List Token) → Eats symbol.FieldDot ts us → ⊥) → postfix_of (kind_of ts) ≡ None → (takes_closures x ≡ false) ⊎ Nothing (IsClosure all) ts → Nothing (IsSuffix all x) ts
  no_suffix a b c d e f y after (a_member p q) = cc
  no_suffix a b c d e f y after (a_field p q) = d _ p
  no_suffix a b c d e f y after (postfix p) = cc
  no_suffix a b c d e f y after (index p q) = b _ p
  no_suffix a b c d e f y after (call p q r) = a _ p
  no_suffix a b c d e (inl f) y after (closures p q r) = cc
  no_suffix a b c d e (inr f) y after (closures p q r) = f _ _ q

  -- ---- primaries

  pub long_primary : {x : Expr} {ts rest : List Token} → IsPrimary all x ts rest → Longest (IsPrimary all) x ts rest
  long_primary d = only d (λ y after f. meet_primary all d f)

  pub atom_here : {a : Atom} (ts : List Token) → atom_of (kind_of ts) ≡ Some a → Longest (IsPrimary all) (expr.Atom (place_of ts) a) ts (drop 1 ts)
  atom_here [] p = cc
  atom_here (t ∷ ts) p = long_primary (an_atom p)

  pub new_here : {n : ℕ} {args : List Arg} {ts us ws rest : List Token} → EatsKeyword keyword.New ts us → type_name_of (kind_of us) ≡ Some n → Eats symbol.LeftParen (drop 1 us) ws → Longest (AreArguments all) args ws rest
      → Longest (IsPrimary all) (expr.New (place_of ts) (ident (place_of us) n) args) ts rest
  new_here {us = us} p q o l = long_primary (a_new p (as_here us refl q) o l.is)

  pub no_parens_inner : {ts us : List Token} → Eats symbol.LeftParen ts us → Nothing (IsExpr all) us → Nothing (IsPrimary all) ts
  no_parens_inner p f y after (parens {x = x} {vs = vs} q d c) = f x vs (along (λ zs. IsExpr all x zs vs) (same_rest p q) d)
  no_parens_inner p f y after d = let a = primary_first all d in let b = ap class (kind_eaten p) in omega arith

  pub no_parens_close : {x : Expr} {ts us vs : List Token} → Eats symbol.LeftParen ts us → Longest (IsExpr all) x us vs → ((ws : List Token) → Eats symbol.RightParen vs ws → ⊥) → Nothing (IsPrimary all) ts
  no_parens_close p l f y after (parens {x = x} {vs = vs} q d c) =
      let a = ended_there all l (along (λ zs. IsExpr all x zs vs) (same_rest p q) d) (at_paren c) in f after (along (λ zs. Eats symbol.RightParen zs after) a.rest c)
  no_parens_close p l f y after d = let a = primary_first all d in let b = ap class (kind_eaten p) in omega arith

  -- what stands behind `new`
  record New (us rest : List Token) : Type 0 where
    name : ℕ
    args : List Arg
    ws : List Token
    named : EatsAs type_name_of name us (drop 1 us)
    parens : Eats symbol.LeftParen (drop 1 us) ws
    arguments : AreArguments all args ws rest

  new_part : {y : Expr} {ts us rest : List Token} → EatsKeyword keyword.New ts us → IsPrimary all y ts rest → New us rest
  new_part {rest = rest} p (a_new {n = n} {args = args} {us = us} {ws = ws} q m o d) = along (λ zs. New zs rest) (keyword_same p q)
      (record { name = n; args = args; ws = ws; named = subst (EatsAs type_name_of n us) (as_rest m) m; parens = subst (λ zs. Eats symbol.LeftParen zs ws) (as_rest m) o; arguments = d })
  new_part p d = let a = primary_first all d in let b = keyword_first all p in absurd (omega arith)

  pub no_new_name : {ts us : List Token} → EatsKeyword keyword.New ts us → type_name_of (kind_of us) ≡ None → Nothing (IsPrimary all) ts
  no_new_name p e y after d = let a = new_part p d in let b = meant a.named in cc

  pub no_new_open : {ts us : List Token} → EatsKeyword keyword.New ts us → ((ws : List Token) → Eats symbol.LeftParen (drop 1 us) ws → ⊥) → Nothing (IsPrimary all) ts
  no_new_open p f y after d = let a = new_part p d in f a.ws a.parens

  pub no_new_arguments : {ts us ws : List Token} → EatsKeyword keyword.New ts us → Eats symbol.LeftParen (drop 1 us) ws → Nothing (AreArguments all) ws → Nothing (IsPrimary all) ts
  no_new_arguments p o f y after d = let a = new_part p d in f a.args after (along (λ zs. AreArguments all a.args zs after) (same_rest o a.parens) a.arguments)

  pub no_string_primary : {ts : List Token} → is_head (kind_of ts) ≡ true → Nothing (IsGString all) ts → Nothing (IsPrimary all) ts
  no_string_primary h f y after (a_gstring d) = f _ _ d
  no_string_primary h f y after d = let a = primary_first all d in let b = head_class _ h in omega arith

  pub no_closure_primary : {ts us : List Token} → Eats symbol.LeftBrace ts us → Nothing (IsClosure all) ts → Nothing (IsPrimary all) ts
  no_closure_primary p f y after (a_closure d) = f _ _ d
  no_closure_primary p f y after d = let a = primary_first all d in let b = ap class (kind_eaten p) in omega arith

  pub no_list : {ts us : List Token} → Eats symbol.LeftBracket ts us → ((vs : List Token) → Eats symbol.RightBracket us vs → ⊥) → ((vs : List Token) → Eats symbol.Colon us vs → ⊥)
      → Nothing (AreItems all) us → Nothing (AreEntries all) us → Nothing (IsPrimary all) ts
  no_list p a b f g y after (a_list q (no_element c)) = a after (along (λ zs. Eats symbol.RightBracket zs after) (same_rest p q) c)
  no_list p a b f g y after (a_list q (elements {items = xs} d)) = f xs after (along (λ zs. AreItems all xs zs after) (same_rest p q) d)
  no_list p a b f g y after (empty_map {vs = vs} q c d) = b vs (along (λ zs. Eats symbol.Colon zs vs) (same_rest p q) c)
  no_list p a b f g y after (a_map {ns = ns} q d) = g ns after (along (λ zs. AreEntries all ns zs after) (same_rest p q) d)
  no_list p a b f g y after d = let c = primary_first all d in let e = ap class (kind_eaten p) in omega arith

  pub no_empty_map : {ts us vs : List Token} → Eats symbol.LeftBracket ts us → Eats symbol.Colon us vs → ((ws : List Token) → Eats symbol.RightBracket vs ws → ⊥) → Nothing (IsPrimary all) ts
  no_empty_map p c f y after (a_list q d) = elements_or_colon all (same_rest q p) d c
  no_empty_map p c f y after (empty_map q e d) = f after (along (λ zs. Eats symbol.RightBracket zs after) (eaten_same (same_rest p q) c e) d)
  no_empty_map p c f y after (a_map q d) = entries_or_colon all (same_rest q p) d c
  no_empty_map p c f y after d = let a = primary_first all d in let b = ap class (kind_eaten p) in omega arith

  pub no_primary : {ts : List Token} → atom_of (kind_of ts) ≡ None → ((us : List Token) → Eats symbol.LeftParen ts us → ⊥) → ((us : List Token) → EatsKeyword keyword.New ts us → ⊥) → Nothing (IsGString all) ts
      → Nothing (IsClosure all) ts → ((us : List Token) → Eats symbol.LeftBracket ts us → ⊥) → Nothing (IsPrimary all) ts
  no_primary a b c d e f y after (an_atom p) = cc
  no_primary a b c d e f y after (a_gstring p) = d _ _ p
  no_primary a b c d e f y after (parens p q r) = b _ p
  no_primary a b c d e f y after (a_list p q) = f _ p
  no_primary a b c d e f y after (empty_map p q r) = f _ p
  no_primary a b c d e f y after (a_map p q) = f _ p
  no_primary a b c d e f y after (a_closure p) = e _ _ p
  no_primary a b c d e f y after (a_new p q r s) = c _ p
