-- What calls return in the readers of paths, suffixes and primaries, as what their callers return.
use Rattle.std.proofs.Common.{◌≡◌, ◌≢◌, ℕ, ◌<◌, Bool, true, false, List, [], ◌∷◌, ◌++◌, length, drop, arith, refl, sym, ap, subst, Result, Ok, Err, None, ◌⊎◌, inr, ◌∙◌}
use Rattle.gv_base.specs.declared.refusal.Place.{Place}
use Rattle.gv_spelling.specs.declared.kinds.Keyword.TheVariants as keyword
use Rattle.gv_spelling.specs.declared.kinds.Symbol.{Symbol}
use Rattle.gv_spelling.specs.declared.kinds.Symbol.TheVariants as symbol
use Rattle.gv_lex.specs.declared.token.Token.{Token}
use Rattle.gv_lex.specs.declared.token.TokenKind.TheVariants as kind
use Rattle.gv_lex.specs.declared.token.Word.TheVariants as word
use Rattle.gv_tree.specs.declared.expr.Arg.{Arg}
use Rattle.gv_tree.specs.declared.expr.Expr.{Expr}
use Rattle.gv_tree.specs.declared.expr.Expr.TheVariants as expr
use Rattle.gv_grammar.specs.Phrases.{Phrase, Longest, Nothing}
use Rattle.gv_grammar.specs.Tokens.{Eats, kind_of, place_of, member_of, postfix_of, atom_of}
use Rattle.gv_grammar.specs.Exprs.{takes_closures, plain, IsClosure, AreClosures, IsPath, GoesPath, path_ends, IsSuffix, IsGString, AreElements, AreEntries, IsPrimary, a_list, empty_map, a_map}
use Rattle.gv_grammar.proofs.Firsts.{class, primary_first}
use Rattle.gv_grammar.proofs.Lengths.{less, of_eats}
use Rattle.gv_grammar.proofs.Longest.{symbol_eaten}
use Rattle.gv_grammar.proofs.LongerOperators as operators
use Rattle.gv_grammar.proofs.LongerPaths as longer
use Rattle.gv_grammar.proofs.Single.{along, kind_eaten, same_rest}
use Rattle.gv_grammar.proofs.Skipped.{no_closure_open, closures_none}
use Rattle.gv_cursor.specs.declared.error.ReadError.{ReadError}
use Rattle.gv_cursor.specs.declared.error.ReadError.TheVariants.{Refused, OutOfMemory}
use Rattle.gv_cursor.specs.Reading.{Fails, Reads, Extended}
use Rattle.gv_cursor.proofs.Steps.{keyword_not_eaten}
use Rattle.gv_exprs.specs.Elements.{IsListOrMap, a_list_of, an_empty_map, a_map_of}

pub refused_here : {A : Type 0} (S : Phrase A) {e : ReadError} (ts : List Token) → e ≡ Refused → Nothing S ts → Fails S e ts
refused_here S ts q f = subst (λ w. Fails S w ts) (sym q) f

-- a symbol that is seen is passed
pub passed : {s : Symbol} (ts : List Token) {us : List Token} → kind_of ts ≡ kind.Symbol s → us ≡ drop 1 ts → Eats s ts us
passed {s = s} ts h p = subst (λ zs. Eats s ts zs) (sym p) (symbol_eaten ts h)

pub passed_less : {s : Symbol} (ts us : List Token) → kind_of ts ≡ kind.Symbol s → us ≡ drop 1 ts → length us < length ts
passed_less ts us h p = less (of_eats (passed ts h p))

module _ (all : ℕ) where
  -- the two halves of an extension by a suffix
  pub suffixed : {x y : Expr} {ts rest : List Token} (found : Bool) → found ≡ true → Extended (IsSuffix all) x y found ts rest → IsSuffix all x y ts rest
  suffixed true h d = d
  suffixed false h d = cc

  pub not_suffixed : {x y : Expr} {ts rest : List Token} (found : Bool) → found ≡ false → Extended (IsSuffix all) x y found ts rest → (y ≡ x) × (rest ≡ ts) × Nothing (IsSuffix all x) ts
  not_suffixed true h d = cc
  not_suffixed false h d = d

  pub reads_path : {x : Expr} (ts us rest : List Token) (r : Result Expr ReadError) → Longest (IsPrimary all) x ts us → Reads (GoesPath all x) r us rest → Reads (IsPath all) r ts rest
  reads_path ts us rest (Ok y) l d = operators.long_path all l d
  reads_path ts us rest (Err OutOfMemory) l d = tt
  reads_path {x = x} ts us rest (Err Refused) l d = absurd (d x us path_ends)

  pub reads_suffixed : {x y : Expr} (ts us rest : List Token) (r : Result Expr ReadError) → IsSuffix all x y ts us → Reads (GoesPath all y) r us rest → Reads (GoesPath all x) r ts rest
  reads_suffixed ts us rest (Ok z) s d = operators.path_tail_goes_on all s d
  reads_suffixed ts us rest (Err OutOfMemory) s d = tt
  reads_suffixed {y = y} ts us rest (Err Refused) s d = absurd (d y us path_ends)

  -- ---- closures as arguments

  plain_none : (fs : List Expr) → plain all fs ≡ [] → fs ≡ []
  plain_none [] h = refl
  plain_none (f ∷ fs) h = cc

  module _ (x : Expr) {ts : List Token} (a : kind_of ts ≢ kind.Symbol symbol.LeftParen) (b : kind_of ts ≢ kind.Symbol symbol.LeftBracket) (c : member_of (kind_of ts) ≡ None)
      (d : kind_of ts ≢ kind.Symbol symbol.FieldDot) (e : postfix_of (kind_of ts) ≡ None) where
    pub unsuffixed : (takes_closures x ≡ false) ⊎ Nothing (IsClosure all) ts → Nothing (IsSuffix all x) ts
    unsuffixed f = longer.no_suffix all (λ us p. a (kind_eaten p)) (λ us p. b (kind_eaten p)) c (λ us p. d (kind_eaten p)) e f

    pub no_closures : {before args : List Arg} (fs : List Expr) {rest : List Token} → AreClosures all fs ts rest → args ≡ before ++ plain all fs → before ≡ [] → args ≡ [] → (rest ≡ ts) × Nothing (IsSuffix all x) ts
    no_closures {before = before} fs g p q h =
        let i : plain all fs ≡ [] = ap (λ w. w ++ plain all fs) (sym q) ∙ (sym p ∙ h) in
        let j = closures_none all g (plain_none fs i) in (j.0, unsuffixed (inr (j.1)))

  pub some_closures : {x : Expr} {before args : List Arg} (fs : List Expr) {ts rest : List Token} → takes_closures x ≡ true → AreClosures all fs ts rest → args ≡ before ++ plain all fs → before ≡ [] → args ≢ []
      → IsSuffix all x (expr.Call (place_of ts) x args) ts rest
  some_closures {x = x} {args = args} fs {ts = ts} {rest = rest} t g p q h =
      let i : args ≡ plain all fs = p ∙ ap (λ w. w ++ plain all fs) q in
      subst (λ w. IsSuffix all x (expr.Call (place_of ts) x w) ts rest) (sym i) (longer.closures_here all t g (λ j. h (i ∙ ap (plain all) j)))

  -- ---- primaries

  listed : {y : Expr} {ts us rest : List Token} → Eats symbol.LeftBracket ts us → IsListOrMap all (place_of ts) y us rest → IsPrimary all y ts rest
  listed p (a_list_of d) = a_list p d
  listed p (an_empty_map c e) = empty_map p c e
  listed p (a_map_of d) = a_map p d

  unlisted : {ts us : List Token} → Eats symbol.LeftBracket ts us → Nothing (IsListOrMap all (place_of ts)) us → Nothing (IsPrimary all) ts
  unlisted p f y after (a_list {items = xs} q d) = f _ after (a_list_of (along (λ zs. AreElements all xs zs after) (same_rest p q) d))
  unlisted p f y after (empty_map {vs = vs} q c d) = f _ after (an_empty_map (along (λ zs. Eats symbol.Colon zs vs) (same_rest p q) c) d)
  unlisted p f y after (a_map {ns = ns} q d) = f _ after (a_map_of (along (λ zs. AreEntries all ns zs after) (same_rest p q) d))
  unlisted p f y after d = let a = primary_first all d in let b = ap class (kind_eaten p) in omega arith

  pub reads_brackets : (place : Place) (ts us rest : List Token) (r : Result Expr ReadError) → place ≡ place_of ts → Eats symbol.LeftBracket ts us → Reads (IsListOrMap all place) r us rest → Reads (IsPrimary all) r ts rest
  reads_brackets place ts us rest (Ok y) h p d = longer.long_primary all (listed p (subst (λ w. IsListOrMap all w y us rest) h d.is))
  reads_brackets place ts us rest (Err OutOfMemory) h p d = tt
  reads_brackets place ts us rest (Err Refused) h p d = unlisted p (subst (λ w. Nothing (IsListOrMap all w) us) h d)

  pub unread_primary : {ts : List Token} → atom_of (kind_of ts) ≡ None → kind_of ts ≢ kind.Symbol symbol.LeftParen → kind_of ts ≢ kind.Symbol symbol.LeftBracket → kind_of ts ≢ kind.Symbol symbol.LeftBrace
      → ((n : ℕ) → kind_of ts ≡ kind.Word (word.Keyword keyword.New) n → ⊥) → Nothing (IsGString all) ts → Nothing (IsPrimary all) ts
  unread_primary a b c d e f = longer.no_primary all a (λ us p. b (kind_eaten p)) (λ us p. keyword_not_eaten e p) f (no_closure_open all (λ us p. d (kind_eaten p))) (λ us p. c (kind_eaten p))
