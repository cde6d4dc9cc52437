-- Names, modifiers and what begins: what their tokens are, and where none stand.
use Rattle.std.proofs.Common.{◌≡◌, ◌≢◌, ◌<◌, ◌==◌, ℕ, Bool, true, false, ◌||◌, List, [], ◌∷◌, drop, length, refl, sym, ap, subst, ◌∙◌, arith, Option, Some, None, MatchBool}
use Rattle.std.specs.Option.{is_some}
use Rattle.gv_spelling.specs.declared.kinds.Keyword.{Keyword}
use Rattle.gv_spelling.specs.declared.kinds.Keyword.TheVariants as keyword
use Rattle.gv_spelling.specs.declared.kinds.Symbol.TheVariants as symbol
use Rattle.gv_lex.specs.declared.token.Token.{Token}
use Rattle.gv_lex.specs.declared.token.TokenKind.{TokenKind}
use Rattle.gv_lex.specs.declared.token.TokenKind.TheVariants as kind
use Rattle.gv_lex.specs.declared.token.Word.TheVariants as word
use Rattle.gv_tree.specs.declared.ops.Ident.{Ident}
use Rattle.gv_tree.specs.declared.ops.Modifiers.{Modifiers}
use Rattle.gv_tree.specs.declared.ops.TypeTree.{TypeTree}
use Rattle.gv_tree.specs.declared.top.Answer.{Answer}
use Rattle.gv_grammar.specs.Tokens.{Eats, EatsKeyword, eats_keyword, EatsEnd, eats_end, kind_of, place_of, name_of, type_name_of, type_of, ident}
use Rattle.gv_grammar.specs.Phrases.{Nothing, Takes}
use Rattle.gv_grammar.specs.Stmts.{IsVarType, var_def, var_typed}
use Rattle.gv_grammar.specs.Scripts.{no_modifiers, with_modifier, modified, AreModifiers, no_modifier, a_modifier, IsDotted, last_dotted, more_dotted, MayName, a_name, no_name, IsAnswer, a_void, an_answer}
use Rattle.gv_grammar.proofs.Single.{along, as_same, eaten_same, kind_eaten, keyword_same, meant}
use Rattle.gv_grammar.proofs.Lengths.{of_as}
use Rattle.gv_grammar.proofs.Longest.{symbol_eaten, keyword_here, as_here, as_rest}
use Rattle.gv_grammar.proofs.StmtFirsts.{keyword_eaten}
use Rattle.gv_decls.specs.Phrases.{IsName}
use Rattle.gv_decls.specs.Phrases as decls
use Rattle.gv_stmts.specs.Members.{IsTypeName, a_type_name, BeginsAnswer, begins_answer, BeginsMethod, begins_method, BeginsConstructor, begins_constructor}

-- ---- the names of classes

pub type_name_here : {n : ℕ} (ts : List Token) → type_name_of (kind_of ts) ≡ Some n → IsTypeName (ident (place_of ts) n) ts (drop 1 ts)
type_name_here ts h = a_type_name (as_here ts refl h)

pub class_named : {k : Keyword} {x : Ident} {ts us rest : List Token} → EatsKeyword k ts us → IsTypeName x us rest → MayName k (Some x) ts rest
class_named p (a_type_name q) = a_name p q

pub not_named : {k : Keyword} {ts us : List Token} → EatsKeyword k ts us → Nothing IsTypeName us → Nothing (MayName k) ts
not_named p f y after (a_name {n = n} {us = us} {rest = r} q m) = f _ _ (along (λ zs. IsTypeName (ident (place_of us) n) zs r) (keyword_same p q) (a_type_name m))
not_named p f y after (no_name g) = let a = keyword_eaten p in g (a.0) (a.1)

pub unnamed : {k : Keyword} {ts us : List Token} → us ≡ ts → ((after : List Token) → EatsKeyword k ts after → ⊥) → MayName k None ts us
unnamed {k = k} {ts = ts} e f = along (λ zs. MayName k None ts zs) e (no_name (λ n h. f _ (keyword_here ts h)))

-- ---- the end of a list

pub end_here : (b : Bool) (ts us : List Token) → b ≡ false → b ≡ (length ts == 0) → kind_of ts ≡ kind.End → us ≡ drop 1 ts → EatsEnd ts us
end_here b [] us p q h e = cc
end_here b (t ∷ ts) us p q h e = along (λ zs. EatsEnd (t ∷ ts) zs) e (eats_end h)

-- ---- names with dots

pub of_name : {i : Ident} {ts us : List Token} → IsName i ts us → Takes 1 ts us
of_name (decls.a_name p) = of_as p

pub last_name : {i : Ident} {ts us : List Token} → IsName i ts us → ((after : List Token) → Eats symbol.Dot us after → ⊥) → IsDotted (i ∷ []) ts us
last_name {us = us} (decls.a_name p) f = last_dotted p (λ h. f _ (symbol_eaten us h))

pub more_names : {i : Ident} {is : List Ident} {ts us vs rest : List Token} → IsName i ts us → Eats symbol.Dot us vs → IsDotted is vs rest → IsDotted (i ∷ is) ts rest
more_names (decls.a_name p) c d = more_dotted p c d

pub no_dotted_name : {ts : List Token} → Nothing IsName ts → Nothing IsDotted ts
no_dotted_name f y after (last_dotted p g) = f _ _ (decls.a_name p)
no_dotted_name f y after (more_dotted p c d) = f _ _ (decls.a_name p)

pub no_more_names : {i : Ident} {ts us vs : List Token} → IsName i ts us → Eats symbol.Dot us vs → Nothing IsDotted vs → Nothing IsDotted ts
no_more_names (decls.a_name p) c f y after (last_dotted q g) = let a = as_same p q in g (along (λ zs. kind_of zs ≡ kind.Symbol symbol.Dot) (sym (a.rest)) (kind_eaten c))
no_more_names (decls.a_name p) c f y after (more_dotted {ns = ns} q d e) = let a = as_same p q in f _ _ (along (λ zs. IsDotted ns zs after) (eaten_same (a.rest) c d) e)

-- ---- how a method's answer is written

pub no_answer : (tokens : List Token) {ts us : List Token} → us ≡ ts → ((after : List Token) → EatsKeyword keyword.Void ts after → ⊥) → Nothing (IsVarType tokens) us → Nothing (IsAnswer tokens) ts
no_answer tokens e f g y after (a_void p) = f after p
no_answer tokens e f g y after (an_answer {v = v} d) = g v after (along (λ zs. IsVarType tokens v zs after) e d)

pub void_begins : {n : ℕ} (ts : List Token) → kind_of ts ≡ kind.Word (word.Keyword keyword.Void) n → BeginsAnswer ts
void_begins ts h = begins_answer {tokens = []} (a_void (keyword_here ts h))

pub def_begins : {n : ℕ} (ts : List Token) → kind_of ts ≡ kind.Word (word.Keyword keyword.Def) n → BeginsAnswer ts
def_begins ts h = begins_answer {tokens = []} (an_answer (var_def (keyword_here ts h)))

pub type_begins : {type : TypeTree} (ts : List Token) → type_of (place_of ts) (kind_of ts) ≡ Some type → BeginsAnswer ts
type_begins [] h = cc
type_begins (t ∷ ts) h = begins_answer {tokens = []} (an_answer (var_typed h))

pub no_answer_begins : {ts : List Token} → ((n : ℕ) → kind_of ts ≡ kind.Word (word.Keyword keyword.Void) n → ⊥) → ((n : ℕ) → kind_of ts ≡ kind.Word (word.Keyword keyword.Def) n → ⊥)
    → type_of (place_of ts) (kind_of ts) ≡ None → BeginsAnswer ts → ⊥
no_answer_begins f g h (begins_answer (a_void p)) = let a = keyword_eaten p in f (a.0) (a.1)
no_answer_begins f g h (begins_answer (an_answer (var_def p))) = let a = keyword_eaten p in g (a.0) (a.1)
no_answer_begins f g h (begins_answer (an_answer (var_typed p))) = cc

some_of : {A : Type 0} (o : Option A) → is_some o ≡ true → (x : A) × (o ≡ Some x)
some_of (Some x) h = (x, refl)
some_of None h = cc

none_of : {A : Type 0} (o : Option A) → is_some o ≡ false → o ≡ None
none_of (Some x) h = cc
none_of None h = refl

pub type_told : (b : Bool) (ts : List Token) (o : Option TypeTree) → is_some o ≡ b → o ≡ type_of (place_of ts) (kind_of ts)
    → ((n : ℕ) → kind_of ts ≡ kind.Word (word.Keyword keyword.Void) n → ⊥) → ((n : ℕ) → kind_of ts ≡ kind.Word (word.Keyword keyword.Def) n → ⊥)
    → MatchBool b (BeginsAnswer ts) (BeginsAnswer ts → ⊥)
type_told true ts o h e f g = let a = some_of o h in type_begins ts (sym e ∙ a.1)
type_told false ts o h e f g = no_answer_begins f g (sym e ∙ none_of o h)

-- an answer is one token
keyword_rest : {k : Keyword} {ts us : List Token} → EatsKeyword k ts us → us ≡ drop 1 ts
keyword_rest (eats_keyword p) = refl

answer_rest : {tokens : List Token} {x : Answer} {ts us : List Token} → IsAnswer tokens x ts us → us ≡ drop 1 ts
answer_rest (a_void p) = keyword_rest p
answer_rest (an_answer (var_def p)) = keyword_rest p
answer_rest (an_answer (var_typed p)) = refl

pub method_begins : {n : ℕ} {ts : List Token} → BeginsAnswer ts → name_of (kind_of (drop 1 ts)) ≡ Some n → kind_of (drop 1 (drop 1 ts)) ≡ kind.Symbol symbol.LeftParen → BeginsMethod ts
method_begins {ts = ts} (begins_answer {tokens = tokens} {a = a} d) p q =
    begins_method {tokens = tokens} (subst (λ zs. IsAnswer tokens a ts zs) (answer_rest d) d) (as_here (drop 1 ts) refl p) (symbol_eaten (drop 1 (drop 1 ts)) q)

pub no_method_answer : {ts : List Token} → (BeginsAnswer ts → ⊥) → BeginsMethod ts → ⊥
no_method_answer f (begins_method {tokens = tokens} d i p) = f (begins_answer {tokens = tokens} d)

no_name_there : {ts : List Token} → name_of (kind_of (drop 1 ts)) ≡ None → BeginsMethod ts → ⊥
no_name_there h (begins_method d i p) = let a = meant i in let b = ap (λ zs. name_of (kind_of zs)) (answer_rest d) in cc

pub no_method_name : {ts us : List Token} {o : Option ℕ} {c : TokenKind} → is_some o ≡ false → o ≡ name_of c → c ≡ kind_of us → us ≡ drop 1 ts → BeginsMethod ts → ⊥
no_method_name {ts = ts} {us = us} {o = o} {c = c} h e f g d = no_name_there (sym (ap (λ zs. name_of (kind_of zs)) g) ∙ (sym (ap name_of f) ∙ (sym e ∙ none_of o h))) d

pub no_method_paren : {ts : List Token} → kind_of (drop 1 (drop 1 ts)) ≢ kind.Symbol symbol.LeftParen → BeginsMethod ts → ⊥
no_method_paren h (begins_method d i p) = let a = kind_eaten p in let b = as_rest i in let c = ap (λ zs. kind_of (drop 1 zs)) (answer_rest d) in let e = ap kind_of b in h cc

pub paren_begins : {ts us : List Token} (b : Bool) {o : Option ℕ} {k c : TokenKind} → BeginsAnswer ts → is_some o ≡ true → o ≡ name_of k → k ≡ kind_of us → us ≡ drop 1 ts → c ≡ kind_of (drop 1 us)
    → MatchBool b (c ≡ kind.Symbol symbol.LeftParen) (c ≢ kind.Symbol symbol.LeftParen) → MatchBool b (BeginsMethod ts) (BeginsMethod ts → ⊥)
paren_begins {ts = ts} {us = us} true {o = o} d p e f g h q = let a = some_of o p in method_begins d (sym (ap (λ zs. name_of (kind_of zs)) g) ∙ (sym (ap name_of f) ∙ (sym e ∙ a.1))) (sym (ap (λ zs. kind_of (drop 1 zs)) g) ∙ (sym h ∙ q))
paren_begins {ts = ts} {us = us} false d p e f g h q = no_method_paren (λ k. q (h ∙ (ap (λ zs. kind_of (drop 1 zs)) g ∙ k)))

pub constructor_begins : {n class : ℕ} (b : Bool) (ts : List Token) {c : TokenKind} → type_name_of (kind_of ts) ≡ Some n → n ≡ class → c ≡ kind_of (drop 1 ts)
    → MatchBool b (c ≡ kind.Symbol symbol.LeftParen) (c ≢ kind.Symbol symbol.LeftParen) → MatchBool b (BeginsConstructor class ts) (BeginsConstructor class ts → ⊥)
constructor_begins {class = class} true ts p e f h = begins_constructor (as_here ts refl (subst (λ k. type_name_of (kind_of ts) ≡ Some k) e p)) (symbol_eaten (drop 1 ts) (sym f ∙ h))
constructor_begins {class = class} false ts p e f h = λ d. go d
  where
    go : BeginsConstructor class ts → ⊥
    go (begins_constructor q r) = let a = kind_eaten r in let b = ap kind_of (as_rest q) in h cc

-- ---- modifiers

-- both, in any order
abbrev pub joined : Modifiers → Modifiers → Modifiers
joined a b = record {
  is_public = a.is_public || b.is_public;
  is_private = a.is_private || b.is_private;
  is_protected = a.is_protected || b.is_protected;
  is_static = a.is_static || b.is_static;
  is_final = a.is_final || b.is_final;
}

or_true : (b : Bool) → b || true ≡ true
or_true true = refl
or_true false = refl

or_false : (b : Bool) → b || false ≡ b
or_false true = refl
or_false false = refl

pub none_joined : (m : Modifiers) → joined m no_modifiers ≡ m
none_joined m = rw (or_false m.is_public, or_false m.is_private, or_false m.is_protected, or_false m.is_static, or_false m.is_final) refl

-- what a word does to two modifiers
pub record Modifies (k : TokenKind) (m b c : Modifiers) : Type 0 where
  pub n : Modifiers
  pub does : modified k b ≡ Some n
  pub same : joined m n ≡ joined c b

keyword_joins : (k : Keyword) (v : ℕ) (m b : Modifiers) {c : Modifiers} → with_modifier k m ≡ Some c → Modifies (kind.Word (word.Keyword k) v) m b c
keyword_joins keyword.Public v m b p = record { n = record b { is_public = true }; does = refl; same = let a = or_true m.is_public in cc }
keyword_joins keyword.Private v m b p = record { n = record b { is_private = true }; does = refl; same = let a = or_true m.is_private in cc }
keyword_joins keyword.Protected v m b p = record { n = record b { is_protected = true }; does = refl; same = let a = or_true m.is_protected in cc }
keyword_joins keyword.Static v m b p = record { n = record b { is_static = true }; does = refl; same = let a = or_true m.is_static in cc }
keyword_joins keyword.Final v m b p = record { n = record b { is_final = true }; does = refl; same = let a = or_true m.is_final in cc }
keyword_joins k v m b p = cc

joins : (k : TokenKind) (m b : Modifiers) {c : Modifiers} → modified k m ≡ Some c → Modifies k m b c
joins (kind.Word (word.Keyword k) v) m b p = keyword_joins k v m b p
joins other m b p = cc

-- the modifiers from here on, behind those that are found, are those from the start on
pub modifiers_go_on : (found more : Modifiers) (start us : List Token) → modified (kind_of us) found ≡ Some more
    → ((m : Modifiers) (after : List Token) → AreModifiers m us after → AreModifiers (joined found m) start after)
    → (m : Modifiers) (after : List Token) → AreModifiers m (drop 1 us) after → AreModifiers (joined more m) start after
modifiers_go_on found more start [] p f m after d = cc
modifiers_go_on found more start (t ∷ ts) p f m after d = let a = joins t.kind found m p in subst (λ w. AreModifiers w start after) (a.same) (f (a.n) after (a_modifier d (a.does)))

pub modifiers_end : (found : Modifiers) (start us : List Token) → modified (kind_of us) found ≡ None
    → ((m : Modifiers) (after : List Token) → AreModifiers m us after → AreModifiers (joined found m) start after) → AreModifiers found start us
modifiers_end found start us p f = subst (λ w. AreModifiers w start us) (none_joined found) (f no_modifiers us (no_modifier (unmodifies (kind_of us) found p)))
  where
    keyword_unmodifies : (k : Keyword) (m : Modifiers) → with_modifier k m ≡ None → with_modifier k no_modifiers ≡ None
    keyword_unmodifies keyword.Public m p = cc
    keyword_unmodifies keyword.Private m p = cc
    keyword_unmodifies keyword.Protected m p = cc
    keyword_unmodifies keyword.Static m p = cc
    keyword_unmodifies keyword.Final m p = cc
    keyword_unmodifies k m p = refl

    unmodifies : (c : TokenKind) (m : Modifiers) → modified c m ≡ None → modified c no_modifiers ≡ None
    unmodifies (kind.Word (word.Keyword k) n) m p = keyword_unmodifies k m p
    unmodifies other m p = refl

pub shorter : (found more : Modifiers) (us : List Token) → modified (kind_of us) found ≡ Some more → length (drop 1 us) < length us
shorter found more [] p = cc
shorter found more (t ∷ ts) p = omega arith
