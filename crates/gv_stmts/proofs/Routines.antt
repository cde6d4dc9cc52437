-- Methods and classes: what their parts read make, and where none stand.
use Rattle.std.proofs.Common.{◌≡◌, ℕ, List, Option}
use Rattle.gv_spelling.specs.declared.kinds.Keyword.TheVariants as keyword
use Rattle.gv_spelling.specs.declared.kinds.Symbol.TheVariants as symbol
use Rattle.gv_lex.specs.declared.token.Token.{Token}
use Rattle.gv_tree.specs.declared.expr.Param.{Param}
use Rattle.gv_tree.specs.declared.ops.Ident.{Ident}
use Rattle.gv_tree.specs.declared.ops.Modifiers.{Modifiers}
use Rattle.gv_tree.specs.declared.stmt.Stmt.{Stmt}
use Rattle.gv_tree.specs.declared.top.Annotation.{Annotation}
use Rattle.gv_tree.specs.declared.top.Answer.{Answer}
use Rattle.gv_tree.specs.declared.top.Member.{Member}
use Rattle.gv_grammar.specs.Tokens.{Eats, EatsKeyword, EatsAs, name_of, type_name_of}
use Rattle.gv_grammar.specs.Phrases.{Phrase, Nothing}
use Rattle.gv_grammar.specs.Stmts.{MayLine, AreParams, IsBlock}
use Rattle.gv_grammar.specs.Scripts.{MayName, IsAnswer, IsRoutine, routine, AreMembers}
use Rattle.gv_grammar.proofs.Single.{along, along2, as_same, eaten_same, keyword_same, same_rest}
use Rattle.gv_grammar.proofs.Stmts.{may_line_once, params_once, by_paren}
use Rattle.gv_grammar.proofs.Scripts.{answer_once, name_once}
use Rattle.gv_decls.specs.Phrases.{IsName, a_name}
use Rattle.gv_stmts.specs.Members.{IsTypeName, a_type_name, GoesMethod, goes_method, GoesClass, goes_class}

record SameName (i : Ident) (ts : List Token) (n : ℕ) (us : List Token) : Type 0 where
  name : i.name ≡ n
  rest : ts ≡ us

module _ (tokens : List Token) where
  -- ---- parameters and a block

  abbrev pub Routine : Phrase (List Param × List Stmt)
  Routine r ts rest = IsRoutine tokens r.0 r.1 ts rest

  pub no_routine_params : {ts us : List Token} → Eats symbol.LeftParen ts us → Nothing (AreParams tokens symbol.RightParen) us → Nothing Routine ts
  no_routine_params p f y after (routine {ps = ps} {vs = vs} o d l b) = f ps vs (along (λ zs. AreParams tokens symbol.RightParen ps zs vs) (same_rest p o) d)

  pub no_routine_body : {ps : List Param} {ts us vs ws : List Token} → Eats symbol.LeftParen ts us → AreParams tokens symbol.RightParen ps us vs → MayLine vs ws → Nothing (IsBlock tokens) ws → Nothing Routine ts
  no_routine_body p e m f y after (routine {ps = ps} {b = b} {vs = vs} {ws = ws} o d l k) =
      let a = params_once tokens by_paren e (along (λ zs. AreParams tokens symbol.RightParen ps zs vs) (same_rest p o) d) in
      f b after (along (λ zs. IsBlock tokens b zs after) (may_line_once m (along (λ zs. MayLine zs ws) (a.rest) l)) k)

  -- ---- methods

  module _ (notes : List Annotation) (m : Modifiers) where
    pub method_goes : {a : Answer} {i : Ident} {ps : List Param} {b : List Stmt} {ts us vs rest : List Token} → IsAnswer tokens a ts us → IsName i us vs → IsRoutine tokens ps b vs rest
        → GoesMethod tokens notes m (record { annotations = notes; modifiers = m; answer = a; ident = i; params = ps; body = b }) ts rest
    method_goes d (a_name p) r = goes_method d p r

    pub unanswered : {ts : List Token} → Nothing (IsAnswer tokens) ts → Nothing (GoesMethod tokens notes m) ts
    unanswered f y after (goes_method d i r) = f _ _ d

    pub unnamed_method : {a : Answer} {ts us : List Token} → IsAnswer tokens a ts us → Nothing IsName us → Nothing (GoesMethod tokens notes m) ts
    unnamed_method d f y after (goes_method {n = n} {vs = vs} e i r) = let a = answer_once tokens d e in f _ vs (a_name (along (λ zs. EatsAs name_of n zs vs) (a.rest) i))

    pub empty_method : {a : Answer} {i : Ident} {ts us vs : List Token} → IsAnswer tokens a ts us → IsName i us vs → Nothing Routine vs → Nothing (GoesMethod tokens notes m) ts
    empty_method d (a_name p) f y after (goes_method {n = n} {ps = ps} {b = b} {vs = vs} e i r) =
        let a = answer_once tokens d e in
        let h = as_same p (along (λ zs. EatsAs name_of n zs vs) (a.rest) i) in
        f (ps, b) after (along (λ zs. IsRoutine tokens ps b zs after) (h.rest) r)

    -- ---- classes

    pub class_goes : {i : Ident} {super interface : Option Ident} {ms : List Member} {ts us vs ws xs ys zs rest : List Token} → EatsKeyword keyword.Class ts us → IsTypeName i us vs
        → MayName keyword.Extends super vs ws → MayName keyword.Implements interface ws xs → MayLine xs ys → Eats symbol.LeftBrace ys zs → AreMembers tokens i.name ms zs rest
        → GoesClass tokens notes m (record { annotations = notes; modifiers = m; ident = i; superclass = super; interface = interface; members = ms }) ts rest
    class_goes k (a_type_name p) e f l o d = goes_class k p e f l o d

    -- as far as a class is read
    pub record UpToName (i : Ident) (ts vs : List Token) : Type 0 where
      pub us : List Token
      pub class : EatsKeyword keyword.Class ts us
      pub name : IsTypeName i us vs

    pub record UpToSuper (i : Ident) (ts ws : List Token) : Type 0 where
      pub vs : List Token
      pub named : UpToName i ts vs
      pub super : Option Ident
      pub extended : MayName keyword.Extends super vs ws

    pub record UpToInterface (i : Ident) (ts xs : List Token) : Type 0 where
      pub ws : List Token
      pub upto : UpToSuper i ts ws
      pub interface : Option Ident
      pub implemented : MayName keyword.Implements interface ws xs

    pub record UpToBrace (i : Ident) (ts zs : List Token) : Type 0 where
      pub xs : List Token
      pub ys : List Token
      pub upto : UpToInterface i ts xs
      pub line : MayLine xs ys
      pub brace : Eats symbol.LeftBrace ys zs

    pub no_class_name : {ts us : List Token} → EatsKeyword keyword.Class ts us → Nothing IsTypeName us → Nothing (GoesClass tokens notes m) ts
    no_class_name p f y after (goes_class {n = n} {vs = vs} k i e g l o d) = f _ vs (a_type_name (along (λ zs. EatsAs type_name_of n zs vs) (keyword_same p k) i))

    -- where the names of two readings end
    named_once : {i : Ident} {n : ℕ} {ts vs us ws : List Token} → UpToName i ts vs → EatsKeyword keyword.Class ts us → EatsAs type_name_of n us ws → SameName i vs n ws
    named_once u k p = go (u.class) (u.name) k p
      where
        go : {i : Ident} {n : ℕ} {ts us vs ws xs : List Token} → EatsKeyword keyword.Class ts us → IsTypeName i us vs → EatsKeyword keyword.Class ts ws → EatsAs type_name_of n ws xs → SameName i vs n xs
        go {n = n} {xs = xs} k (a_type_name p) l q = let a = as_same p (along (λ zs. EatsAs type_name_of n zs xs) (keyword_same k l) q) in record { name = a.tree; rest = a.rest }

    super_once : {i : Ident} {n : ℕ} {s : Option Ident} {ts us vs ws xs : List Token} → UpToSuper i ts xs → EatsKeyword keyword.Class ts us → EatsAs type_name_of n us vs → MayName keyword.Extends s vs ws → SameName i xs n ws
    super_once {s = s} {ws = ws} u k p e =
        let a = named_once (u.named) k p in
        let b = name_once (u.extended) (along (λ zs. MayName keyword.Extends s zs ws) (a.rest) e) in
        record { name = a.name; rest = b.rest }

    interface_once : {i : Ident} {n : ℕ} {s t : Option Ident} {ts us vs ws xs ys : List Token} → UpToInterface i ts ys → EatsKeyword keyword.Class ts us → EatsAs type_name_of n us vs
        → MayName keyword.Extends s vs ws → MayName keyword.Implements t ws xs → SameName i ys n xs
    interface_once {t = t} {xs = xs} u k p e f =
        let a = super_once (u.upto) k p e in
        let b = name_once (u.implemented) (along (λ zs. MayName keyword.Implements t zs xs) (a.rest) f) in
        record { name = a.name; rest = b.rest }

    pub no_class_super : {i : Ident} {ts vs : List Token} → UpToName i ts vs → Nothing (MayName keyword.Extends) vs → Nothing (GoesClass tokens notes m) ts
    no_class_super u f y after (goes_class {super = s} {ws = ws} k p e g l o d) = let a = named_once u k p in f s ws (along (λ zs. MayName keyword.Extends s zs ws) (a.rest) e)

    pub no_class_interface : {i : Ident} {ts ws : List Token} → UpToSuper i ts ws → Nothing (MayName keyword.Implements) ws → Nothing (GoesClass tokens notes m) ts
    no_class_interface u f y after (goes_class {interface = t} {xs = xs} k p e g l o d) = let a = super_once u k p e in f t xs (along (λ zs. MayName keyword.Implements t zs xs) (a.rest) g)

    pub no_class_brace : {i : Ident} {ts xs ys : List Token} → UpToInterface i ts xs → MayLine xs ys → ((after : List Token) → Eats symbol.LeftBrace ys after → ⊥) → Nothing (GoesClass tokens notes m) ts
    no_class_brace u h f y after (goes_class {ys = ys} {zs = zs} k p e g l o d) =
        let a = interface_once u k p e g in
        f zs (along (λ qs. Eats symbol.LeftBrace qs zs) (may_line_once h (along (λ qs. MayLine qs ys) (a.rest) l)) o)

    pub no_class_members : {i : Ident} {ts zs : List Token} → UpToBrace i ts zs → Nothing (AreMembers tokens i.name) zs → Nothing (GoesClass tokens notes m) ts
    no_class_members {i = i} {zs = rs} u f y after (goes_class {n = n} {ms = ms} {ys = ys} {zs = zs} k p e g l o d) =
        let a = interface_once (u.upto) k p e g in
        let b = eaten_same (may_line_once (u.line) (along (λ qs. MayLine qs ys) (a.rest) l)) (u.brace) o in
        f ms after (along2 (λ c qs. AreMembers tokens c ms qs after) (a.name) b d)
